use Rattle.sg_kinds.specs.PatternView.{pattern_of, patterns_of}
use Rattle.sg_matching.proofs.Matched.{weight_of, weights_of}
use Rattle.sg_matching.proofs.bindings.+binding.Given as goal

abbrev pub decreases-bind : goal.decreases-bind
decreases-bind l = weight_of (pattern_of l.pattern.now)

abbrev pub decreases-bind_all : goal.decreases-bind_all
decreases-bind_all l = weights_of (patterns_of l.patterns.now)
