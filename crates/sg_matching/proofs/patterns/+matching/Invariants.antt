use Rattle.sg_kinds.specs.PatternView.{pattern_of, patterns_of}
use Rattle.sg_matching.proofs.Matched.{weight_of, weights_of}
use Rattle.sg_matching.proofs.patterns.+matching.Given as goal

abbrev pub decreases-is_match : goal.decreases-is_match
decreases-is_match l = weight_of (pattern_of l.pattern.now)

abbrev pub decreases-all_match : goal.decreases-all_match
decreases-all_match l = weights_of (patterns_of l.patterns.now)
