use Rattle.sg_kinds.specs.PatternView.{pattern_of, patterns_of}
use Rattle.sg_eval.proofs.Matched.{weight_of, weights_of}
use Rattle.sg_eval.proofs.patterns.+fitting.Given as goal

abbrev pub decreases-fits : goal.decreases-fits
decreases-fits l = weight_of (pattern_of l.pattern.now)

abbrev pub decreases-all_fit : goal.decreases-all_fit
decreases-all_fit l = weights_of (patterns_of l.patterns.now)
