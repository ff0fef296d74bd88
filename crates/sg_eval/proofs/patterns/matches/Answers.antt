use Rattle.std.proofs.Common.{ap}
use Rattle.sg_kinds.specs.PatternView.{pattern_of}
use Rattle.sg_kinds.specs.Evaluation.{bound_by}
use Rattle.sg_eval.proofs.Bindings.{live_stays}
use Rattle.sg_eval.proofs.Matched.{matched_later}
use Rattle.sg_eval.proofs.patterns.matches.Goals as goal

pub returns-in_ok-keep_made-clause-matched : goal.returns-in_ok-keep_made-clause-matched
returns-in_ok-keep_made-clause-matched c =
    matched_later c.args.pool.now c.keep_made.new.pool _ _ _ _ _ c.keep_made.ensures.grown
    (ap (bound_by c.args.spec.now (pattern_of c.args.pattern.now)) (live_stays c.args.pool.now c.keep_made.new.pool c.args.x c.keep_made.ensures.grown c.requires.known)) c.in_ok-matched.ensures
