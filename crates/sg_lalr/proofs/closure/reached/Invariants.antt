use Rattle.std.proofs.Common.{◌-◌}
use Rattle.sg_lalr.proofs.CornerLemmas.{Reaching}
use Rattle.sg_lalr.proofs.closure.reached.Given as goal

abbrev pub invariant-reached : goal.invariant-reached
invariant-reached l = Reaching l.g.rules l.x l.g.symbols l.seen l.reached.items l.k

abbrev pub decreases-reached : goal.decreases-reached
decreases-reached l = l.g.symbols - l.k
