use Rattle.std.proofs.Common.{map}
use Rattle.sg_lalr.proofs.OpeningLemmas.{OpeningsTo}
use Rattle.sg_lalr.proofs.closure.openings.Given as goal

abbrev pub invariant-loop-x : goal.invariant-loop-x
invariant-loop-x l = OpeningsTo l.g (map (λ k. k.items) l.lists.items) l.x
