use Rattle.std.proofs.Common.{ℕ, take}
use Rattle.sg_lalr.specs.Reductions.{ReducesBy}
use Rattle.sg_lalr.proofs.reductions.reduced.Given as goal

abbrev pub invariant-loop-reduction : goal.invariant-loop-reduction
invariant-loop-reduction l = (p : ℕ) → ReducesBy (take l.reduction-index l.reductions) p l.t → ⊥
