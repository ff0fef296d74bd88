use Rattle.std.proofs.Common.{◌≤◌, ℕ}
use Rattle.sg_propagate.specs.Moves.{IsSeat}
use Rattle.sg_propagate.proofs.rise.seat_of.Given as goal

abbrev pub invariant-loop-i : goal.invariant-loop-i
invariant-loop-i l = (j m : ℕ) → j ≤ l.i → IsSeat l.plans l.op l.kid l.k j m → ⊥
