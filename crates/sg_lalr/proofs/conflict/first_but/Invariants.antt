use Rattle.std.proofs.Common.{◌≡◌, ℕ, ◌<◌, ◌≤◌, Some}
use Rattle.sg_lalr.specs.declared.conflict.Deed.{Deed}
use Rattle.sg_lalr.specs.Clashes.{Does}
use Rattle.sg_lalr.proofs.conflict.first_but.Given as goal

abbrev pub invariant-loop-m : goal.invariant-loop-m
invariant-loop-m l = (k : ℕ) (a : Deed) → l.from ≤ k → k < l.m → Does l.g l.nodes l.rows.rows l.t k a → Some a ≡ l.but
