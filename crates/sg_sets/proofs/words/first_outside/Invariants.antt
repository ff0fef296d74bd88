use Rattle.std.proofs.Common.{ℕ, ◌<◌, ◌/◌}
use Rattle.sg_sets.specs.Words.{SharedBit}
use Rattle.sg_sets.proofs.OutsideLemmas.{flipped}
use Rattle.sg_sets.proofs.words.first_outside.Given as goal

abbrev pub invariant-loop-k : goal.invariant-loop-k
invariant-loop-k l = (a : ℕ) → a / 64 < l.k → ¬ (SharedBit l.words (flipped l.other) a)
