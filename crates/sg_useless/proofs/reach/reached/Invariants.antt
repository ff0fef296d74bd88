use Rattle.std.proofs.Common.{◌≡◌, ℕ, length}
use Rattle.sg_useless.specs.Reach.{flag, is_reached}
use Rattle.sg_useless.proofs.reach.reached.Given as goal

abbrev pub invariant-loop-round : goal.invariant-loop-round
invariant-loop-round l = record {
  flags : (n : ℕ) → flag l.flags.items n ≡ is_reached l.width l.starts l.steps l._round n;
  width : length l.flags.items ≡ l.width;
}
