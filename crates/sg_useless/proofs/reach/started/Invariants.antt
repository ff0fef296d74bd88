use Rattle.std.proofs.Common.{◌≡◌, ◌&&◌, ℕ, take, length, nat_eq, nat_lt}
use Rattle.std.specs.List.{list_any}
use Rattle.sg_useless.specs.Reach.{flag}
use Rattle.sg_useless.proofs.reach.started.Given as goal

abbrev pub invariant-loop-start : goal.invariant-loop-start
invariant-loop-start l = record {
  flags : (n : ℕ) → flag l.flags.items n ≡ (nat_lt n l.width && list_any (nat_eq n) (take l.start-index l.starts));
  width : length l.flags.items ≡ l.width;
}
