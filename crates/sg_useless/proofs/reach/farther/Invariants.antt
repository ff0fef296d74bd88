use Rattle.std.proofs.Common.{◌≡◌, ◌&&◌, ◌||◌, ℕ, take, length, nat_lt}
use Rattle.std.specs.List.{list_any}
use Rattle.sg_useless.specs.Reach.{flag, leads}
use Rattle.sg_useless.proofs.reach.farther.Given as goal

abbrev pub invariant-loop-step : goal.invariant-loop-step
invariant-loop-step l = record {
  flags : (n : ℕ) → flag l.next.items n ≡ (flag l.flags n || (nat_lt n (length l.flags) && list_any (leads (flag l.flags) n) (take l.step-index l.steps)));
  width : length l.next.items ≡ length l.flags;
}
