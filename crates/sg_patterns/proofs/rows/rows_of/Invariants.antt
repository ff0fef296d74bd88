use Rattle.std.proofs.Common.{◌≡◌, ℕ, ◌*◌, ◌-◌, ◌≤◌, false, length}
use Rattle.sg_patterns.specs.Flags.{flag_at}
use Rattle.sg_patterns.specs.Rows.{AreNext, flags_of}
use Rattle.sg_patterns.proofs.rows.rows_of.Given as goal

abbrev pub invariant-entries : goal.invariant-entries
invariant-entries l = record {
  some : 1 ≤ length l.states.items;
  few : length l.states.items ≤ 32;
  within : length l.next.items ≤ 256 * length l.states.items;
  first : (k : ℕ) → flag_at (flags_of l.states.items 0) k ≡ false;
  next : AreNext l.program l.states.items l.next.items;
}

abbrev pub decreases-entries : goal.decreases-entries
decreases-entries l = 8192 - length l.next.items
