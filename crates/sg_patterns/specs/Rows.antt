-- Where the bytes of a text lead, worked out once for the flags that come about.
use Rattle.std.specs.Prelude.{◌≡◌, ℕ, ◌+◌, ◌*◌, ◌<◌, ◌≤◌, ◌-◌, Bool, false, true, List, [], length, Option, Some, None, nat_eq, slice_get, slice_index_or}
use Rattle.sg_patterns.specs.declared.program.Node.{Node}
use Rattle.sg_patterns.specs.declared.program.Node.TheVariants as node
use Rattle.sg_patterns.specs.declared.program.Next.{Next}
use Rattle.sg_patterns.specs.declared.program.Next.TheVariants.{Dead, To}
use Rattle.sg_patterns.specs.declared.program.State.{State}
use Rattle.sg_patterns.specs.declared.program.Rows.{Rows}
use Rattle.sg_patterns.specs.declared.program.Program.{Program}
use Rattle.sg_patterns.specs.Leaves.{passes}
use Rattle.sg_patterns.specs.Flags.{flag_at}
use Rattle.sg_patterns.specs.Marks.{HasBegins, HasFinalsTo, IsDead}

-- the flags of this number, and none past the end
abbrev pub flags_by : Option State → List Bool
flags_by None = []
flags_by (Some x) = x.flags.items

abbrev pub flags_of : List State → ℕ → List Bool
flags_of states s = flags_by (slice_get states s)

-- what is written for flags and a byte
abbrev pub next_at : List Next → ℕ → ℕ → Next
next_at next s b = slice_index_or next (256 * s + b) Dead

-- the byte leads from flags to others, where a match may begin before it or not
abbrev pub Leads : Program → Bool → ℕ → (f h : List Bool) → Type 0
Leads p starts b f h = (g : List Bool) × HasBegins p starts f g × HasFinalsTo p (length p.nodes.items) b g h

-- the byte leads from the flags of number s to flags without a marked leaf, or to those of another number; a match may
-- begin before it where s is 0 and nowhere else
abbrev pub IsNext : Program → List State → ℕ → ℕ → Next → Type 0
IsNext p states s b Dead =
    (h : List Bool) × Leads p (nat_eq s 0) b (flags_of states s) h × IsDead p (length p.nodes.items) h
IsNext p states s b (To t) =
    (0 < t) × (t < length states) × Leads p (nat_eq s 0) b (flags_of states s) (flags_of states t)

-- so it is with each byte of which something is written
abbrev pub AreNext : Program → List State → List Next → Type 0
AreNext p states next =
    (s b : ℕ) → s < length states → b < 256 → 256 * s + b < length next → IsNext p states s b (next_at next s b)

-- the flags of number 0 are those before any byte, and each byte leads from each flags to what is written
pub record AreRows (p : Program) (rows : Rows) : Type 0 where
  pub first : (k : ℕ) → flag_at (flags_of rows.states.items 0) k ≡ false
  pub full : length rows.next.items ≡ 256 * length rows.states.items
  pub next : AreNext p rows.states.items rows.next.items

-- a leaf matches both bytes or none
abbrev pub IsAlike : Node → ℕ → ℕ → Type 0
IsAlike (node.Leaf l) b c = passes l b ≡ passes l c
IsAlike x b c = Unit {0}

-- and so does each leaf
abbrev pub AreAlike : Program → ℕ → ℕ → Type 0
AreAlike p b c = (k : ℕ) (x : Node) → slice_get p.nodes.items k ≡ Some x → IsAlike x b c

-- a byte whose flag is up is like the one before it
abbrev pub AreRuns : Program → List Bool → Type 0
AreRuns p alike = (b : ℕ) → flag_at alike b ≡ true → AreAlike p (b - 1) b

-- the flags of each number stay
pub record Grows (old new : List State) : Type 0 where
  pub longer : length old ≤ length new
  pub kept : (s : ℕ) → s < length old → flags_of new s ≡ flags_of old s
