-- Numbers that are reached along steps.
use Rattle.std.specs.Prelude.{ℕ, zero, suc, Bool, false, ◌&&◌, ◌||◌, List, nat_eq, nat_lt, slice_index_or}
use Rattle.std.specs.List.{list_any}
pub use Rattle.sg_useless.specs.declared.reach.Step.{Step}

-- whether the flag of a number stands
abbrev pub flag : List Bool → ℕ → Bool
flag flags n = slice_index_or flags n false

-- whether a step leads to a number from one that passes a test
abbrev pub leads : (ℕ → Bool) → ℕ → Step → Bool
leads test n s = nat_eq s.to n && test s.from

-- whether a number below the width is reached from the starts by at most so many steps
unfoldable pub is_reached : ℕ → List ℕ → List Step → ℕ → ℕ → Bool
is_reached width starts steps zero n = nat_lt n width && list_any (nat_eq n) starts
is_reached width starts steps (suc k) n = is_reached width starts steps k n
    || (nat_lt n width && list_any (leads (is_reached width starts steps k) n) steps)
