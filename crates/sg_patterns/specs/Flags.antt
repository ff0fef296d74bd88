-- Flags of a program's nodes.
use Rattle.std.specs.Prelude.{ℕ, Bool, false, List, slice_index_or}

-- the flag at a place, and false past the end
abbrev pub flag_at : List Bool → ℕ → Bool
flag_at flags k = slice_index_or flags k false
