-- Names that are one edit away.
use Rattle.std.specs.Prelude.{ℕ, Bool, false, ◌&&◌, ◌||◌, if◌then◌else◌, nat_eq, bytes_eq, List, [], ◌∷◌, length}
use Rattle.sg_kinds.specs.Values.{Bytes}

-- the first two bytes are turned
abbrev pub is_turned : Bytes → Bytes → Bool
is_turned (x ∷ z ∷ xs) (y ∷ w ∷ ys) = nat_eq x w && (nat_eq z y && bytes_eq xs ys)
is_turned xs ys = false

-- one edit at the first byte: another one, one more, one less, or the first two turned
abbrev pub is_edit : Bytes → Bytes → Bool
is_edit (x ∷ xs) (y ∷ ys) =
    bytes_eq xs ys || (bytes_eq xs (y ∷ ys) || (bytes_eq (x ∷ xs) ys || is_turned (x ∷ xs) (y ∷ ys)))
is_edit (x ∷ xs) [] = nat_eq (length xs) 0
is_edit [] (y ∷ ys) = nat_eq (length ys) 0
is_edit [] [] = false

-- one edit behind what both begin with
abbrev pub is_near : Bytes → Bytes → Bool
is_near (x ∷ xs) (y ∷ ys) = if nat_eq x y then is_near xs ys else is_edit (x ∷ xs) (y ∷ ys)
is_near (x ∷ xs) [] = is_edit (x ∷ xs) []
is_near [] ys = is_edit [] ys
