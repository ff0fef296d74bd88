-- The first line of a text, and the lines behind it.
use Rattle.std.specs.Prelude.{◌≡◌, refl, ℕ, suc, ◌+◌, ◌<◌, ◌≤◌, Bool, true, false, not, ◌==◌, nat_lt, cond, List, [], ◌∷◌, length, take, drop, Some, None, position}
use Rattle.std.specs.List.{slice_split, onto_first, position_or_len}
use Rattle.std.specs.Str.Lines.{lines, lines_of_parts, strip_carriage_return}
use Rattle.std.proofs.Common.{◌∙◌, ap, subst, arith}
use Rattle.std.proofs.lemmas.List.Splits.{slice_split_first}
use Rattle.sg_kinds.proofs.Elementary.{lt_is}
use Rattle.sg_script.specs.Script.{last_line}

abbrev is_newline : ℕ → Bool
is_newline b = b == 10

-- a part with others behind it is a line that ends
more_parts : (x bytes : List ℕ) → lines_of_parts (x ∷ slice_split is_newline bytes) ≡ strip_carriage_return x ∷ lines_of_parts (slice_split is_newline bytes)
more_parts x [] = refl
more_parts x (b ∷ bytes) = go (is_newline b) (slice_split is_newline bytes)
  where
    go : (t : Bool) (parts : List (List ℕ)) → lines_of_parts (x ∷ cond t ([] ∷ parts) (onto_first b parts)) ≡ strip_carriage_return x ∷ lines_of_parts (cond t ([] ∷ parts) (onto_first b parts))
    go true parts = refl
    go false [] = refl
    go false (part ∷ parts) = refl

-- the first line ends at the first newline
pub first_line_ends : (bytes : List ℕ) (n : ℕ) → position is_newline bytes ≡ Some n → (n < length bytes) × (lines bytes ≡ strip_carriage_return (take n bytes) ∷ lines (drop (n + 1) bytes))
first_line_ends bytes n h = go (nat_lt (position_or_len is_newline bytes) (length bytes)) refl h
  where
    go : (t : Bool) → nat_lt (position_or_len is_newline bytes) (length bytes) ≡ t → cond t (Some (position_or_len is_newline bytes)) None ≡ Some n → (n < length bytes) × (lines bytes ≡ strip_carriage_return (take n bytes) ∷ lines (drop (n + 1) bytes))
    go false e f = absurd cc
    go true e f =
        let at : position_or_len is_newline bytes ≡ n = cc in
        let l : position_or_len is_newline bytes < length bytes = lt_is (position_or_len is_newline bytes) (length bytes) e in
        let split = slice_split_first is_newline bytes 0 l in
        let m = more_parts (take (position_or_len is_newline bytes) bytes) (drop (position_or_len is_newline bytes + 1) bytes) in
        subst (λ (k : ℕ). (k < length bytes) × (lines bytes ≡ strip_carriage_return (take k bytes) ∷ lines (drop (k + 1) bytes))) at (l, ap lines_of_parts split ∙ m)

whole : (bytes : List ℕ) → length bytes ≤ position_or_len is_newline bytes → slice_split is_newline bytes ≡ bytes ∷ []
whole [] h = refl
whole (b ∷ bytes) h = go (is_newline b) h (whole bytes)
  where
    go : (t : Bool) → suc (length bytes) ≤ cond (not t) (1 + position_or_len is_newline bytes) 0 → (length bytes ≤ position_or_len is_newline bytes → slice_split is_newline bytes ≡ bytes ∷ []) → cond t ([] ∷ slice_split is_newline bytes) (onto_first b (slice_split is_newline bytes)) ≡ (b ∷ bytes) ∷ []
    go true l f = absurd (omega arith)
    go false l f = ap (onto_first b) (f (omega arith))

-- without a newline the text is one line, or none where it is empty
pub last_line_is : (bytes : List ℕ) → position is_newline bytes ≡ None → lines bytes ≡ last_line bytes
last_line_is bytes h = go (nat_lt (position_or_len is_newline bytes) (length bytes)) refl h
  where
    go : (t : Bool) → nat_lt (position_or_len is_newline bytes) (length bytes) ≡ t → cond t (Some (position_or_len is_newline bytes)) None ≡ None → lines bytes ≡ last_line bytes
    go true e f = absurd cc
    go false e f = ap lines_of_parts (whole bytes (grind arith))
