-- The loops that read digits and look for the end of a comment, a byte at a time.
use Rattle.std.proofs.Common.{◌≡◌, ℕ, zero, suc, ◌+◌, ◌*◌, ◌-◌, ◌<◌, ◌≤◌, List, [], ◌∷◌, length, get_or, take, drop, refl, ap, false, ◌&&◌, arith, add-one, drop-cons}
use Rattle.std.specs.Prelude.{fold, Option, Some, None, option_map, ◌==◌}
use Rattle.std.proofs.lemmas.Bool.Decides.{nat_tests}
use Rattle.std.proofs.lemmas.Grind.{elements}
use Rattle.sg_text.specs.Bytes.{star, slash}
use Rattle.sg_text.specs.Tokens.{comment_end}
use Rattle.std.proofs.lemmas.List.Sums.{fold_more}
use Rattle.sg_text.specs.Forms.{value_of}

-- more digits give no less
value-le-fold : (n : ℕ) (xs : List ℕ) → n ≤ fold (λ v d. v * 10 + (d - 48)) n xs
value-le-fold n [] = omega arith
value-le-fold n (x ∷ xs) = omega (arith, value-le-fold (n * 10 + (x - 48)) xs)

fold-take-le : (n k : ℕ) (xs : List ℕ) → fold (λ v d. v * 10 + (d - 48)) n (take k xs) ≤ fold (λ v d. v * 10 + (d - 48)) n xs
fold-take-le n zero xs = value-le-fold n xs
fold-take-le n (suc k) [] = omega arith
fold-take-le n (suc k) (x ∷ xs) = fold-take-le (n * 10 + (x - 48)) k xs

-- one more digit
pub value_of-more : (xs : List ℕ) (i : ℕ) → i < length xs → value_of (take (i + 1) xs) ≡ value_of (take i xs) * 10 + (get_or xs i 0 - 48)
value_of-more xs i h = fold_more (λ v d. v * 10 + (d - 48)) 0 xs i 0 h

-- the digits so far and one more are at most the whole
pub value_of-more-le : (xs : List ℕ) (i : ℕ) → i < length xs → value_of (take i xs) * 10 + (get_or xs i 0 - 48) ≤ value_of xs
value_of-more-le xs i h = omega (arith, value_of-more xs i h, fold-take-le 0 (i + 1) xs)

-- the end of a comment, counted from a place before it
abbrev pub shifted : ℕ → Option ℕ → Option ℕ
shifted i o = option_map (λ n. i + n) o

shifted-suc : (i : ℕ) (o : Option ℕ) → shifted i (option_map suc o) ≡ shifted (i + 1) o
shifted-suc i None = refl
shifted-suc i (Some n) = ap Some (omega arith)

pub shifted-zero : (o : Option ℕ) → shifted 0 o ≡ o
shifted-zero None = refl
shifted-zero (Some n) = ap Some (omega arith)

comment_end-drop : (bs : List ℕ) (i : ℕ) → i < length bs → comment_end (drop i bs) ≡ comment_end (get_or bs i 0 ∷ drop (i + 1) bs)
comment_end-drop bs i h = rw (add-one, drop-cons bs i 0) refl

-- the comment ends at this place
pub comment_end-here : (bs : List ℕ) (i : ℕ) → i < length bs → get_or bs i 0 ≡ star → get_or bs (i + 1) 0 ≡ slash → shifted i (comment_end (drop i bs)) ≡ Some (i + 2)
comment_end-here bs i h opens closes =
    let next : get_or (drop (i + 1) bs) 0 0 ≡ slash = grind (arith, elements) in
    rw (comment_end-drop bs i h, opens, next) refl

-- it does not
pub comment_end-later : (bs : List ℕ) (i : ℕ) → i < length bs → (get_or bs i 0 ≡ star → get_or bs (i + 1) 0 ≡ slash → ⊥) → shifted i (comment_end (drop i bs)) ≡ shifted (i + 1) (comment_end (drop (i + 1) bs))
comment_end-later bs i h not_here =
    let next : get_or (drop (i + 1) bs) 0 0 ≡ get_or bs (i + 1) 0 = grind (arith, elements) in
    let test : (get_or bs i 0 == star && get_or (drop (i + 1) bs) 0 0 == slash) ≡ false = grind (arith, nat_tests) in
    rw (comment_end-drop bs i h, test) (shifted-suc i (comment_end (drop (i + 1) bs)))
