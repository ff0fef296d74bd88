-- First places in lists that grow by one.
use Rattle.std.proofs.Common.{◌≡◌, ℕ, suc, ◌+◌, Bool, true, false, cond, List, [], ◌∷◌, ◌++◌, length, Option, Some, None, is_some, if◌then◌else◌, ◌||◌, refl, sym, ap, ◌∙◌, arith}
use Rattle.std.specs.List.{list_any, position, position_from}
use Rattle.sg_ast.specs.FirstFault.{or_else}
use Rattle.sg_names.proofs.Firsts.{from_zero}

from_push : {A : Type 0} (p : A → Bool) (i : ℕ) (xs : List A) (x : A) → position_from p i (xs ++ x ∷ []) ≡ or_else (position_from p i xs) (if p x then Some (i + length xs) else None)
from_push p i [] x = let e : i ≡ i + 0 = omega arith in ap (λ n. cond (p x) (Some n) None) e
from_push p i (y ∷ ys) x =
    let e : (i + 1) + length ys ≡ i + suc (length ys) = omega arith in
    let h : position_from p (i + 1) (ys ++ x ∷ []) ≡ or_else (position_from p (i + 1) ys) (if p x then Some ((i + 1) + length ys) else None) = from_push p (i + 1) ys x in
    ap (λ o. cond (p y) (Some i) o) (h ∙ ap (λ n. or_else (position_from p (i + 1) ys) (if p x then Some n else None)) e) ∙ first_of_two (p y) i (position_from p (i + 1) ys) (if p x then Some (i + suc (length ys)) else None)
  where
    first_of_two : (b : Bool) (k : ℕ) (o q : Option ℕ) → cond b (Some k) (or_else o q) ≡ or_else (cond b (Some k) o) q
    first_of_two true k o q = refl
    first_of_two false k o q = refl

-- the place of an element that is put last
pub position_push : {A : Type 0} (p : A → Bool) (xs : List A) (x : A) → position p (xs ++ x ∷ []) ≡ or_else (position p xs) (if p x then Some (length xs) else None)
position_push p xs x =
    from_zero p (xs ++ x ∷ []) ∙ from_push p 0 xs x
    ∙ ap (λ o. or_else o (if p x then Some (0 + length xs) else None)) (sym (from_zero p xs))
    ∙ (let e : 0 + length xs ≡ length xs = omega arith in ap (λ n. or_else (position p xs) (if p x then Some n else None)) e)

some_from : {A : Type 0} (p : A → Bool) (i : ℕ) (xs : List A) → is_some (position_from p i xs) ≡ list_any p xs
some_from p i [] = refl
some_from p i (x ∷ xs) = by (p x) (some_from p (i + 1) xs)
  where
    by : (b : Bool) → is_some (position_from p (i + 1) xs) ≡ list_any p xs → is_some (cond b (Some i) (position_from p (i + 1) xs)) ≡ (b || list_any p xs)
    by true h = refl
    by false h = h

-- there is a first place exactly where some element passes
pub some_place : {A : Type 0} (p : A → Bool) (xs : List A) → is_some (position p xs) ≡ list_any p xs
some_place p xs = ap is_some (from_zero p xs) ∙ some_from p 0 xs
