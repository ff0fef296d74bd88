-- What is written of a block.
use Rattle.std.specs.Prelude.{◌≡◌, ℕ, suc, ◌+◌, ◌-◌, ◌<◌, List, [], ◌∷◌, ◌++◌, length, take, drop, flat_map, min, Some, None, slice_get}
use Rattle.std.proofs.Common.{refl, ap, ◌∙◌, arith, append_assoc, drop-cons, length-drop, add-one}
use Rattle.std.proofs.lemmas.List.{take_min}
use Rattle.std.proofs.lemmas.Option.{slice_get_within, slice_get-get_or, get_or_from_slice_get}
use Rattle.sg_unparse.specs.Page.{lines_of}
use Rattle.sg_unparse.specs.Sheet.{Sheet, line_on}
use Rattle.sg_kinds.specs.Values.{Bytes}

module _ {X : Type 0} where
  -- as many as the page has from the top on, and at most as many as the window has
  pub as_many : (xs : List X) (first height n : ℕ) → n ≡ min (length xs) (first + height) - first → take n (drop first xs) ≡ take height (drop first xs)
  as_many xs first height n e =
      let long = length-drop first xs in
      let same : n ≡ min height (length (drop first xs)) = omega (arith, e, long) in
      rw same (take_min height (drop first xs))

  behind : (xs : List X) (k : ℕ) (x : X) → slice_get xs k ≡ Some x → drop k xs ≡ x ∷ drop (suc k) xs
  behind xs k x at = drop-cons xs k x (slice_get_within xs k x at) ∙ ap (λ y. y ∷ drop (suc k) xs) (get_or_from_slice_get xs k x x at)

  -- what is written behind one more line is what was to be written
  pub one_more : {A : Type 0} (f : X → List A) (xs : List X) (k end : ℕ) (x : X) (out : List A) → k < end → slice_get xs k ≡ Some x →
      (out ++ f x) ++ flat_map f (take (end - suc k) (drop (suc k) xs)) ≡ out ++ flat_map f (take (end - k) (drop k xs))
  one_more f xs k end x out less at =
      let left : end - k ≡ suc (end - suc k) = omega (arith, less) in
      rw (left, behind xs k x at, append_assoc) refl

-- a line of a page by its number from 0 on
pub line_at : (p : Sheet) (k : ℕ) (s : Bytes) → line_on p (k + 1) ≡ Some s → slice_get (lines_of p.cells) k ≡ Some s
line_at p k s e = rw add-one at e

pub line_there : (p : Sheet) (k : ℕ) → k < length (lines_of p.cells) → line_on p (k + 1) ≡ None → ⊥
line_there p k less e =
    let none : slice_get (lines_of p.cells) k ≡ None = rw add-one at e in
    let some = slice_get-get_or (lines_of p.cells) k [] less in
    cc

pub three : (o p q r a b c : Bytes) → p ≡ o ++ a → q ≡ p ++ b → r ≡ q ++ c → r ≡ o ++ ((a ++ b) ++ c)
three o p q r a b c e f g = rw (g, f, e) (ap (λ l. l ++ c) (append_assoc o a b) ∙ append_assoc o (a ++ b) c)
