-- Names that have no equal one before them are distinct.
use Rattle.std.proofs.Common.{◌≡◌, ◌≢◌, Bool, true, false, cond, ◌||◌, List, [], ◌∷◌, ◌++◌, get_or, bytes_eq, refl, sym, ◌∙◌, arith}
use Rattle.std.specs.List.{All, list_any}
use Rattle.std.proofs.lemmas.Bool.{or_parts}
use Rattle.std.proofs.lemmas.List.Elements.{All-nil, All-cons}
use Rattle.std.proofs.lemmas.List.Folds.{list_any-append}
use Rattle.std.proofs.lemmas.List.Kept.{AllPairs-cons}
use Rattle.std.proofs.lemmas.Slice.Eq.{bytes_eq-Decides}
use Rattle.sg_kinds.specs.Values.{Bytes}
use Rattle.sg_kinds.specs.Sound.{AreDistinct}
use Rattle.sg_counts.specs.Crowds.{different, different_behind}

-- no name of the list is among these
abbrev AreNew : List Bytes → List Bytes → Type 0
AreNew before xs = All (λ x. list_any (λ y. bytes_eq y x) before ≡ false) xs

unequal : (a b : Bytes) → bytes_eq a b ≡ false → a ≢ b
unequal a b apart e = let same : bytes_eq a b ≡ true = (bytes_eq-Decides a b).1 e in absurd (cc (same, apart))

new_ones : (before xs : List Bytes) → AreNew before (different_behind bytes_eq before xs) × AreDistinct (different_behind bytes_eq before xs)
new_ones before [] = (All-nil (λ x. list_any (λ y. bytes_eq y x) before ≡ false), λ i j d low inside. absurd (omega (arith, inside)))
new_ones before (x ∷ xs) = by (list_any (λ y. bytes_eq y x) before) refl (new_ones (before ++ x ∷ []) xs)
  where
    parts : (z : Bytes) → list_any (λ y. bytes_eq y z) (before ++ x ∷ []) ≡ false → (list_any (λ y. bytes_eq y z) before ≡ false) × (bytes_eq x z ≡ false)
    parts z h =
        let both = or_parts (list_any (λ y. bytes_eq y z) before) (bytes_eq x z || false) (sym (list_any-append (λ y. bytes_eq y z) before (x ∷ [])) ∙ h) in
        (both.0, (or_parts (bytes_eq x z) false both.1).0)

    by : (b : Bool) → list_any (λ y. bytes_eq y x) before ≡ b → AreNew (before ++ x ∷ []) (different_behind bytes_eq (before ++ x ∷ []) xs) × AreDistinct (different_behind bytes_eq (before ++ x ∷ []) xs)
        → AreNew before (cond b (different_behind bytes_eq (before ++ x ∷ []) xs) (x ∷ different_behind bytes_eq (before ++ x ∷ []) xs))
        × AreDistinct (cond b (different_behind bytes_eq (before ++ x ∷ []) xs) (x ∷ different_behind bytes_eq (before ++ x ∷ []) xs))
    by true is rest = (λ k d low. (parts (get_or (different_behind bytes_eq (before ++ x ∷ []) xs) k d) (rest.0 k d low)).0, rest.1)
    by false is rest = (
      All-cons (λ z. list_any (λ y. bytes_eq y z) before ≡ false) x (different_behind bytes_eq (before ++ x ∷ []) xs) is (λ k d low. (parts (get_or (different_behind bytes_eq (before ++ x ∷ []) xs) k d) (rest.0 k d low)).0),
      AllPairs-cons ◌≢◌ x (different_behind bytes_eq (before ++ x ∷ []) xs)
          (λ k d low. unequal x (get_or (different_behind bytes_eq (before ++ x ∷ []) xs) k d) (parts (get_or (different_behind bytes_eq (before ++ x ∷ []) xs) k d) (rest.0 k d low)).1) rest.1,
    )

pub different_distinct : (xs : List Bytes) → AreDistinct (different bytes_eq xs)
different_distinct xs = (new_ones [] xs).1
