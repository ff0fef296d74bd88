-- The test whether a place is at or below another.
use Rattle.std.specs.Prelude.{◌≡◌, ◌⊎◌, refl, ℕ, Bool, true, false, bytes_eq, [], ◌∷◌, ◌++◌}
use Rattle.std.proofs.Common.{sym, ap, ◌∙◌, subst, inl, inr}
use Rattle.std.proofs.lemmas.Bool.{or_left, or_cases, false≢true}
use Rattle.sg_kinds.specs.Places.{Place}
use Rattle.sg_kinds.proofs.Elementary.{bytes_is, bytes_itself, or_right}
use Rattle.sg_groves.specs.Evaluated.{IsAtOrBelow, is_at_or_below}

pub below_itself : (u : Place) → IsAtOrBelow u u
below_itself u = record { below = []; is = refl }

pub below_by_child : (k : ℕ) (v u : Place) → IsAtOrBelow v u → IsAtOrBelow (k ∷ v) u
below_by_child k v u b = record { below = k ∷ b.below; is = ap (λ w. k ∷ w) b.is }

pub below_from : (v u : Place) → is_at_or_below v u ≡ true → IsAtOrBelow v u
below_from [] u test = record { below = []; is = bytes_is [] u test }
below_from (k ∷ v) u test = elim (or_cases (bytes_eq (k ∷ v) u) (is_at_or_below v u) test) [
  | inl same ↦ record { below = []; is = bytes_is (k ∷ v) u same }
  | inr rest ↦ below_by_child k v u (below_from v u rest)
]

pub below_to : (v u : Place) → IsAtOrBelow v u → is_at_or_below v u ≡ true
below_to v u b = subst (λ w. is_at_or_below w u ≡ true) (sym b.is) (by b.below)
  where
    itself : (w : Place) → is_at_or_below w w ≡ true
    itself [] = bytes_itself []
    itself (k ∷ w) = or_left (bytes_eq (k ∷ w) (k ∷ w)) (is_at_or_below w (k ∷ w)) (bytes_itself (k ∷ w))

    by : (w : Place) → is_at_or_below (w ++ u) u ≡ true
    by [] = itself u
    by (k ∷ w) = or_right (bytes_eq (k ∷ (w ++ u)) u) (is_at_or_below (w ++ u) u) (by w)

pub below_or_not : (v u : Place) → IsAtOrBelow v u ⊎ (IsAtOrBelow v u → ⊥)
below_or_not v u = by (is_at_or_below v u) refl
  where
    by : (b : Bool) → is_at_or_below v u ≡ b → IsAtOrBelow v u ⊎ (IsAtOrBelow v u → ⊥)
    by true test = inl (below_from v u test)
    by false test = inr (λ b. false≢true (sym test ∙ below_to v u b))
