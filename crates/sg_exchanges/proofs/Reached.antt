-- Places above a change can be reached after it where they could before.
use Rattle.std.specs.Prelude.{◌≡◌, refl, ℕ, Bool, true, false, ◌&&◌, [], ◌∷◌, ◌++◌, Option, Some, None, option_map, unwrap_or}
use Rattle.std.proofs.Common.{sym, ap, ◌∙◌, subst}
use Rattle.std.proofs.lemmas.Bool.{false≢true}
use Rattle.sg_kinds.specs.Terms.{Term, Leaf, Node}
use Rattle.sg_kinds.specs.Places.{Place, put, sub, with_child}
use Rattle.sg_kinds.specs.declared.spec.Spec.{Spec}
use Rattle.sg_kinds.proofs.TermLaws.{sub_put}
use Rattle.sg_groves.specs.Evaluated.{IsAtOrBelow}
use Rattle.sg_select.specs.RestingPlaces.{is_open, leads_on, rests, stands_resting}

left_true : (a b : Bool) → (a && b) ≡ true → a ≡ true
left_true true b h = refl
left_true false b h = absurd (false≢true h)

module _ (spec : Spec) where
  -- a resting place can be reached, and so can the places above it
  rests_open : (t : Term) (u : Place) → rests spec t u ≡ true → is_open spec t u ≡ true
  rests_open t [] h = refl
  rests_open t (k ∷ u) h = left_true (is_open spec t (k ∷ u)) (stands_resting spec t k u) h

  over_open : (t : Term) (w u : Place) → is_open spec t (w ++ u) ≡ true → is_open spec t u ≡ true
  over_open t [] u h = h
  over_open t (k ∷ w) u h = over_open t w u (left_true (is_open spec t (w ++ u)) (unwrap_or (option_map (λ x. leads_on spec x k) (sub t (w ++ u))) false) h)

  pub above_rests : (t : Term) (v u : Place) → IsAtOrBelow v u → rests spec t v ≡ true → is_open spec t u ≡ true
  above_rests t v u low rest = over_open t low.below u (subst (λ z. is_open spec t z ≡ true) low.is (rests_open t v rest))

  -- a node leads on as it did before a child of it changed
  leads_still : (n : Term) (k : ℕ) (s : Term) (j : ℕ) → leads_on spec (with_child n k s) j ≡ leads_on spec n j
  leads_still (Leaf p v) k s j = refl
  leads_still (Node op m elided ts) k s j = refl

  open_at : (t : Term) (u : Place) (s : Term) → is_open spec (put t u s) u ≡ is_open spec t u
  open_at t [] s = refl
  open_at t (k ∷ u) s = by (sub t u) refl (λ m. open_at t u m)
    where
      by : (o : Option Term) → sub t u ≡ o → ((m : Term) → is_open spec (put t u m) u ≡ is_open spec t u)
          → is_open spec (elim o [ None ↦ t | Some n ↦ put t u (with_child n k s) ]) (k ∷ u) ≡ is_open spec t (k ∷ u)
      by None at again = refl
      by (Some n) at again =
          ap (λ b. b && unwrap_or (option_map (λ x. leads_on spec x k) (sub (put t u (with_child n k s)) u)) false) (again (with_child n k s))
          ∙ ap (λ o. is_open spec t u && unwrap_or (option_map (λ x. leads_on spec x k) o) false) (sub_put t u n (with_child n k s) at)
          ∙ ap (λ b. is_open spec t u && b) (leads_still n k s k)
          ∙ sym (ap (λ o. is_open spec t u && unwrap_or (option_map (λ x. leads_on spec x k) o) false) at)

  pub open_above : (t : Term) (k : ℕ) (u : Place) (s : Term) → is_open spec (put t (k ∷ u) s) u ≡ is_open spec t u
  open_above t k u s = by (sub t u)
    where
      by : (o : Option Term) → is_open spec (elim o [ None ↦ t | Some n ↦ put t u (with_child n k s) ]) u ≡ is_open spec t u
      by None = refl
      by (Some n) = open_at t u (with_child n k s)
