-- The first place inside, and the sibling.
use Rattle.std.specs.Prelude.{◌≡◌, refl, ℕ, zero, suc, ◌+◌, Bool, true, false, not, ◌&&◌, cond, bytes_eq, List, [], ◌∷◌, ◌++◌, drop, Contains, Option, Some, None, slice_get, unwrap_or, option_map}
use Rattle.std.specs.List.{find}
use Rattle.std.proofs.Common.{sym, ap, ◌∙◌, subst, inl, inr, arith, append_assoc}
use Rattle.std.proofs.lemmas.Bool.{false≢true}
use Rattle.std.proofs.lemmas.Option.{none-some, same_Some}
use Rattle.sg_kinds.specs.Terms.{Term}
use Rattle.sg_kinds.specs.Places.{Place, sub, places_in}
use Rattle.sg_kinds.specs.declared.spec.Spec.{Spec}
use Rattle.sg_kinds.proofs.Elementary.{bytes_itself}
use Rattle.sg_groves.specs.Evaluated.{IsAtOrBelow, is_at_or_below}
use Rattle.sg_groves.proofs.Below.{below_from, below_to, below_itself}
use Rattle.sg_groves.proofs.Lists.{contains_first, contains_later, contains_none, contains_either, filter_from}
use Rattle.sg_select.specs.RestingPlaces.{above, first_from, is_below, is_open, is_same_place, leads_on, rests, resting, sibling_from, up_from}
use Rattle.sg_select.specs.Around.{when, kids, inside, parts, own, before, after}
use Rattle.sg_select.proofs.Around.{reached_from, zipped}
use Rattle.sg_select.proofs.Climbing.{Knows, after_step}
use Rattle.sg_select.proofs.Firsts.{first_left, first_none, parts_up}
use Rattle.sg_select.proofs.Neighbours.{behind_is, resting_open, differ}
use Rattle.sg_select.proofs.Within.{and_off}
use Rattle.sg_select.proofs.Below.{IsUnder, under_below, not_under, inside_under, after_apart, before_apart}

-- the first that passes in two lists
pub find_right : (p : Place → Bool) (us vs : List Place) → ((v : Place) → Contains us v → p v ≡ false) → find p (us ++ vs) ≡ find p vs
find_right p [] vs none = refl
find_right p (u ∷ us) vs none =
    ap (λ b. cond b (Some u) (find p (us ++ vs))) (none u (contains_first u us)) ∙ find_right p us vs (λ v has. none v (contains_later u us v has))

pub find_none : (p : Place → Bool) (us : List Place) → ((v : Place) → Contains us v → p v ≡ false) → find p us ≡ None
find_none p [] none = refl
find_none p (u ∷ us) none = ap (λ b. cond b (Some u) (find p us)) (none u (contains_first u us)) ∙ find_none p us (λ v has. none v (contains_later u us v has))

pub find_first : (p : Place → Bool) (us : List Place) → ((v : Place) → slice_get us 0 ≡ Some v → p v ≡ true) → find p us ≡ slice_get us 0
find_first p [] first = refl
find_first p (u ∷ us) first = ap (λ b. cond b (Some u) (find p us)) (first u refl)

pub find_left : (p : Place → Bool) (us vs : List Place) (v : Place) → slice_get us 0 ≡ Some v → p v ≡ true → find p (us ++ vs) ≡ Some v
find_left p [] vs v at pass = absurd (none-some v at)
find_left p (u ∷ us) vs v at pass = ap (λ b. cond b (Some u) (find p (us ++ vs))) (ap p (same_Some u v at) ∙ pass) ∙ at

not_at : (v u : Place) → (IsAtOrBelow v u → ⊥) → is_at_or_below v u ≡ false
not_at v u apart = by (is_at_or_below v u) refl
  where
    by : (b : Bool) → is_at_or_below v u ≡ b → is_at_or_below v u ≡ false
    by true is = absurd (apart (below_from v u is))
    by false is = is

strictly : (u v : Place) → IsUnder 0 u v → is_below v u ≡ true
strictly u v h =
    ap (λ b. b && not (bytes_eq v u)) (below_to v u (under_below 0 u v h))
    ∙ ap not (differ v u (λ same. not_under 0 u (record { child = h.child; low = h.low; below = subst (λ w. IsAtOrBelow w (h.child ∷ u)) same h.below })))

module _ (spec : Spec) (t : Term) where
  outside : (u : Place) (us : List Place) → ((v : Place) → Contains us v → IsAtOrBelow v u → ⊥) → (v : Place) → Contains us v → is_below v u ≡ false
  outside u us apart v has = ap (λ b. b && not (bytes_eq v u)) (not_at v u (apart v has))

  itself_not : (u v : Place) → Contains (own spec t u) v → is_below v u ≡ false
  itself_not u v has = by (rests spec t u) has
    where
      by : (b : Bool) → Contains (when b (u ∷ [])) v → is_below v u ≡ false
      by false none = absurd (contains_none v none)
      by true here = elim (contains_either u [] v here) [
        | inl same ↦ ap (λ w. is_below w u) (sym same) ∙ ap (λ b. is_at_or_below u u && not b) (bytes_itself u) ∙ and_off (is_at_or_below u u) false refl
        | inr none ↦ absurd (contains_none v none)
      ]

  -- the first inside a node that can be reached
  pub first_is : (u : Place) (x : Term) → sub t u ≡ Some x → is_open spec t u ≡ true → first_from spec t u ≡ slice_get (inside spec u x) 0
  first_is u x at way =
      let p : Place → Bool = λ v. is_below v u in
      ap (find p) (zipped spec t u x at way)
      ∙ find_right p (before spec t u) (own spec t u ++ (inside spec u x ++ after spec t u)) (outside u (before spec t u) (before_apart spec t u))
      ∙ find_right p (own spec t u) (inside spec u x ++ after spec t u) (itself_not u)
      ∙ by (inside spec u x) (λ v has. strictly u v (inside_under spec u x v has))
    where
      by : (us : List Place) → ((v : Place) → Contains us v → is_below v u ≡ true) → find (λ v. is_below v u) (us ++ after spec t u) ≡ slice_get us 0
      by [] all = find_none (λ v. is_below v u) (after spec t u) (outside u (after spec t u) (after_apart spec t u))
      by (w ∷ us) all = ap (λ b. cond b (Some w) (find (λ v. is_below v u) (us ++ after spec t u))) (all w (contains_first w us))

  -- what is below a node that cannot be reached cannot be reached
  open_up : (below u : Place) → is_open spec t (below ++ u) ≡ true → is_open spec t u ≡ true
  open_up [] u way = way
  open_up (k ∷ w) u way = open_up w u (by (is_open spec t (w ++ u)) refl way)
    where
      by : (b : Bool) → is_open spec t (w ++ u) ≡ b → (b && unwrap_or (option_map (λ z. leads_on spec z k) (sub t (w ++ u))) false) ≡ true → is_open spec t (w ++ u) ≡ true
      by true is h = is
      by false is h = absurd (false≢true h)

  pub first_closed : (u : Place) → is_open spec t u ≡ false → first_from spec t u ≡ None
  first_closed u shut = find_none (λ v. is_below v u) (resting spec t) (λ v has. no v (filter_from (rests spec t) (places_in t) v has).1)
    where
      no : (v : Place) → rests spec t v ≡ true → is_below v u ≡ false
      no v rest = by (is_at_or_below v u) refl
        where
          by : (b : Bool) → is_at_or_below v u ≡ b → (is_at_or_below v u && not (bytes_eq v u)) ≡ false
          by false is = ap (λ b. b && not (bytes_eq v u)) is
          by true is =
              let b = below_from v u is in
              absurd (false≢true (sym shut ∙ open_up b.below u (subst (λ w. is_open spec t w ≡ true) b.is (resting_open spec t v rest))))

  -- the test of a sibling
  abbrev pub is_sibling : Place → Place → Bool
  is_sibling u v = not (is_at_or_below v u) && is_same_place (up_from spec t v) (up_from spec t u)

  pub sibling_is : (u : Place) (x : Term) → sub t u ≡ Some x → rests spec t u ≡ true → sibling_from spec t u ≡ find (is_sibling u) (after spec t u)
  sibling_is u x at rest =
      ap (find (is_sibling u)) (behind_is spec t u x at rest)
      ∙ find_right (is_sibling u) (inside spec u x) (after spec t u)
      (λ v has. ap (λ b. not b && is_same_place (up_from spec t v) (up_from spec t u)) (below_to v u (under_below 0 u v (inside_under spec u x v has))))

  same_itself : (o : Option Place) → is_same_place o o ≡ true
  same_itself None = refl
  same_itself (Some u) = bytes_itself u

  -- one that comes after and has the same above it is one
  pub passes : (u v : Place) → (IsAtOrBelow v u → ⊥) → up_from spec t v ≡ up_from spec t u → is_sibling u v ≡ true
  passes u v apart same =
      ap (λ b. not b && is_same_place (up_from spec t v) (up_from spec t u)) (not_at v u apart)
      ∙ ap (λ o. is_same_place o (up_from spec t u)) same ∙ same_itself (up_from spec t u)

  -- what stands above a place, it is below
  above_below : (v w : Place) → find (rests spec t) (above v) ≡ Some w → IsAtOrBelow v w
  above_below [] w at = absurd (none-some w at)
  above_below (k ∷ v) w at = by (rests spec t v) refl at (above_below v w)
    where
      by : (b : Bool) → rests spec t v ≡ b → cond b (Some v) (find (rests spec t) (above v)) ≡ Some w → (find (rests spec t) (above v) ≡ Some w → IsAtOrBelow v w) → IsAtOrBelow (k ∷ v) w
      by true is here again = record { below = k ∷ []; is = ap (λ z. k ∷ z) (same_Some v w here) }
      by false is rest again = let b = again rest in record { below = k ∷ b.below; is = ap (λ z. k ∷ z) b.is }

  other_up : (o : Option Place) (w : Place) → (o ≡ Some w → ⊥) → is_same_place o (Some w) ≡ false
  other_up None w apart = refl
  other_up (Some v) w apart = differ v w (λ same. apart (ap Some same))

  -- behind the nearest resting place above there is none
  pub no_sibling : (u w : Place) → up_from spec t u ≡ Some w → find (is_sibling u) (after spec t w) ≡ None
  no_sibling u w up = find_none (is_sibling u) (after spec t w) (λ v has.
      ap (λ o. not (is_at_or_below v u) && is_same_place (up_from spec t v) o) up
      ∙ ap (λ b. not (is_at_or_below v u) && b) (other_up (up_from spec t v) w (λ same. after_apart spec t w v has (above_below v w same)))
      ∙ and_off (not (is_at_or_below v u)) false refl)

  -- for a resting place: what comes after it, what rests above it, and the way up
  pub record IsSiblingAlike (u w : Place) : Type 0 where
    pub way : is_open spec t w ≡ true
    pub up : up_from spec t u ≡ find (rests spec t) (above w)
    pub below : IsAtOrBelow u w
    pub rest : find (is_sibling u) (after spec t u) ≡ find (is_sibling u) (after spec t w)

  pub sibling_first : (u : Place) → rests spec t u ≡ true → IsSiblingAlike u u
  sibling_first u rest = record { way = resting_open spec t u rest; up = refl; below = below_itself u; rest = refl }

  below_down : (k : ℕ) (u w : Place) → IsAtOrBelow u (k ∷ w) → IsAtOrBelow u w
  below_down k u w b = record { below = b.below ++ k ∷ []; is = b.is ∙ sym (append_assoc b.below (k ∷ []) w) }

  below_both : (v u w : Place) → IsAtOrBelow v u → IsAtOrBelow u w → IsAtOrBelow v w
  below_both v u w one two = record { below = one.below ++ two.below; is = one.is ∙ ap (λ z. one.below ++ z) two.is ∙ sym (append_assoc one.below two.below w) }

  module _ (u : Place) (k : ℕ) (w : Place) (x : Term) (at : sub t w ≡ Some x) (h : IsSiblingAlike u (k ∷ w)) where
    pub sibling_up : slice_get (parts spec w x (k + 1) (drop (k + 1) (kids x))) 0 ≡ None → rests spec t w ≡ false → IsSiblingAlike u w
    sibling_up none rest = record {
      way = (reached_from spec t k w x at h.way).way;
      up = h.up ∙ ap (λ b. cond b (Some w) (find (rests spec t) (above w))) rest;
      below = below_down k u w h.below;
      rest = h.rest ∙ ap (find (is_sibling u)) (after_step spec t k w x at ∙ ap (λ l. l ++ after spec t w) (first_none (parts spec w x (k + 1) (drop (k + 1) (kids x))) none));
    }

    pub sibling_none : slice_get (parts spec w x (k + 1) (drop (k + 1) (kids x))) 0 ≡ None → rests spec t w ≡ true → find (is_sibling u) (after spec t u) ≡ None
    sibling_none none rest =
        h.rest ∙ ap (find (is_sibling u)) (after_step spec t k w x at ∙ ap (λ l. l ++ after spec t w) (first_none (parts spec w x (k + 1) (drop (k + 1) (kids x))) none))
        ∙ no_sibling u w (h.up ∙ ap (λ b. cond b (Some w) (find (rests spec t) (above w))) rest)

    pub sibling_found : (v : Place) → slice_get (parts spec w x (k + 1) (drop (k + 1) (kids x))) 0 ≡ Some v → find (is_sibling u) (after spec t u) ≡ Some v
    sibling_found v some =
        let reached = reached_from spec t k w x at h.way in
        let up = parts_up spec t w x (k + 1) (drop (k + 1) (kids x)) at reached.way reached.whole (λ i. sym (dropped (k + 1) (kids x) i)) v some in
        let first = first_left (parts spec w x (k + 1) (drop (k + 1) (kids x))) (after spec t w) v some in
        let has : Contains (after spec t (k ∷ w)) v = first_in (after spec t (k ∷ w)) v (ap (λ l. slice_get l 0) (after_step spec t k w x at) ∙ first) in
        let apart : IsAtOrBelow v u → ⊥ = λ b. after_apart spec t (k ∷ w) v has (below_both v u (k ∷ w) b h.below) in
        h.rest ∙ ap (find (is_sibling u)) (after_step spec t k w x at)
        ∙ find_left (is_sibling u) (parts spec w x (k + 1) (drop (k + 1) (kids x))) (after spec t w) v some (passes u v apart (up ∙ sym h.up))
      where
        none_more : {A : Type 0} → (xs : List A) (i : ℕ) → slice_get xs i ≡ slice_get xs (0 + i)
        none_more xs i = let same : i ≡ 0 + i = omega arith in ap (slice_get xs) same

        one_more : {A : Type 0} → (xs : List A) (y : A) (n i : ℕ) → slice_get xs (n + i) ≡ slice_get (y ∷ xs) (suc n + i)
        one_more xs y n i = let same : suc (n + i) ≡ suc n + i = omega arith in ap (slice_get (y ∷ xs)) same

        dropped : {A : Type 0} → (n : ℕ) (xs : List A) (i : ℕ) → slice_get (drop n xs) i ≡ slice_get xs (n + i)
        dropped zero xs i = none_more xs i
        dropped (suc n) [] i = refl
        dropped (suc n) (y ∷ xs) i = dropped n xs i ∙ one_more xs y n i

        first_in : (us : List Place) (v : Place) → slice_get us 0 ≡ Some v → Contains us v
        first_in [] v at = absurd (none-some v at)
        first_in (u ∷ us) v at = subst (Contains (u ∷ us)) (same_Some u v at) (contains_first u us)

abbrev pub KnowsSibling : Spec → Knows
KnowsSibling spec root t u w = rests spec t u ≡ true → IsSiblingAlike spec t u w
