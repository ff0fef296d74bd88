-- The outermost places.
use Rattle.std.specs.Prelude.{◌≡◌, refl, Bool, true, false, not, ◌||◌, List, [], ◌∷◌, ◌++◌, filter, Contains, Option, Some, None}
use Rattle.std.specs.List.{list_any}
use Rattle.std.specs.Option.{option_map_or}
use Rattle.std.proofs.Common.{sym, ap, ◌∙◌}
use Rattle.std.proofs.lemmas.Bool.{false≢true, not-true, or_left}
use Rattle.std.proofs.lemmas.List.Elements.{filter-append}
use Rattle.sg_kinds.specs.Places.{Place, places_in, sub}
use Rattle.sg_kinds.specs.Terms.{Term}
use Rattle.sg_kinds.specs.Values.{Bytes}
use Rattle.sg_kinds.specs.declared.spec.Spec.{Spec}
use Rattle.sg_kinds.proofs.Elementary.{or_right}
use Rattle.sg_groves.specs.Evaluated.{IsAtOrBelow}
use Rattle.sg_groves.proofs.Below.{below_itself, below_by_child}
use Rattle.sg_groves.proofs.Lists.{filter_from, filter_to}
use Rattle.sg_groves.proofs.PlacesOnce.{place_there}
use Rattle.sg_select.specs.RestingPlaces.{above, behind}
use Rattle.sg_search.specs.Found.{applies_at, applies_to, found, outer}
use Rattle.sg_search.proofs.Behind.{behind_splits}

module _ (spec : Spec) (name : Bytes) (t : Term) where
  pub outer_found : (u : Place) → Contains (outer spec name t) u → Contains (found spec name t) u
  outer_found u has = (filter_from (λ v. not (list_any (applies_at spec name t) (above v))) (found spec name t) u has).0

  -- none applies above it
  outer_clear : (u : Place) → Contains (outer spec name t) u → list_any (applies_at spec name t) (above u) ≡ false
  outer_clear u has = not-true (list_any (applies_at spec name t) (above u)) (filter_from (λ v. not (list_any (applies_at spec name t) (above v))) (found spec name t) u has).1

  outer_applies : (u : Place) → Contains (outer spec name t) u → applies_at spec name t u ≡ true
  outer_applies u has = (filter_from (applies_at spec name t) (places_in t) u (outer_found u has)).1

  outer_from : (u : Place) → Contains (found spec name t) u → list_any (applies_at spec name t) (above u) ≡ false → Contains (outer spec name t) u
  outer_from u has clear = filter_to (λ v. not (list_any (applies_at spec name t) (above v))) (found spec name t) u has (ap not clear)

  -- where one applies above
  over_below : (k : _) (w u : Place) → applies_at spec name t u ≡ true → list_any (applies_at spec name t) (above ((k ∷ w) ++ u)) ≡ true
  over_below k [] u here = or_left (applies_at spec name t u) (list_any (applies_at spec name t) (above u)) here
  over_below k (j ∷ w) u here =
      or_right (applies_at spec name t ((j ∷ w) ++ u)) (list_any (applies_at spec name t) (above ((j ∷ w) ++ u))) (over_below j w u here)

  pub outer_apart : (u v : Place) → Contains (outer spec name t) u → Contains (outer spec name t) v → IsAtOrBelow v u → v ≡ u
  outer_apart u v one two below = by below.below below.is
    where
      by : (w : Place) → v ≡ w ++ u → v ≡ u
      by [] is = is
      by (k ∷ w) is = absurd (false≢true (sym (outer_clear v two) ∙ ap (λ z. list_any (applies_at spec name t) (above z)) is ∙ over_below k w u (outer_applies u one)))

  -- a place at which one applies is there
  stands : (u : Place) → applies_at spec name t u ≡ true → Contains (found spec name t) u
  stands u here = by (sub t u) refl here
    where
      by : (o : Option Term) → sub t u ≡ o → option_map_or (applies_to spec name) o false ≡ true → Contains (found spec name t) u
      by None is h = absurd (false≢true h)
      by (Some x) is h = filter_to (applies_at spec name t) (places_in t) u (place_there t u x is) here

  pub record IsCovered (v : Place) : Type 0 where
    pub top : Place
    pub is_outer : Contains (outer spec name t) top
    pub below : IsAtOrBelow v top

  covered_above : (v : Place) → list_any (applies_at spec name t) (above v) ≡ true → IsCovered v
  covered_above [] some = absurd (false≢true some)
  covered_above (k ∷ u) some = by (list_any (applies_at spec name t) (above u)) refl (applies_at spec name t u) refl some (covered_above u)
    where
      lower : IsCovered u → IsCovered (k ∷ u)
      lower c = record { top = c.top; is_outer = c.is_outer; below = below_by_child k u c.top c.below }

      by : (b : Bool) → list_any (applies_at spec name t) (above u) ≡ b → (c : Bool) → applies_at spec name t u ≡ c → (applies_at spec name t u || list_any (applies_at spec name t) (above u)) ≡ true
          → (list_any (applies_at spec name t) (above u) ≡ true → IsCovered u) → IsCovered (k ∷ u)
      by true over c is h further = lower (further over)
      by false clear true here h further = lower (record { top = u; is_outer = outer_from u (stands u here) clear; below = below_itself u })
      by false clear false off h further = absurd (false≢true (sym (λ i. off i || clear i) ∙ h))

  pub found_covered : (v : Place) → Contains (found spec name t) v → (u : Place) × Contains (outer spec name t) u × IsAtOrBelow v u
  found_covered v has = by (list_any (applies_at spec name t) (above v)) refl
    where
      by : (b : Bool) → list_any (applies_at spec name t) (above v) ≡ b → (u : Place) × Contains (outer spec name t) u × IsAtOrBelow v u
      by true over = let c = covered_above v over in (c.top, c.is_outer, c.below)
      by false clear = (v, outer_from v has clear, below_itself v)

  pub found_ends : (u : Place) → (xs : List Place) × (found spec name t ≡ xs ++ filter (applies_at spec name t) (behind u (places_in t)))
  found_ends u =
      let split = behind_splits u (places_in t) in
      (filter (applies_at spec name t) split.front, ap (filter (applies_at spec name t)) split.is ∙ filter-append (applies_at spec name t) split.front (behind u (places_in t)))
