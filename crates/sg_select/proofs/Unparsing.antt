-- What can be reached is unparsed.
use Rattle.std.specs.Prelude.{◌≡◌, ℕ, zero, suc, ◌+◌, true, false, List, [], ◌∷◌, Contains, Option, Some, None, slice_get, unwrap_or}
use Rattle.std.proofs.Common.{sym, ap, ◌∙◌, subst, arith}
use Rattle.std.proofs.lemmas.Bool.{false≢true}
use Rattle.std.proofs.lemmas.Option.{none-some, same_Some}
use Rattle.std.proofs.lemmas.List.Elements.{Contains-append_left, Contains-append_right, Contains-push}
use Rattle.sg_kinds.specs.Values.{Bytes}
use Rattle.sg_kinds.specs.Terms.{Term, Terms, Leaf, Node, NoTerm, AndTerm, terms_of}
use Rattle.sg_kinds.specs.Places.{Place, sub}
use Rattle.sg_kinds.specs.declared.spec.Spec.{Spec}
use Rattle.sg_kinds.specs.declared.marks.ChildPlace.{ChildPlace}
use Rattle.sg_kinds.specs.declared.marks.ChildPlace.TheVariants.{Resting, Passed, Hidden}
use Rattle.sg_groves.proofs.Lists.{contains_first, contains_later}
use Rattle.sg_terms.specs.Labels.{elided_of}
use Rattle.sg_unparse.specs.Cells.{items_of}
use Rattle.sg_unparse.specs.Unparsed.{below_scheme, child_places, places_under, shown_below, shows_scheme, unparsed_places}
use Rattle.sg_select.specs.RestingPlaces.{above, child_place, is_open, is_shown}
use Rattle.sg_select.specs.Around.{kids}
use Rattle.sg_select.proofs.Around.{above_there, reached_from}

in_shown : (places : List ChildPlace) (rows : List (List Place)) (k : ℕ) (row : List Place) (y : Place) → slice_get rows k ≡ Some row
    → is_shown (unwrap_or (slice_get places k) Hidden) ≡ true → Contains row y → Contains (shown_below places rows) y
in_shown [] rows k row y at shown has = absurd (false≢true shown)
in_shown (place ∷ places) [] k row y at shown has = absurd (none-some row at)
in_shown (Resting ∷ places) (kid ∷ rows) zero row y at shown has = Contains-append_left kid (shown_below places rows) y (subst (λ l. Contains l y) (sym (same_Some kid row at)) has)
in_shown (Passed ∷ places) (kid ∷ rows) zero row y at shown has = Contains-append_left kid (shown_below places rows) y (subst (λ l. Contains l y) (sym (same_Some kid row at)) has)
in_shown (Hidden ∷ places) (kid ∷ rows) zero row y at shown has = absurd (false≢true shown)
in_shown (Resting ∷ places) (kid ∷ rows) (suc k) row y at shown has = Contains-append_right kid (shown_below places rows) y (in_shown places rows k row y at shown has)
in_shown (Passed ∷ places) (kid ∷ rows) (suc k) row y at shown has = Contains-append_right kid (shown_below places rows) y (in_shown places rows k row y at shown has)
in_shown (Hidden ∷ places) (kid ∷ rows) (suc k) row y at shown has = in_shown places rows k row y at shown has

module _ (spec : Spec) (typed : Place → Option Bytes) where
  row_there : (u : Place) (i : ℕ) (ts : Terms) (k : ℕ) (x : Term) → slice_get (terms_of ts) k ≡ Some x → slice_get (places_under spec typed u i ts) k ≡ Some (unparsed_places spec typed ((i + k) ∷ u) x)
  row_there u i NoTerm k x at = absurd (none-some x at)
  row_there u i (AndTerm t ts) zero x at =
      let same : i ≡ i + 0 = omega arith in
      ap (λ z. Some (unparsed_places spec typed (i ∷ u) z)) (same_Some t x at) ∙ ap (λ j. Some (unparsed_places spec typed (j ∷ u) x)) same
  row_there u i (AndTerm t ts) (suc k) x at =
      let same : suc i + k ≡ i + suc k = omega arith in
      row_there u (suc i) ts k x at ∙ ap (λ j. Some (unparsed_places spec typed (j ∷ u) x)) same

  -- a child that is shown in a scheme that is shown
  in_parent : (p x : Term) (k : ℕ) (u y : Place) → slice_get (kids p) k ≡ Some x → elided_of p ≡ false → is_shown (child_place spec p k) ≡ true → typed u ≡ None
      → Contains (unparsed_places spec typed (k ∷ u) x) y → Contains (unparsed_places spec typed u p) y
  in_parent (Leaf p s) x k u y at whole shown none has = absurd (none-some x at)
  in_parent (Node op n elided ts) x k u y at whole shown none has =
      let same : 0 + k ≡ k = omega arith in
      let row = row_there u 0 ts k x at ∙ ap (λ j. Some (unparsed_places spec typed (j ∷ u) x)) same in
      let rows = shown_below (child_places (items_of spec op n)) (places_under spec typed u 0 ts) in
      let shows : shows_scheme (typed u) elided ≡ true = ap (λ o. shows_scheme o elided) none ∙ ap (shows_scheme None) whole in
      Contains-append_left (below_scheme spec typed (shows_scheme (typed u) elided) rows) (u ∷ []) y
      (subst (λ b. Contains (below_scheme spec typed b rows) y) (sym shows) (in_shown (child_places (items_of spec op n)) (places_under spec typed u 0 ts) k (unparsed_places spec typed (k ∷ u) x) y row shown has))

  in_whole : (t : Term) (u : Place) (x : Term) (y : Place) → sub t u ≡ Some x → is_open spec t u ≡ true → ((w : Place) → Contains (above u) w → typed w ≡ None)
      → Contains (unparsed_places spec typed u x) y → Contains (unparsed_places spec typed [] t) y
  in_whole t [] x y at way quiet has = subst (λ z. Contains (unparsed_places spec typed [] z) y) (sym (same_Some t x at)) has
  in_whole t (k ∷ u) x y at way quiet has =
      let up = above_there t k u x at in
      let reached = reached_from spec t k u up.node up.there way in
      in_whole t u up.node y up.there reached.way (λ w c. quiet w (contains_later u (above u) w c))
      (in_parent up.node x k u y up.kid reached.whole reached.shown (quiet u (contains_first u (above u))) has)

  itself : (u : Place) (x : Term) → Contains (unparsed_places spec typed u x) u
  itself u (Leaf p s) = contains_first u []
  itself u (Node op n elided ts) = Contains-push (below_scheme spec typed (shows_scheme (typed u) elided) (shown_below (child_places (items_of spec op n)) (places_under spec typed u 0 ts))) u

  pub reached_unparsed : (t x : Term) (u : Place) → sub t u ≡ Some x → is_open spec t u ≡ true → ((w : Place) → Contains (above u) w → typed w ≡ None)
      → Contains (unparsed_places spec typed [] t) u
  reached_unparsed t x u at way quiet = in_whole t u x u at way quiet (itself u x)
