-- Moves lead to resting places.
use Rattle.std.specs.Prelude.{◌≡◌, refl, Bool, true, false, cond, not, ◌&&◌, bytes_eq, List, [], ◌∷◌, Contains, Some, None, slice_get}
use Rattle.std.specs.List.{find, last_or}
use Rattle.std.proofs.Common.{sym, ap, ◌∙◌, subst, inl, inr}
use Rattle.std.proofs.lemmas.Option.{none-some, same_Some}
use Rattle.sg_kinds.specs.Terms.{Term}
use Rattle.sg_kinds.specs.Places.{Place, places_in}
use Rattle.sg_kinds.specs.declared.spec.Spec.{Spec}
use Rattle.sg_groves.proofs.Lists.{contains_first, contains_later, contains_either, contains_none, filter_from}
use Rattle.sg_select.specs.RestingPlaces.{rests, resting, behind, ahead, above, up_from, is_below, is_same_place}
use Rattle.sg_groves.specs.Evaluated.{is_at_or_below}
use Rattle.sg_states.specs.States.{target}
use Rattle.sg_states.specs.declared.marks.Move.{Move}
use Rattle.sg_states.specs.declared.marks.Move.TheVariants.{Next, Prev, Up, First, Sibling}

-- what is found in a list stands in it, and passes the test
found_in : {A : Type 0} (p : A → Bool) (xs : List A) (v : A) → find p xs ≡ Some v → Contains xs v
found_in p [] v e = absurd (none-some v e)
found_in p (x ∷ xs) v e = by (p x) (found_in p xs v) e
  where
    by : (b : Bool) → (find p xs ≡ Some v → Contains xs v) → cond b (Some x) (find p xs) ≡ Some v → Contains (x ∷ xs) v
    by true again e = subst (Contains (x ∷ xs)) (same_Some x v e) (contains_first x xs)
    by false again e = contains_later x xs v (again e)

found_passes : {A : Type 0} (p : A → Bool) (xs : List A) (v : A) → find p xs ≡ Some v → p v ≡ true
found_passes p [] v e = absurd (none-some v e)
found_passes p (x ∷ xs) v e = by (p x) refl (found_passes p xs v) e
  where
    by : (b : Bool) → p x ≡ b → (find p xs ≡ Some v → p v ≡ true) → cond b (Some x) (find p xs) ≡ Some v → p v ≡ true
    by true test again e = ap p (sym (same_Some x v e)) ∙ test
    by false test again e = again e

first_in : {A : Type 0} (xs : List A) (v : A) → slice_get xs 0 ≡ Some v → Contains xs v
first_in [] v e = absurd (none-some v e)
first_in (x ∷ xs) v e = subst (Contains (x ∷ xs)) (same_Some x v e) (contains_first x xs)

last_in : {A : Type 0} (x : A) (xs : List A) (v : A) → last_or (Some x) xs ≡ Some v → Contains (x ∷ xs) v
last_in x [] v e = subst (Contains (x ∷ [])) (same_Some x v e) (contains_first x [])
last_in x (y ∷ xs) v e = contains_later x (y ∷ xs) v (last_in y xs v e)

last_there : {A : Type 0} (xs : List A) (v : A) → last_or None xs ≡ Some v → Contains xs v
last_there [] v e = absurd (none-some v e)
last_there (x ∷ xs) v e = last_in x xs v e

behind_in : (u : Place) (xs : List Place) (v : Place) → Contains (behind u xs) v → Contains xs v
behind_in u [] v has = has
behind_in u (x ∷ xs) v has = contains_later x xs v (by (bytes_eq x u) (behind_in u xs v) has)
  where
    by : (b : Bool) → (Contains (behind u xs) v → Contains xs v) → Contains (cond b xs (behind u xs)) v → Contains xs v
    by true again has = has
    by false again has = again has

ahead_in : (u : Place) (xs : List Place) (v : Place) → Contains (ahead u xs) v → Contains xs v
ahead_in u [] v has = has
ahead_in u (x ∷ xs) v has = by (bytes_eq x u) (ahead_in u xs v) has
  where
    by : (b : Bool) → (Contains (ahead u xs) v → Contains xs v) → Contains (cond b [] (x ∷ ahead u xs)) v → Contains (x ∷ xs) v
    by true again has = absurd (contains_none v has)
    by false again has = elim (contains_either x (ahead u xs) v has) [
      | inl same ↦ subst (Contains (x ∷ xs)) same (contains_first x xs)
      | inr rest ↦ contains_later x xs v (again rest)
    ]

module _ (spec : Spec) (t : Term) where
  listed : (v : Place) → Contains (resting spec t) v → rests spec t v ≡ true
  listed v has = (filter_from (rests spec t) (places_in t) v has).1

  pub leads_to_rest : (move : Move) (u v : Place) → target move spec t u ≡ Some v → rests spec t v ≡ true
  leads_to_rest Next u v e = listed v (behind_in u (resting spec t) v (first_in (behind u (resting spec t)) v e))
  leads_to_rest Prev u v e = listed v (ahead_in u (resting spec t) v (last_there (ahead u (resting spec t)) v e))
  leads_to_rest Up u v e = found_passes (rests spec t) (above u) v e
  leads_to_rest First u v e = listed v (found_in (λ v. is_below v u) (resting spec t) v e)
  leads_to_rest Sibling u v e = listed v (behind_in u (resting spec t) v (found_in (λ v. not (is_at_or_below v u) && is_same_place (up_from spec t v) (up_from spec t u)) (behind u (resting spec t)) v e))
