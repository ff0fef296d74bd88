-- The moves, by what rests around a place.
use Rattle.std.specs.Prelude.{◌≡◌, ◌≢◌, refl, zero, suc, Bool, true, false, ◌&&◌, cond, bytes_eq, List, [], ◌∷◌, ◌++◌, length, Some, None, slice_get}
use Rattle.std.specs.List.{last_or}
use Rattle.std.proofs.Common.{sym, ap, ◌∙◌, subst, arith, length-append}
use Rattle.std.proofs.Math.Seq.{get_or-append_seam}
use Rattle.std.proofs.lemmas.Bool.{false≢true}
use Rattle.std.proofs.lemmas.List.Kept.{AllPairs-filter}
use Rattle.sg_kinds.specs.Terms.{Term}
use Rattle.sg_kinds.specs.Places.{Place, sub, places_in}
use Rattle.sg_kinds.specs.declared.spec.Spec.{Spec}
use Rattle.sg_kinds.proofs.Elementary.{bytes_is, bytes_itself}
use Rattle.sg_groves.proofs.Lists.{AreApart}
use Rattle.sg_groves.proofs.PlacesOnce.{places_apart}
use Rattle.sg_select.specs.RestingPlaces.{is_open, stands_resting, rests, resting, behind, ahead, next_from, prev_from}
use Rattle.sg_select.specs.Around.{when, inside, before, after}
use Rattle.sg_select.proofs.Around.{zipped}

-- other places differ by the test
pub differ : (v u : Place) → v ≢ u → bytes_eq v u ≡ false
differ v u apart = by (bytes_eq v u) refl
  where
    by : (b : Bool) → bytes_eq v u ≡ b → bytes_eq v u ≡ false
    by true same = absurd (apart (bytes_is v u same))
    by false other = other

apart_rest : (x : Place) (xs : List Place) → AreApart (x ∷ xs) → AreApart xs
apart_rest x xs apart i j d less low = apart (suc i) (suc j) d (omega (arith, less)) (omega (arith, low))

apart_from : (x : Place) (xs : List Place) (u : Place) (ys : List Place) → AreApart (x ∷ (xs ++ u ∷ ys)) → x ≢ u
apart_from x xs u ys apart same =
    apart zero (suc (length xs)) u (omega arith) (let long = length-append xs (u ∷ ys) in omega (arith, long)) (same ∙ sym (get_or-append_seam xs u ys u))

-- what stands before and behind a place in a list that has none twice
pub behind_at : (xs : List Place) (u : Place) (ys : List Place) → AreApart (xs ++ u ∷ ys) → behind u (xs ++ u ∷ ys) ≡ ys
behind_at [] u ys apart = ap (λ b. cond b ys (behind u ys)) (bytes_itself u)
behind_at (x ∷ xs) u ys apart =
    ap (λ b. cond b (xs ++ u ∷ ys) (behind u (xs ++ u ∷ ys))) (differ x u (apart_from x xs u ys apart)) ∙ behind_at xs u ys (apart_rest x (xs ++ u ∷ ys) apart)

pub ahead_at : (xs : List Place) (u : Place) (ys : List Place) → AreApart (xs ++ u ∷ ys) → ahead u (xs ++ u ∷ ys) ≡ xs
ahead_at [] u ys apart = ap (λ b. cond b [] (u ∷ ahead u ys)) (bytes_itself u)
ahead_at (x ∷ xs) u ys apart =
    ap (λ b. cond b [] (x ∷ ahead u (xs ++ u ∷ ys))) (differ x u (apart_from x xs u ys apart)) ∙ ap (λ l. x ∷ l) (ahead_at xs u ys (apart_rest x (xs ++ u ∷ ys) apart))

module _ (spec : Spec) (t : Term) where
  pub resting_open : (u : Place) → rests spec t u ≡ true → is_open spec t u ≡ true
  resting_open [] rest = refl
  resting_open (k ∷ u) rest = by (is_open spec t (k ∷ u)) refl rest
    where
      by : (b : Bool) → is_open spec t (k ∷ u) ≡ b → (b && stands_resting spec t k u) ≡ true → is_open spec t (k ∷ u) ≡ true
      by true is h = is
      by false is h = absurd (false≢true h)

  pub resting_apart : AreApart (resting spec t)
  resting_apart = AllPairs-filter (λ u v. u ≢ v) (rests spec t) (places_in t) (places_apart t)

  pub around : (u : Place) (x : Term) → sub t u ≡ Some x → rests spec t u ≡ true
      → resting spec t ≡ before spec t u ++ u ∷ (inside spec u x ++ after spec t u)
  around u x at rest =
      zipped spec t u x at (resting_open u rest) ∙ ap (λ b. before spec t u ++ (when b (u ∷ []) ++ (inside spec u x ++ after spec t u))) rest

  pub behind_is : (u : Place) (x : Term) → sub t u ≡ Some x → rests spec t u ≡ true → behind u (resting spec t) ≡ inside spec u x ++ after spec t u
  behind_is u x at rest =
      ap (behind u) (around u x at rest) ∙ behind_at (before spec t u) u (inside spec u x ++ after spec t u) (subst AreApart (around u x at rest) resting_apart)

  pub next_is : (u : Place) (x : Term) → sub t u ≡ Some x → rests spec t u ≡ true → next_from spec t u ≡ slice_get (inside spec u x ++ after spec t u) 0
  next_is u x at rest = ap (λ l. slice_get l 0) (behind_is u x at rest)

  pub prev_is : (u : Place) (x : Term) → sub t u ≡ Some x → rests spec t u ≡ true → prev_from spec t u ≡ last_or None (before spec t u)
  prev_is u x at rest =
      ap (λ l. last_or None (ahead u l)) (around u x at rest)
      ∙ ap (last_or None) (ahead_at (before spec t u) u (inside spec u x ++ after spec t u) (subst AreApart (around u x at rest) resting_apart))
