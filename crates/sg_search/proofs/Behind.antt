-- What stands behind a place in a list of places, and what is found there.
use Rattle.std.specs.Prelude.{◌≡◌, refl, ℕ, ◌+◌, Bool, true, false, cond, ◌||◌, bytes_eq, List, [], ◌∷◌, ◌++◌, filter, Some, is_some}
use Rattle.std.specs.List.{find, list_any, position_from}
use Rattle.std.proofs.Common.{sym, ap, ◌∙◌}
use Rattle.std.proofs.lemmas.Bool.{false≢true}
use Rattle.sg_kinds.specs.Places.{Place}
use Rattle.sg_kinds.proofs.Elementary.{bytes_is}
use Rattle.sg_select.specs.RestingPlaces.{behind}

-- a list is what stands in front and what stands behind
pub record IsBehind (u : Place) (xs : List Place) : Type 0 where
  pub front : List Place
  pub is : xs ≡ front ++ behind u xs

pub behind_splits : (u : Place) (xs : List Place) → IsBehind u xs
behind_splits u [] = record { front = []; is = refl }
behind_splits u (x ∷ xs) = let p = by (bytes_eq x u) (behind_splits u xs) in record { front = p.0; is = p.1 }
  where
    by : (b : Bool) → IsBehind u xs → (front : List Place) × (x ∷ xs ≡ front ++ cond b xs (behind u xs))
    by true rest = (x ∷ [], refl)
    by false rest = (x ∷ rest.front, ap (λ l. x ∷ l) rest.is)

-- behind a place that passes a test
pub behind_filter : (test : Place → Bool) (u : Place) → test u ≡ true → (xs : List Place) → behind u (filter test xs) ≡ filter test (behind u xs)
behind_filter test u passes [] = refl
behind_filter test u passes (x ∷ xs) = by (bytes_eq x u) refl (test x) refl (behind_filter test u passes xs)
  where
    by : (b : Bool) → bytes_eq x u ≡ b → (c : Bool) → test x ≡ c → behind u (filter test xs) ≡ filter test (behind u xs)
        → behind u (cond (test x) (x ∷ filter test xs) (filter test xs)) ≡ filter test (cond (bytes_eq x u) xs (behind u xs))
    by true same true pass rest = simp (pass, same) refl
    by true same false fail rest = absurd (false≢true (sym fail ∙ ap test (bytes_is x u same) ∙ passes))
    by false other true pass rest = simp (pass, other) rest
    by false other false fail rest = simp (fail, other) rest

-- the first that passes two tests
pub find_filter : (r a : Place → Bool) (xs : List Place) → find r (filter a xs) ≡ find a (filter r xs)
find_filter r a [] = refl
find_filter r a (x ∷ xs) = by (r x) refl (a x) refl (find_filter r a xs)
  where
    by : (b : Bool) → r x ≡ b → (c : Bool) → a x ≡ c → find r (filter a xs) ≡ find a (filter r xs)
        → find r (cond (a x) (x ∷ filter a xs) (filter a xs)) ≡ find a (cond (r x) (x ∷ filter r xs) (filter r xs))
    by true rests true applies rest = simp (applies, rests) refl
    by true rests false off rest = simp (off, rests) rest
    by false none true applies rest = simp (applies, none) rest
    by false none false off rest = simp (off, none) rest

-- whether some element passes, by the place of the first
pub any_position : {A : Type 0} (test : A → Bool) (xs : List A) (i : ℕ) → is_some (position_from test i xs) ≡ list_any test xs
any_position test [] i = refl
any_position test (x ∷ xs) i = by (test x) (any_position test xs (i + 1))
  where
    by : (b : Bool) → is_some (position_from test (i + 1) xs) ≡ list_any test xs → is_some (cond b (Some i) (position_from test (i + 1) xs)) ≡ (b || list_any test xs)
    by true rest = refl
    by false rest = rest
