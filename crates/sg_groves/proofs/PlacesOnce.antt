-- The places of a term: each that is there, and none twice.
use Rattle.std.specs.Prelude.{◌≡◌, refl, ℕ, zero, suc, ◌+◌, ◌≤◌, [], ◌∷◌, ◌++◌, length, Contains, Option, Some, None, slice_get, option_and_then}
use Rattle.std.proofs.Common.{sym, ap, ◌∙◌, subst, inl, inr, arith, append_assoc, length-append}
use Rattle.std.proofs.lemmas.List.Elements.{Contains-append_left, Contains-append_right, Contains-append_cases}
use Rattle.std.proofs.lemmas.Option.{none-some, same_Some}
use Rattle.sg_kinds.specs.Terms.{Term, Terms, Leaf, Node, NoTerm, AndTerm, terms_of}
use Rattle.sg_kinds.specs.Places.{Place, child, sub, places_from, places_among, places_in}
use Rattle.sg_groves.specs.Evaluated.{IsAtOrBelow}
use Rattle.sg_groves.proofs.Below.{below_itself}
use Rattle.sg_groves.proofs.Lists.{contains_first, contains_later, contains_either, contains_none, AreApart, apart_none, apart_cons, apart_append}

-- each place that is there
first_place : (u : Place) (t : Term) → Contains (places_from u t) u
first_place u (Leaf p v) = contains_first u []
first_place u (Node op scheme elided ts) = contains_first u (places_among u 0 ts)

among_has : (u : Place) (i : ℕ) (ts : Terms) (k : ℕ) (s : Term) (q : Place) → slice_get (terms_of ts) k ≡ Some s → Contains (places_from ((i + k) ∷ u) s) q → Contains (places_among u i ts) q
among_has u i NoTerm k s q at has = absurd (none-some s at)
among_has u i (AndTerm t ts) zero s q at has =
    let same : i + 0 ≡ i = omega arith in
    let here : Contains (places_from (i ∷ u) s) q = subst (λ n. Contains (places_from (n ∷ u) s) q) same has in
    Contains-append_left (places_from (i ∷ u) t) (places_among u (suc i) ts) q (subst (λ x. Contains (places_from (i ∷ u) x) q) (sym (same_Some t s at)) here)
among_has u i (AndTerm t ts) (suc k) s q at has =
    let same : i + suc k ≡ suc i + k = omega arith in
    Contains-append_right (places_from (i ∷ u) t) (places_among u (suc i) ts) q (among_has u (suc i) ts k s q at (subst (λ n. Contains (places_from (n ∷ u) s) q) same has))

within : (t : Term) (u : Place) (s : Term) → sub t u ≡ Some s → (q : Place) → Contains (places_from u s) q → Contains (places_in t) q
within t [] s at q has = subst (λ x. Contains (places_from [] x) q) (sym (same_Some t s at)) has
within t (k ∷ u) s at q has = by (sub t u) refl at (within t u)
  where
    by : (o : Option Term) → sub t u ≡ o → option_and_then (child k) o ≡ Some s → ((x : Term) → sub t u ≡ Some x → (q : Place) → Contains (places_from u x) q → Contains (places_in t) q) → Contains (places_in t) q
    by None is got above = absurd (none-some s got)
    by (Some (Leaf p v)) is got above = absurd (none-some s got)
    by (Some (Node op scheme elided ts)) is got above =
        let same : 0 + k ≡ k = omega arith in
        let inside = among_has u 0 ts k s q got (subst (λ n. Contains (places_from (n ∷ u) s) q) (sym same) has) in
        above (Node op scheme elided ts) is q (contains_later u (places_among u 0 ts) q inside)

pub place_there : (t : Term) (u : Place) (s : Term) → sub t u ≡ Some s → Contains (places_in t) u
place_there t u s at = within t u s at u (first_place u s)

-- the ends of two equal lists
no_longer : (xs w ys : Place) → xs ≡ w ++ ys → length xs ≡ length ys → w ≡ []
no_longer xs [] ys same even = refl
no_longer xs (k ∷ w) ys same even = let long : length xs ≡ length (k ∷ w) + length ys = ap length same ∙ length-append (k ∷ w) ys in absurd (omega (arith, even, long))

same_end : (v w xs ys : Place) → v ++ xs ≡ w ++ ys → length xs ≡ length ys → xs ≡ ys
same_end [] w xs ys same even = same ∙ ap (λ z. z ++ ys) (no_longer xs w ys same even)
same_end (j ∷ v) [] xs ys same even = let long : length (j ∷ v) + length xs ≡ length ys = sym (length-append (j ∷ v) xs) ∙ ap length same in absurd (omega (arith, even, long))
same_end (j ∷ v) (k ∷ w) xs ys same even = same_end v w xs ys (ap (tail_of v) same) even
  where
    tail_of : Place → Place → Place
    tail_of z [] = z
    tail_of z (n ∷ u) = u

one_child : (v : Place) (j k : ℕ) (u : Place) → IsAtOrBelow v (j ∷ u) → IsAtOrBelow v (k ∷ u) → j ≡ k
one_child v j k u one two = ap head_of (same_end one.below two.below (j ∷ u) (k ∷ u) (sym one.is ∙ two.is) refl)
  where
    head_of : Place → ℕ
    head_of [] = 0
    head_of (n ∷ w) = n

not_below_child : (u : Place) (k : ℕ) → IsAtOrBelow u (k ∷ u) → ⊥
not_below_child u k b = let long : length u ≡ length b.below + length (k ∷ u) = ap length b.is ∙ length-append b.below (k ∷ u) in omega (arith, long)

under_child : (v u : Place) (k : ℕ) → IsAtOrBelow v (k ∷ u) → IsAtOrBelow v u
under_child v u k b = record { below = b.below ++ k ∷ []; is = b.is ∙ sym (append_assoc b.below (k ∷ []) u) }

-- where places lie
mutual
  from_below : (t : Term) (u v : Place) → Contains (places_from u t) v → IsAtOrBelow v u
  from_below (Leaf p w) u v has = elim (contains_either u [] v has) [ inl same ↦ subst (λ z. IsAtOrBelow z u) same (below_itself u) | inr none ↦ absurd (contains_none v none) ]
  from_below (Node op scheme elided ts) u v has = elim (contains_either u (places_among u 0 ts) v has) [
    | inl same ↦ subst (λ z. IsAtOrBelow z u) same (below_itself u)
    | inr rest ↦ let found = among_below ts u 0 v rest in under_child v u found.0 found.2
  ]

  among_below : (ts : Terms) (u : Place) (i : ℕ) (v : Place) → Contains (places_among u i ts) v → (j : ℕ) × (i ≤ j) × IsAtOrBelow v (j ∷ u)
  among_below NoTerm u i v has = absurd (contains_none v has)
  among_below (AndTerm t ts) u i v has = elim (Contains-append_cases (places_from (i ∷ u) t) (places_among u (suc i) ts) v has) [
    | inl first ↦ (i, omega arith, from_below t (i ∷ u) v first)
    | inr rest ↦ let found = among_below ts u (suc i) v rest in (found.0, (let low = found.1 in omega (arith, low)), found.2)
  ]

-- none stands twice
mutual
  from_apart : (t : Term) (u : Place) → AreApart (places_from u t)
  from_apart (Leaf p v) u = apart_cons u [] (contains_none u) apart_none
  from_apart (Node op scheme elided ts) u = apart_cons u (places_among u 0 ts) (λ has. let found = among_below ts u 0 u has in not_below_child u found.0 found.2) (among_apart ts u 0)

  among_apart : (ts : Terms) (u : Place) (i : ℕ) → AreApart (places_among u i ts)
  among_apart NoTerm u i = apart_none
  among_apart (AndTerm t ts) u i =
      apart_append (places_from (i ∷ u) t) (places_among u (suc i) ts) (from_apart t (i ∷ u)) (among_apart ts u (suc i))
      (λ v first rest.
      let found = among_below ts u (suc i) v rest in
      let same = one_child v i found.0 u (from_below t (i ∷ u) v first) found.2 in
      let low = found.1 in
      omega (arith, same, low))

pub places_apart : (t : Term) → AreApart (places_in t)
places_apart t = from_apart t []
