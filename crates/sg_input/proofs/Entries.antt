-- A sound specification has few entries.
use Rattle.std.proofs.Common.{◌≡◌, ℕ, zero, suc, ◌<◌, ◌≤◌, inl, inr, Bool, true, false, cond, List, [], ◌∷◌, length, get_or, map, refl, sym, subst, arith, Some, None}
use Rattle.std.specs.Prelude.{◌≢◌, ◌||◌, Option, slice_get, nat_eq, nat_lt, position, All, AllPairs, IsTrue}
use Rattle.std.specs.List.{list_any, position_or_len, IsDistinct, AllByRecursion}
use Rattle.std.proofs.lemmas.Bool.{cases_Bool, eqb-true}
use Rattle.std.proofs.lemmas.List.{length-map}
use Rattle.std.proofs.lemmas.List.Elements.{All-head, All-tail}
use Rattle.std.proofs.lemmas.Map.Steps.{length-le_from_distinct_below}
use Rattle.std.proofs.lemmas.Option.{slice_get_within, same_Some, none-some}
use Rattle.sg_kinds.specs.Sound.{IsSound}
use Rattle.sg_kinds.specs.Typing.{is_usable}
use Rattle.sg_kinds.specs.declared.spec.Entry.{Entry}
use Rattle.sg_kinds.specs.declared.spec.Phylum.{Phylum}
use Rattle.sg_kinds.specs.declared.spec.Spec.{Spec}
use Rattle.sg_input.specs.Entered.{entry_at}

differ : (a b : ℕ) → a ≢ b → nat_eq a b ≡ false
differ a b n = elim (cases_Bool (nat_eq a b)) [ inl e ↦ absurd (n (eqb-true a b e)) | inr e ↦ e ]

apart : (p : ℕ) (es : List Entry) → ((j : ℕ) (d : Entry) → j < length es → p ≢ (get_or es j d).phylum) → AllByRecursion (λ q. nat_eq p q ≡ false) (map (λ (e : Entry). e.phylum) es)
apart p [] h = tt
apart p (x ∷ es) h = (differ p x.phylum (h zero x (omega arith)), apart p es (λ j d l. h (suc j) d (omega (arith, l))))

distinct : (es : List Entry) → AllPairs (λ (x y : Entry). x.phylum ≢ y.phylum) es → IsDistinct nat_eq (map (λ (e : Entry). e.phylum) es)
unfolding IsDistinct
distinct [] h = tt
distinct (x ∷ es) h = (apart x.phylum es (λ j d l. h zero (suc j) d (omega arith) (omega (arith, l))), distinct es (λ i j d l k. h (suc i) (suc j) d (omega (arith, l)) (omega (arith, k))))

by-test : (b : Bool) (n k m : ℕ) → (b ≡ true → n < m) → cond b (Some n) None ≡ Some k → k < m
by-test true n k m h e = let l = h refl in let s = same_Some n k e in omega (arith, l, s)
by-test false n k m h e = absurd (none-some k e)

place-low : {X : Type 0} (p : X → Bool) (xs : List X) (k : ℕ) → position p xs ≡ Some k → k < length xs
place-low p xs k e = by-test (nat_lt (position_or_len p xs) (length xs)) (position_or_len p xs) k (length xs) (below (position_or_len p xs) (length xs)) e
  where
    below : (a b : ℕ) → nat_lt a b ≡ true → a < b
    below a b h = grind arith

module _ (spec : Spec) where
  usable-low : (p : ℕ) → is_usable spec p ≡ true → p < length spec.phyla
  usable-low p h = by (slice_get spec.phyla p) refl
    where
      by : (o : Option Phylum) → slice_get spec.phyla p ≡ o → p < length spec.phyla
      by None e = let n : false ≡ true = rw e at h in absurd (cc)
      by (Some x) e = slice_get_within spec.phyla p x e

  among : (q : ℕ) (es : List Entry) → All (λ (x : Entry). IsTrue (is_usable spec x.phylum)) es → list_any (nat_eq q) (map (λ (e : Entry). e.phylum) es) ≡ true → q < length spec.phyla
  among q [] h e = absurd (cc)
  among q (x ∷ es) h e =
      let P = λ (y : Entry). IsTrue (is_usable spec y.phylum) in
      elim (cases_Bool (nat_eq q x.phylum)) [
        | inl same ↦ subst (λ z. z < length spec.phyla) (sym (eqb-true q x.phylum same)) (usable-low x.phylum (All-head P x es h))
        | inr other ↦ among q es (All-tail P x es h) (let f : nat_eq q x.phylum || list_any (nat_eq q) (map (λ (y : Entry). y.phylum) es) ≡ true = e in rw other at f)
      ]

  pub few_entries : IsSound spec → length spec.entries ≤ 515
  few_entries sound =
      let l = length-le_from_distinct_below (map (λ (e : Entry). e.phylum) spec.entries) (length spec.phyla) (distinct spec.entries sound.entries.once) (λ q e. among q spec.entries sound.entries.usable e) in
      let m = length-map spec.entries (λ (e : Entry). e.phylum) in
      let c = sound.counted.phyla in
      omega (arith, l, m, c)

  pub entry_low : IsSound spec → (p k : ℕ) → entry_at spec p ≡ Some k → k < 516
  entry_low sound p k e = let l = place-low (λ (x : Entry). nat_eq x.phylum p) spec.entries k e in let f = few_entries sound in omega (arith, l, f)
