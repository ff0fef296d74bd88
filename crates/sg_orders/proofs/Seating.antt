-- The visits of a phylum, and the seats of an argument's visits.
use Rattle.std.specs.Prelude.{◌≡◌, ℕ, zero, suc, ◌+◌, ◌-◌, ◌*◌, ◌%◌, ◌<◌, ◌≤◌, ◌⊎◌, ◌&&◌, max, min, Bool, true, false, cond, not, nat_eq, List, [], ◌∷◌, length, map, filter, Some, slice_get, slice_index, unwrap_or}
use Rattle.std.proofs.Common.{refl, sym, ap, ◌∙◌, subst, get_or, arith, inl, inr}
use Rattle.std.proofs.lemmas.Bool.{cases_lt, false≢true, eqb-true, eq-eqb, ne_eqb, and_parts, and_from, not-true, not_from_false}
use Rattle.std.proofs.lemmas.List.{length-map, get_or-map, nil_from_length}
use Rattle.std.proofs.lemmas.List.Elements.{filter_passes, All-filter}
use Rattle.sg_kinds.specs.declared.spec.Rules.{Rules}
use Rattle.sg_kinds.specs.Specification.{attrs_of, args_of, is_inherited}
use Rattle.sg_kinds.specs.Instances.{below}
use Rattle.sg_kinds.specs.Dependencies.{IsAttr, occurrence}
use Rattle.sg_kinds.specs.declared.plans.Plans.{Plans}
use Rattle.sg_kinds.specs.Visits.{row_at, greatest, position_in, visit_count, given_in, least, after_all, seat, seat_by}
use Rattle.sg_kinds.specs.ValidPlans.{pair_of, pairs, visit_of, AreVisits}
use Rattle.sg_dependencies.proofs.Below.{get_or-map-below, length-map-below, length-below, get_or-below}
use Rattle.sg_orders.proofs.Pairs.{greatest_high, greatest_one, greatest_least}
use Rattle.sg_orders.proofs.Unique.{none_passed}

-- the visits of X by its layers
module _ (rules : Rules) (X : ℕ) (layer : ℕ → ℕ) (plans : Plans) (are : AreVisits rules X layer plans) where
  abbrev count : ℕ
  count = length (attrs_of rules.phyla X)

  abbrev pairs_here : List ℕ
  pairs_here = map (λ a. pair_of (layer a)) (below count)

  pub visit_at : (a : ℕ) → IsAttr rules X a → slice_index (row_at plans.visits X) a ≡ visit_of rules X layer a
  visit_at a there = ap (λ xs. slice_index xs a) are.row ∙ get_or-map-below (visit_of rules X layer) count a 0 there

  pub pair_low : (a : ℕ) → IsAttr rules X a → pair_of (layer a) ≤ pairs rules X layer
  pair_low a there =
      let h = greatest_high pairs_here a 0 (omega (arith, there, length-map-below (λ b. pair_of (layer b)) count)) in
      omega (arith, h, get_or-map-below (λ b. pair_of (layer b)) count a 0 there)

  pub pair_positive : (a : ℕ) → IsAttr rules X a → 1 ≤ pair_of (layer a)
  pair_positive a there = let p = are.layers.positive a there in omega (arith, p)

  -- an attribute of the first visit, where there is one at all
  pub record IsFarthest : Type 0 where
    pub attr : ℕ
    pub there : IsAttr rules X attr
    pub pair : pair_of (layer attr) ≡ pairs rules X layer

  farthest_of : (n : ℕ) → count ≡ suc n → IsFarthest
  farthest_of n some = by pairs_here refl (length-map-below (λ b. pair_of (layer b)) count)
    where
      by : (xs : List ℕ) → pairs_here ≡ xs → length xs ≡ count → IsFarthest
      by [] is long = absurd (omega (arith, long, some))
      by (x ∷ xs) is long =
          let one = greatest_one x xs in
          let low = one.low in
          let there : one.place < count = omega (arith, low, long) in
          let at : get_or (x ∷ xs) one.place 0 ≡ pair_of (layer one.place) = ap (λ ys. get_or ys one.place 0) (sym is) ∙ get_or-map-below (λ b. pair_of (layer b)) count one.place 0 there in
          let positive = pair_positive one.place there in
          let most = one.is in
          let same : greatest pairs_here ≡ greatest (x ∷ xs) = ap greatest is in
          record { attr = one.place; there = there; pair = omega (arith, at, most, same, positive) }

  pub farthest : (a : ℕ) → IsAttr rules X a → IsFarthest
  farthest a there = by count refl
    where
      by : (n : ℕ) → count ≡ n → IsFarthest
      by zero none = absurd (omega (arith, there, none))
      by (suc n) some = farthest_of n some

  -- there are as many visits as pairs of layers
  pub visits_counted : visit_count plans X ≡ pairs rules X layer
  visits_counted = by count refl
    where
      row_long : length (row_at plans.visits X) ≡ count
      row_long = ap length are.row ∙ length-map-below (visit_of rules X layer) count

      most : greatest (row_at plans.visits X) ≤ pairs rules X layer
      most = greatest_least (row_at plans.visits X) (pairs rules X layer) (λ i low.
          let there : i < count = omega (arith, low, row_long) in
          let v = visit_at i there in
          let p = pair_positive i there in
          omega (arith, v, p))

      last : (a : ℕ) → IsAttr rules X a → pair_of (layer a) ≡ 1 → pairs rules X layer ≤ greatest (row_at plans.visits X)
      last a there one =
          let h = greatest_high (row_at plans.visits X) a 0 (omega (arith, there, row_long)) in
          let v = visit_at a there in
          omega (arith, h, v, one)

      some : (a : ℕ) → IsAttr rules X a → pairs rules X layer ≤ greatest (row_at plans.visits X)
      some a there = elim (cases_lt (layer a) 2) [
        | inl low ↦ last a there (let p = are.layers.positive a there in omega (arith, p, low))
        | inr high ↦ let second = none_passed rules X layer are.layers 2 a (omega arith) there high in last second.attr second.there (let e = second.layer in omega (arith, e))
      ]

      by : (n : ℕ) → count ≡ n → visit_count plans X ≡ pairs rules X layer
      by zero none =
          let left : row_at plans.visits X ≡ [] = nil_from_length (row_at plans.visits X) (row_long ∙ none) in
          let right : pairs_here ≡ [] = nil_from_length pairs_here (length-map-below (λ b. pair_of (layer b)) count ∙ none) in
          ap (λ xs. max 1 (greatest xs)) left ∙ sym (ap (λ xs. max 1 (greatest xs)) right)
      by (suc n) some_attrs =
          let least_is = some 0 (omega (arith, some_attrs)) in
          omega (arith, least_is, most)

  -- a synthesized attribute of visit j
  pub record IsGiven (j a : ℕ) : Type 0 where
    pub there : IsAttr rules X a
    pub way : is_inherited rules.phyla X a ≡ false
    pub visit : slice_index (row_at plans.visits X) a ≡ j

  odd : (m : ℕ) → 1 ≤ m → nat_eq ((2 * m - 1) % 2) 0 ≡ false
  odd m low = ne_eqb ((2 * m - 1) % 2) 0 (λ e. omega (arith, e, low))

  -- each visit but the last has a synthesized attribute
  pub given_before : (j a : ℕ) → 1 ≤ j → j < visit_count plans X → IsAttr rules X a → (b : ℕ) × IsGiven j b
  given_before j a low before there =
      let n = visits_counted in
      let far = farthest a there in
      let m = suc (pairs rules X layer) - j in
      let at = far.pair in
      let found = none_passed rules X layer are.layers (2 * m - 1) far.attr (omega (arith, n, low, before)) far.there (omega (arith, n, low, before, at)) in
      let is = found.layer in
      let v = visit_at found.attr found.there in (
        found.attr,
        record {
          there = found.there;
          way = (are.layers.allowed found.attr found.there).kind found.attr found.there (eq-eqb (layer found.attr) (layer found.attr) refl) ∙ ap (λ k. nat_eq (k % 2) 0) is ∙ odd m (omega (arith, n, before));
          visit = omega (arith, v, is, n, low, before);
        },
      )

-- the least of some numbers
pub record IsLeastOf (ns : List ℕ) (m : ℕ) : Type 0 where
  pub place : ℕ
  pub low : place < length ns
  pub is : get_or ns place 0 ≡ m
  pub least : (i : ℕ) → i < length ns → m ≤ get_or ns i 0

pub least_is : (n : ℕ) (ns : List ℕ) → (m : ℕ) × (least (n ∷ ns) ≡ Some m) × IsLeastOf (n ∷ ns) m
least_is n [] = (min n n, refl, record { place = 0; low = omega arith; is = omega arith; least = first })
  where
    first : (i : ℕ) → i < 1 → min n n ≤ get_or (n ∷ []) i 0
    first zero low = omega arith
    first (suc i) low = absurd (omega (arith, low))
least_is n (k ∷ ns) =
    let rest = least_is k ns in
    let r = rest.2 in
    let low = r.low in
    let at = r.is in (
      min n rest.0,
      ap (λ o. Some (min n (unwrap_or o n))) rest.1,
      elim (cases_lt n rest.0) [
        | inl less ↦ record { place = 0; low = omega arith; is = omega (arith, less); least = both n (k ∷ ns) rest.0 r.least }
        | inr more ↦ record { place = suc r.place; low = omega (arith, low); is = omega (arith, more, at); least = both n (k ∷ ns) rest.0 r.least }
      ],
    )
  where
    both : (n : ℕ) (ns : List ℕ) (m : ℕ) → ((i : ℕ) → i < length ns → m ≤ get_or ns i 0) → (i : ℕ) → i < length (n ∷ ns) → min n m ≤ get_or (n ∷ ns) i 0
    both n ns m all zero low = omega arith
    both n ns m all (suc i) low = let l = all i (omega (arith, low)) in omega (arith, l)

-- an element that passes stands in the filtered list
pub filter_has : {X : Type 0} (p : X → Bool) (xs : List X) (k : ℕ) (c : X) → k < length xs → p (get_or xs k c) ≡ true → (i : ℕ) × (i < length (filter p xs)) × ((d : X) → get_or (filter p xs) i d ≡ get_or xs k c)
filter_has p [] k c low pass = absurd (omega (arith, low))
filter_has p (x ∷ xs) zero c low pass = here (p x) (filter p xs) pass
  where
    here : (b : Bool) (ys : List _) → b ≡ true → (i : ℕ) × (i < length (cond b (x ∷ ys) ys)) × ((d : _) → get_or (cond b (x ∷ ys) ys) i d ≡ x)
    here true ys h = (0, omega arith, λ d. refl)
    here false ys h = absurd (false≢true h)
filter_has p (x ∷ xs) (suc k) c low pass = later (p x) (filter p xs) (filter_has p xs k c (omega (arith, low)) pass)
  where
    later : (b : Bool) (ys : List _) → (i : ℕ) × (i < length ys) × ((d : _) → get_or ys i d ≡ get_or xs k c) → (i : ℕ) × (i < length (cond b (x ∷ ys) ys)) × ((d : _) → get_or (cond b (x ∷ ys) ys) i d ≡ get_or xs k c)
    later true ys h = let l = h.1 in (suc h.0, omega (arith, l), h.2)
    later false ys h = h

-- what is given in a visit
module _ (rules : Rules) (plans : Plans) (X j : ℕ) where
  abbrev given_test : ℕ → Bool
  given_test a = not (is_inherited rules.phyla X a) && nat_eq (slice_index (row_at plans.visits X) a) j

  pub record IsGivenAt (a : ℕ) : Type 0 where
    pub there : IsAttr rules X a
    pub way : is_inherited rules.phyla X a ≡ false
    pub visit : slice_index (row_at plans.visits X) a ≡ j

  pub given_from : (i d : ℕ) → i < length (given_in rules plans X j) → IsGivenAt (get_or (given_in rules plans X j) i d)
  given_from i d low =
      let parts = and_parts _ _ (filter_passes given_test (below (length (attrs_of rules.phyla X))) i d low) in
      record {
        there = All-filter given_test (λ a. a < length (attrs_of rules.phyla X)) (below (length (attrs_of rules.phyla X))) (λ k e under. let l : k < length (attrs_of rules.phyla X) = omega (arith, under, length-below (length (attrs_of rules.phyla X))) in subst (λ a. a < length (attrs_of rules.phyla X)) (sym (get_or-below (length (attrs_of rules.phyla X)) k e l)) l) i d low;
        way = not-true (is_inherited rules.phyla X (get_or (given_in rules plans X j) i d)) parts.0;
        visit = eqb-true (slice_index (row_at plans.visits X) (get_or (given_in rules plans X j) i d)) j parts.1;
      }

  -- where an attribute stands among those
  pub given_place : (a : ℕ) → IsGivenAt a → (i : ℕ) × (i < length (given_in rules plans X j)) × ((d : ℕ) → get_or (given_in rules plans X j) i d ≡ a)
  given_place a is =
      let here : get_or (below (length (attrs_of rules.phyla X))) a 0 ≡ a = get_or-below (length (attrs_of rules.phyla X)) a 0 is.there in
      let found = filter_has given_test (below (length (attrs_of rules.phyla X))) a 0 (let t = is.there in omega (arith, t, length-below (length (attrs_of rules.phyla X)))) (subst (λ b. given_test b ≡ true) (sym here) passes) in
      (found.0, found.1, λ d. found.2 d ∙ here)
    where
      passes : given_test a ≡ true
      passes = and_from (not (is_inherited rules.phyla X a)) (nat_eq (slice_index (row_at plans.visits X) a) j) (not_from_false (is_inherited rules.phyla X a) is.way) (eq-eqb (slice_index (row_at plans.visits X) a) j is.visit)

-- each visit but the last has a synthesized attribute, whatever the phylum
pub given_in_visit : (rules : Rules) (X : ℕ) (layer : ℕ → ℕ) (plans : Plans) → AreVisits rules X layer plans → (j : ℕ) → 1 ≤ j → j < visit_count plans X → (a : ℕ) × IsGivenAt rules plans X j a
given_in_visit rules X layer plans are j low before = by (length (attrs_of rules.phyla X)) refl
  where
    by : (n : ℕ) → length (attrs_of rules.phyla X) ≡ n → (a : ℕ) × IsGivenAt rules plans X j a
    by zero none =
        let long : length (row_at plans.visits X) ≡ 0 = ap length are.row ∙ length-map-below (visit_of rules X layer) (length (attrs_of rules.phyla X)) ∙ none in
        let empty : visit_count plans X ≡ 1 = ap (λ xs. max 1 (greatest xs)) (nil_from_length (row_at plans.visits X) long) in
        absurd (omega (arith, empty, low, before))
    by (suc n) some =
        let found = given_before rules X layer plans are j 0 low before (omega (arith, some)) in
        let is = found.1 in
        (found.0, record { there = is.there; way = is.way; visit = is.visit })

-- the seat of a visit: its first synthesized attribute, or behind all vertices
pub record IsSeatGiven (rules : Rules) (plans : Plans) (p k j X : ℕ) : Type 0 where
  pub attr : ℕ
  pub given : IsGivenAt rules plans X j attr
  pub at : seat rules plans p k j ≡ position_in rules plans p (occurrence (suc k) attr)
  pub first : (b : ℕ) → IsGivenAt rules plans X j b → seat rules plans p k j ≤ position_in rules plans p (occurrence (suc k) b)

pub record IsSeatLast (rules : Rules) (plans : Plans) (p k j X : ℕ) : Type 0 where
  pub none : (b : ℕ) → IsGivenAt rules plans X j b → ⊥
  pub at : seat rules plans p k j ≡ after_all plans p + k

pub seat_cases : (rules : Rules) (plans : Plans) (p k j X : ℕ) → slice_get (args_of rules.ops p) k ≡ Some X → IsSeatGiven rules plans p k j X ⊎ IsSeatLast rules plans p k j X
seat_cases rules plans p k j X arg = by (given_in rules plans X j) refl
  where
    is : seat rules plans p k j ≡ unwrap_or (least (map (λ a. position_in rules plans p (occurrence (suc k) a)) (given_in rules plans X j))) (after_all plans p + k)
    is = ap (seat_by rules plans p k j) arg

    by : (given : List ℕ) → given_in rules plans X j ≡ given → IsSeatGiven rules plans p k j X ⊎ IsSeatLast rules plans p k j X
    by [] none = inr (record {
      none = λ b there. let found = given_place rules plans X j b there in let low = found.1 in omega (arith, low, ap length none);
      at = is ∙ ap (λ xs. unwrap_or (least (map (λ a. position_in rules plans p (occurrence (suc k) a)) xs)) (after_all plans p + k)) none;
    })
    by (a ∷ given) some =
        let positions = map (λ b. position_in rules plans p (occurrence (suc k) b)) given in
        let found = least_is (position_in rules plans p (occurrence (suc k) a)) positions in
        let l = found.2 in
        let low = l.low in
        let at : seat rules plans p k j ≡ found.0 = is ∙ ap (λ xs. unwrap_or (least (map (λ b. position_in rules plans p (occurrence (suc k) b)) xs)) (after_all plans p + k)) some ∙ ap (λ o. unwrap_or o (after_all plans p + k)) found.1 in
        let inside : l.place < length (a ∷ given) = omega (arith, low, length-map (a ∷ given) (λ b. position_in rules plans p (occurrence (suc k) b))) in
        let there : l.place < length (given_in rules plans X j) = omega (arith, inside, ap length some) in
        let here : get_or (given_in rules plans X j) l.place 0 ≡ get_or (a ∷ given) l.place 0 = ap (λ xs. get_or xs l.place 0) some in
        inl (record {
          attr = get_or (given_in rules plans X j) l.place 0;
          given = given_from rules plans X j l.place 0 there;
          at = at ∙ sym l.is ∙ get_or-map (λ b. position_in rules plans p (occurrence (suc k) b)) (a ∷ given) l.place 0 0 inside ∙ ap (λ b. position_in rules plans p (occurrence (suc k) b)) (sym here);
          first = λ b is_given.
              let place = given_place rules plans X j b is_given in
              let under = place.1 in
              let among : place.0 < length (a ∷ given) = omega (arith, under, ap length some) in
              let value = get_or-map (λ c. position_in rules plans p (occurrence (suc k) c)) (a ∷ given) place.0 0 0 among ∙ ap (λ c. position_in rules plans p (occurrence (suc k) c)) (ap (λ xs. get_or xs place.0 0) (sym some) ∙ place.2 0) in
              let most = l.least place.0 (omega (arith, among, length-map (a ∷ given) (λ c. position_in rules plans p (occurrence (suc k) c)))) in
              omega (arith, at, value, most);
        })
