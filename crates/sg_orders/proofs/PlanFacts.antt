-- What visits and positions say of each other where plans are valid.
use Rattle.std.specs.Prelude.{◌≡◌, ℕ, zero, suc, ◌-◌, ◌%◌, ◌<◌, ◌≤◌, ◌⊎◌, Bool, true, false, cond, nat_eq, nat_le, List, [], ◌∷◌, length, find, Some, slice_get, slice_index, is_some, Contains}
use Rattle.std.proofs.Common.{refl, sym, ap, ◌∙◌, subst, get_or, arith, inl, inr}
use Rattle.std.proofs.lemmas.Bool.{cases_lt, cases_eq, cases_order, cases_Bool, false≢true, eqb-true, eq-eqb, leb-true, le-leb}
use Rattle.sg_kinds.specs.declared.plans.Plans.{Plans}
use Rattle.sg_kinds.specs.declared.spec.Rules.{Rules}
use Rattle.sg_kinds.specs.declared.spec.Rule.{Rule}
use Rattle.sg_kinds.specs.declared.spec.Occurrence.{Occurrence}
use Rattle.sg_kinds.specs.Specification.{args_of, phylum_of, is_inherited}
use Rattle.sg_kinds.specs.Dependencies.{phylum_there, IsAttr, occurrence, direct}
use Rattle.sg_kinds.specs.Layers.{within, layered}
use Rattle.sg_kinds.specs.Visits.{row_at, position_in, visit_count, given_in, gives_from, belongs, belongs_by, after_all, seat}
use Rattle.sg_kinds.specs.ValidPlans.{AreVisits, ArePositions}
use Rattle.sg_dependencies.specs.Vertices.{AreInRange}
use Rattle.sg_dependencies.proofs.Ranges.{phylum_in}
use Rattle.sg_dependencies.proofs.Sound.{attr_vertex}
use Rattle.sg_orders.specs.Timed.{AreTimed}
use Rattle.sg_orders.proofs.Seating.{IsGivenAt, given_from, given_place, seat_cases, given_in_visit, visit_at, pair_low, pair_positive, visits_counted}
use Rattle.sg_orders.proofs.Sought.{found_at, first_is, first_none}
use Rattle.sg_orders.proofs.StepFacts.{position_low}

-- what a search says
found_some : {X : Type 0} (p : X → Bool) (xs : List X) (d : X) → is_some (find p xs) ≡ true → (i : ℕ) × (i < length xs) × (p (get_or xs i d) ≡ true)
found_some p [] d is = absurd (false≢true is)
found_some p (x ∷ xs) d is = by (p x) refl is (found_some p xs d)
  where
    by : (b : Bool) → p x ≡ b → is_some (cond b (Some x) (find p xs)) ≡ true → (is_some (find p xs) ≡ true → (i : ℕ) × (i < length xs) × (p (get_or xs i d) ≡ true)) → (i : ℕ) × (i < length (x ∷ xs)) × (p (get_or (x ∷ xs) i d) ≡ true)
    by true at h rest = (0, omega arith, at)
    by false at h rest = let r = rest h in let l = r.1 in (suc r.0, omega (arith, l), r.2)

-- the first of the numbers below n, or none
record IsFirst (p : ℕ → Bool) (n : ℕ) : Type 0 where
  at : ℕ
  low : at < n
  holds : p (suc at) ≡ true
  before : (k : ℕ) → k < at → p (suc k) ≡ false

first_below : (p : ℕ → Bool) (n : ℕ) → IsFirst p n ⊎ ((k : ℕ) → k < n → p (suc k) ≡ false)
first_below p zero = inr (λ k low. absurd (omega (arith, low)))
first_below p (suc n) = elim (first_below p n) [
  | inl first ↦ inl (record { at = first.at; low = (let l = first.low in omega (arith, l)); holds = first.holds; before = first.before })
  | inr none ↦ elim (cases_Bool (p (suc n))) [
    | inl here ↦ inl (record { at = n; low = omega arith; holds = here; before = none })
    | inr not_here ↦ inr (λ k low. elim (cases_lt k n) [ inl under ↦ none k under | inr past ↦ subst (λ m. p (suc m) ≡ false) (let e : n ≡ k = omega (arith, low, past) in e) not_here ])
  ]
]

-- the visits of one phylum against each other
module _ (rules : Rules) (X : ℕ) (layer : ℕ → ℕ) (plans : Plans) (are : AreVisits rules X layer plans) where
  abbrev visit : ℕ → ℕ
  visit a = slice_index (row_at plans.visits X) a

  pub visit_low : (a : ℕ) → IsAttr rules X a → 1 ≤ visit a
  visit_low a there =
      let v = visit_at rules X layer plans are a there in
      let p = pair_low rules X layer plans are a there in
      omega (arith, v, p)

  pub visit_high : (a : ℕ) → IsAttr rules X a → visit a ≤ visit_count plans X
  visit_high a there =
      let v = visit_at rules X layer plans are a there in
      let p = pair_positive rules X layer plans are a there in
      let n = visits_counted rules X layer plans are in
      omega (arith, v, p, n)

  -- an attribute of an earlier visit comes in an earlier evaluated layer
  pub earlier_visit : (a b : ℕ) → IsAttr rules X a → IsAttr rules X b → visit a < visit b → layer b < layer a
  earlier_visit a b m n less =
      let v = visit_at rules X layer plans are a m in
      let w = visit_at rules X layer plans are b n in
      let p = pair_low rules X layer plans are a m in
      let q = pair_low rules X layer plans are b n in
      omega (arith, v, w, p, q, less)

  kind_of : (a : ℕ) → IsAttr rules X a → is_inherited rules.phyla X a ≡ nat_eq (layer a % 2) 0
  kind_of a there = (are.layers.allowed a there).kind a there (eq-eqb (layer a) (layer a) refl)

  even_layer : (a : ℕ) → IsAttr rules X a → is_inherited rules.phyla X a ≡ true → layer a % 2 ≡ 0
  even_layer a there way = eqb-true (layer a % 2) 0 (sym (kind_of a there) ∙ way)

  odd_layer : (a : ℕ) → IsAttr rules X a → is_inherited rules.phyla X a ≡ false → layer a % 2 ≡ 1
  odd_layer a there way = elim (cases_eq (layer a % 2) 0) [
    | inl even ↦ absurd (false≢true (sym way ∙ kind_of a there ∙ eq-eqb (layer a % 2) 0 even))
    | inr odd ↦ omega (arith, odd)
  ]

  -- so does an inherited attribute before a synthesized one of its visit or a later one
  pub inherited_first : (a b : ℕ) → IsAttr rules X a → IsAttr rules X b → is_inherited rules.phyla X a ≡ true → is_inherited rules.phyla X b ≡ false → visit a ≤ visit b → layer b < layer a
  inherited_first a b m n way other le =
      let v = visit_at rules X layer plans are a m in
      let w = visit_at rules X layer plans are b n in
      let p = pair_low rules X layer plans are a m in
      let q = pair_low rules X layer plans are b n in
      let even = even_layer a m way in
      let odd = odd_layer b n other in
      omega (arith, v, w, p, q, le, even, odd)

module _ (rules : Rules) (ranges : AreInRange rules) (plans : Plans) (timed : AreTimed rules plans) (p : ℕ) (op : p < length rules.ops) where
  abbrev at_p : ArePositions rules p timed.layer plans
  at_p = timed.positions p op

  abbrev place : Occurrence → ℕ
  place o = position_in rules plans p o

  abbrev visit_in : ℕ → ℕ → ℕ
  visit_in X a = slice_index (row_at plans.visits X) a

  visits_of : (k X : ℕ) → phylum_there rules.ops p k ≡ Some X → AreVisits rules X (timed.layer X) plans
  visits_of k X there = timed.visits X (phylum_in rules ranges p k X there)

  -- what an equation names stands before what it defines
  pub named_before : (r : Rule) (u : Occurrence) → Contains rules.rules r → r.op ≡ p → Contains r.args u → place u < place r.target
  named_before r u stands is names = at_p.agree u r.target (within p u r.target (direct p u r.target (record { rule = r; stands = stands; of_operator = is; names = names; target = refl })))

  -- attributes of one occurrence by their visits
  pub before_by_visit : (k X a b : ℕ) → phylum_there rules.ops p k ≡ Some X → IsAttr rules X a → IsAttr rules X b → visit_in X a < visit_in X b → place (occurrence k a) < place (occurrence k b)
  before_by_visit k X a b there m n less = at_p.agree (occurrence k a) (occurrence k b) (layered p k X a b there m n (earlier_visit rules X (timed.layer X) plans (visits_of k X there) a b m n less))

  pub before_by_way : (k X a b : ℕ) → phylum_there rules.ops p k ≡ Some X → IsAttr rules X a → IsAttr rules X b → is_inherited rules.phyla X a ≡ true → is_inherited rules.phyla X b ≡ false → visit_in X a ≤ visit_in X b → place (occurrence k a) < place (occurrence k b)
  before_by_way k X a b there m n way other le = at_p.agree (occurrence k a) (occurrence k b) (layered p k X a b there m n (inherited_first rules X (timed.layer X) plans (visits_of k X there) a b m n way other le))

  place_low : (k X a : ℕ) → phylum_there rules.ops p k ≡ Some X → IsAttr rules X a → place (occurrence k a) < after_all plans p
  place_low k X a there attr = position_low rules ranges plans timed.layer p at_p (occurrence k a) (attr_vertex rules p k X a there attr)

  -- the visit to which a position belongs
  pub record IsBelonging (X q j : ℕ) : Type 0 where
    pub low : 1 ≤ j
    pub high : j ≤ visit_count plans X
    -- one of its synthesized attributes stands there or later, or none of any visit does and it is the last
    pub gives : ((a : ℕ) × IsGivenAt rules plans X j a × (q ≤ place (occurrence 0 a))) ⊎ ((j ≡ visit_count plans X) × ((i a : ℕ) → 1 ≤ i → i ≤ visit_count plans X → IsGivenAt rules plans X i a → place (occurrence 0 a) < q))
    pub before : (i a : ℕ) → 1 ≤ i → i < j → IsGivenAt rules plans X i a → place (occurrence 0 a) < q

  gives_no : (X q i a : ℕ) → gives_from rules plans p X q i ≡ false → IsGivenAt rules plans X i a → place (occurrence 0 a) < q
  gives_no X q i a no_gives given = elim (cases_lt (place (occurrence 0 a)) q) [
    | inl under ↦ under
    | inr past ↦ absurd (
        let found = given_place rules plans X i a given in
        false≢true (sym no_gives ∙ found_at (λ b. nat_le q (position_in rules plans p (occurrence 0 b))) (given_in rules plans X i) found.0 0 found.1 (subst (λ b. nat_le q (position_in rules plans p (occurrence 0 b)) ≡ true) (sym (found.2 0)) (le-leb q (place (occurrence 0 a)) past))))
  ]

  gives_some : (X q i : ℕ) → gives_from rules plans p X q i ≡ true → (a : ℕ) × IsGivenAt rules plans X i a × (q ≤ place (occurrence 0 a))
  gives_some X q i is =
      let found = found_some (λ b. nat_le q (position_in rules plans p (occurrence 0 b))) (given_in rules plans X i) 0 is in
      (get_or (given_in rules plans X i) found.0 0, given_from rules plans X i found.0 0 found.1, leb-true q (place (occurrence 0 (get_or (given_in rules plans X i) found.0 0))) found.2)

  pub belonging : (X q : ℕ) → phylum_of rules.ops p ≡ Some X → IsBelonging X q (belongs rules plans p q)
  belonging X q left = elim (first_below (gives_from rules plans p X q) (visit_count plans X)) [
    | inl first ↦
        let is : belongs rules plans p q ≡ suc first.at = ap (belongs_by rules plans p q) left ∙ first_is (gives_from rules plans p X q) (visit_count plans X) first.at first.low first.before first.holds in
        let l = first.low in
        subst (IsBelonging X q) (sym is) (record {
          low = omega arith;
          high = omega (arith, l);
          gives = inl (gives_some X q (suc first.at) first.holds);
          before = λ i a low less given. gives_no X q i a (subst (λ m. gives_from rules plans p X q m ≡ false) (let e : suc (i - 1) ≡ i = omega (arith, low) in e) (first.before (i - 1) (omega (arith, low, less)))) given;
        })
    | inr none ↦
        let is : belongs rules plans p q ≡ visit_count plans X = ap (belongs_by rules plans p q) left ∙ first_none (gives_from rules plans p X q) (visit_count plans X) none in
        let no_place : (i a : ℕ) → 1 ≤ i → i ≤ visit_count plans X → IsGivenAt rules plans X i a → place (occurrence 0 a) < q =
        λ i a low high given. gives_no X q i a (subst (λ m. gives_from rules plans p X q m ≡ false) (let e : suc (i - 1) ≡ i = omega (arith, low) in e) (none (i - 1) (omega (arith, low, high)))) given in
        subst (IsBelonging X q) (sym is) (record {
          low = omega arith;
          high = omega arith;
          gives = inr (refl, no_place);
          before = λ i a low less given. no_place i a low (omega (arith, less)) given;
        })
  ]

  -- visits never fall as positions rise
  pub belongs_rises : (X q r : ℕ) → phylum_of rules.ops p ≡ Some X → q ≤ r → belongs rules plans p q ≤ belongs rules plans p r
  belongs_rises X q r left le =
      let b = belonging X q left in
      let c = belonging X r left in
      let high = b.high in
      elim c.gives [
        | inr last ↦ let e = last.0 in omega (arith, high, e)
        | inl given ↦ elim (cases_lt (belongs rules plans p r) (belongs rules plans p q)) [
          | inr fine ↦ fine
          | inl less ↦ absurd (let under = b.before (belongs rules plans p r) given.0 c.low less given.1 in let over = given.2 in omega (arith, under, over, le))
        ]
      ]

  pub belongs_last : (X q : ℕ) → phylum_of rules.ops p ≡ Some X → after_all plans p ≤ q → belongs rules plans p q ≡ visit_count plans X
  belongs_last X q left behind =
      let b = belonging X q left in
      elim b.gives [
        | inr last ↦ last.0
        | inl given ↦ absurd (let g = given.1 in let low = place_low 0 X given.0 left g.there in let over = given.2 in omega (arith, low, over, behind))
      ]

  -- a synthesized attribute of the left side belongs to its own visit
  pub belongs_itself : (X b : ℕ) → phylum_of rules.ops p ≡ Some X → IsAttr rules X b → is_inherited rules.phyla X b ≡ false → belongs rules plans p (place (occurrence 0 b)) ≡ visit_in X b
  belongs_itself X b left there way =
      let is = belonging X (place (occurrence 0 b)) left in
      let given : IsGivenAt rules plans X (visit_in X b) b = record { there = there; way = way; visit = refl } in
      let low = visit_low rules X (timed.layer X) plans (visits_of 0 X left) b there in
      let high = visit_high rules X (timed.layer X) plans (visits_of 0 X left) b there in
      elim (cases_order (belongs rules plans p (place (occurrence 0 b))) (visit_in X b)) [
        | inl same ↦ same
        | inr (inl less) ↦ absurd (elim is.gives [
          | inl some ↦
              let g = some.1 in
              let v = g.visit in
              let before = before_by_visit 0 X some.0 b left g.there there (omega (arith, v, less)) in
              let over = some.2 in
              omega (arith, before, over)
          | inr last ↦ let e = last.0 in omega (arith, e, less, high)
        ])
        | inr (inr more) ↦ absurd (let under = is.before (visit_in X b) b low more given in omega (arith, under))
      ]

  -- what an equation inherits from the left side lies in no later visit than it
  pub inherited_by : (X a : ℕ) (r : Rule) → phylum_of rules.ops p ≡ Some X → IsAttr rules X a → Contains rules.rules r → r.op ≡ p → Contains r.args (occurrence 0 a) → visit_in X a ≤ belongs rules plans p (place r.target)
  inherited_by X a r left there stands is names =
      let b = belonging X (place r.target) left in
      let before = named_before r (occurrence 0 a) stands is names in
      let high = visit_high rules X (timed.layer X) plans (visits_of 0 X left) a there in
      elim b.gives [
        | inr last ↦ let e = last.0 in omega (arith, e, high)
        | inl given ↦ elim (cases_lt (belongs rules plans p (place r.target)) (visit_in X a)) [
          | inr fine ↦ fine
          | inl less ↦ absurd (
              let g = given.1 in
              let v = g.visit in
              let first = before_by_visit 0 X given.0 a left g.there there (omega (arith, v, less)) in
              let over = given.2 in
              omega (arith, first, before, over))
        ]
      ]

  -- an inherited attribute of an argument stands before each visit from its own on
  pub inherited_before_seat : (k X a j : ℕ) → slice_get (args_of rules.ops p) k ≡ Some X → IsAttr rules X a → is_inherited rules.phyla X a ≡ true → visit_in X a ≤ j → place (occurrence (suc k) a) < seat rules plans p k j
  inherited_before_seat k X a j arg there way le = elim (seat_cases rules plans p k j X arg) [
    | inl given ↦
        let g = given.given in
        let v = g.visit in
        let before = before_by_way (suc k) X a given.attr arg there g.there way g.way (omega (arith, v, le)) in
        let at = given.at in
        omega (arith, before, at)
    | inr last ↦ let low = place_low (suc k) X a arg there in let at = last.at in omega (arith, low, at)
  ]

  -- the visit of a synthesized attribute stands at it or before it
  pub seat_before : (k X b : ℕ) → slice_get (args_of rules.ops p) k ≡ Some X → IsAttr rules X b → is_inherited rules.phyla X b ≡ false → seat rules plans p k (visit_in X b) ≤ place (occurrence (suc k) b)
  seat_before k X b arg there way =
      let given : IsGivenAt rules plans X (visit_in X b) b = record { there = there; way = way; visit = refl } in
      elim (seat_cases rules plans p k (visit_in X b) X arg) [
        | inl is ↦ is.first b given
        | inr last ↦ absurd (last.none b given)
      ]

  -- the visits of an argument stand in their order
  pub seat_rises : (k X i j : ℕ) → slice_get (args_of rules.ops p) k ≡ Some X → 1 ≤ i → i < j → j ≤ visit_count plans X → seat rules plans p k i < seat rules plans p k j
  seat_rises k X i j arg low less high = elim (seat_cases rules plans p k i X arg) [
    | inr none ↦ absurd (let found = given_in_visit rules X (timed.layer X) plans (visits_of (suc k) X arg) i low (omega (arith, less, high)) in none.none found.0 found.1)
    | inl first ↦
        let f = first.given in
        let v = f.visit in
        let at = first.at in
        elim (seat_cases rules plans p k j X arg) [
          | inl second ↦
              let s = second.given in
              let w = s.visit in
              let before = before_by_visit (suc k) X first.attr second.attr arg f.there s.there (omega (arith, v, w, less)) in
              let to = second.at in
              omega (arith, before, at, to)
          | inr last ↦ let under = place_low (suc k) X first.attr arg f.there in let to = last.at in omega (arith, under, at, to)
        ]
  ]
