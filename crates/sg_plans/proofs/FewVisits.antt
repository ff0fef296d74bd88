-- A phylum has at most one visit more than it has attributes, since each but the last gives one.
use Rattle.std.specs.Prelude.{◌≡◌, ◌≢◌, ℕ, zero, suc, ◌+◌, ◌-◌, ◌<◌, ◌≤◌, ◌^◌, List, [], ◌∷◌, length, Option, None, Some, slice_index, All, AllPairs, MatchOption}
use Rattle.std.proofs.Common.{refl, ap, subst, get_or, arith}
use Rattle.sg_kinds.specs.declared.plans.Plans.{Plans}
use Rattle.sg_kinds.specs.declared.spec.Rules.{Rules}
use Rattle.sg_kinds.specs.Specification.{attrs_of, phylum_of}
use Rattle.sg_kinds.specs.ValidPlans.{AreValid, AreVisits}
use Rattle.sg_kinds.specs.Visits.{row_at, visit_count}
use Rattle.sg_dependencies.specs.Vertices.{AreInRange}
use Rattle.sg_dependencies.proofs.Ranges.{attrs_small, phylum_in}
use Rattle.sg_orders.proofs.Seating.{IsGivenAt, given_in_visit}
use Rattle.sg_plans.proofs.Distinct.{distinct_few}

module _ (rules : Rules) (X : ℕ) (layer : ℕ → ℕ) (plans : Plans) (are : AreVisits rules X layer plans) where
  -- an attribute of each of the visits n to 1
  record IsChosen (n : ℕ) : Type 0 where
    attrs : List ℕ
    count : length attrs ≡ n
    given : (k d : ℕ) → k < n → IsGivenAt rules plans X (n - k) (get_or attrs k d)

  chosen : (n : ℕ) → n < visit_count plans X → IsChosen n
  chosen zero low = record { attrs = []; count = refl; given = λ k d none. absurd (omega (arith, none)) }
  chosen (suc n) low =
      let rest = chosen n (omega (arith, low)) in
      let found = given_in_visit rules X layer plans are (suc n) (omega arith) low in
      record {
        attrs = found.0 ∷ rest.attrs;
        count = ap suc rest.count;
        given = λ k d under. by rest found.0 found.1 k d under;
      }
    where
      by : (rest : IsChosen n) (a : ℕ) → IsGivenAt rules plans X (suc n) a → (k d : ℕ) → k < suc n → IsGivenAt rules plans X (suc n - k) (get_or (a ∷ rest.attrs) k d)
      by rest a given zero d under = subst (λ j. IsGivenAt rules plans X j a) (let e : suc n ≡ suc n - 0 = omega arith in e) given
      by rest a given (suc k) d under = subst (λ j. IsGivenAt rules plans X j (get_or rest.attrs k d)) (let e : n - k ≡ suc n - suc k = omega arith in e) (rest.given k d (omega (arith, under)))

  pub few_visits : visit_count plans X ≤ length (attrs_of rules.phyla X) + 1
  few_visits = by (visit_count plans X) refl
    where
      by : (n : ℕ) → visit_count plans X ≡ n → visit_count plans X ≤ length (attrs_of rules.phyla X) + 1
      by zero is = omega (arith, is)
      by (suc n) is =
          let all = chosen n (omega (arith, is)) in
          let count = all.count in
          let apart : AllPairs ◌≢◌ all.attrs = λ i j d less low same.
          let one = all.given i d (omega (arith, less, low, count)) in
          let other = all.given j d (omega (arith, low, count)) in
          let v = one.visit in
          let w = other.visit in
          let e = ap (slice_index (row_at plans.visits X)) same in
          omega (arith, v, w, e, less, low, count) in
          let low : All (λ a. a < length (attrs_of rules.phyla X)) all.attrs = λ k d under. (all.given k d (omega (arith, under, count))).there in
          let few = distinct_few (length (attrs_of rules.phyla X)) all.attrs apart low in
          omega (arith, few, count, is)

-- so an operator has few rows of steps
pub few_rows : (rules : Rules) (plans : Plans) → AreInRange rules → AreValid rules plans → (op : ℕ) → op < length rules.ops → length (row_at plans.steps op) < 2 ^ 32
few_rows rules plans ranges valid op low = by (phylum_of rules.ops op) refl (valid.steps op low).count
  where
    by : (o : Option ℕ) → phylum_of rules.ops op ≡ o → MatchOption o ⊥ (λ X. length (row_at plans.steps op) ≡ visit_count plans X) → length (row_at plans.steps op) < 2 ^ 32
    by None at none = absurd none
    by (Some X) at count =
        let few = few_visits rules X (valid.layer X) plans (valid.visits X (phylum_in rules ranges op 0 X at)) in
        let small = attrs_small rules ranges X in
        omega (arith, count, few, small)
