-- What follows where the numbers of equations are in range.
use Rattle.std.specs.Prelude.{◌≡◌, ℕ, zero, suc, ◌*◌, ◌<◌, ◌≤◌, ◌^◌, List, [], length, Option, None, Some, slice_get, option_map, unwrap_or, All}
use Rattle.std.proofs.Common.{sym, ◌∙◌, ap, subst, get_or, arith, inl, inr}
use Rattle.std.proofs.lemmas.Option.{slice_get_cases}
use Rattle.sg_kinds.specs.declared.spec.Rules.{Rules}
use Rattle.sg_kinds.specs.declared.spec.Phylum.{Phylum}
use Rattle.sg_kinds.specs.declared.spec.Operator.{Operator}
use Rattle.sg_kinds.specs.Specification.{args_of, attrs_of, locals_of}
use Rattle.sg_kinds.specs.Instances.{attr_count}
use Rattle.sg_kinds.specs.Dependencies.{phylum_there}
use Rattle.sg_kinds.specs.Visits.{attrs_before}
use Rattle.sg_kinds.specs.ValidPlans.{vertices}
use Rattle.sg_dependencies.specs.Vertices.{AreInRange}

-- an element that is there has what all have
held : {X : Type 0} (P : X → Type 0) (xs : List X) (k : ℕ) (x : X) → All P xs → k < length xs → get_or xs k x ≡ x → P x
held P xs k x all low at = subst P at (all k x low)

module _ (rules : Rules) (ranges : AreInRange rules) where
  attr_count_small : (o : Option ℕ) → attr_count rules o < 2 ^ 22
  attr_count_small None = omega arith
  attr_count_small (Some X) = elim (slice_get_cases rules.phyla X).1 [
    | inl is ↦
        let small = held (λ (x : Phylum). length x.attrs < 2 ^ 22) rules.phyla X is.0 ranges.few.attrs is.1 is.3 in
        let same : length (attrs_of rules.phyla X) ≡ length is.0.attrs = ap (λ o. length (unwrap_or (option_map (λ (x : Phylum). x.attrs) o) [])) is.2 in
        omega (arith, small, same)
    | inr past ↦
        let none : length (attrs_of rules.phyla X) ≡ 0 = ap (λ o. length (unwrap_or (option_map (λ (x : Phylum). x.attrs) o) [])) past.1 in
        omega (arith, none)
  ]

  pub attrs_small : (X : ℕ) → length (attrs_of rules.phyla X) < 2 ^ 22
  attrs_small X = let s = attr_count_small (Some X) in omega (arith, s)

  attrs_before_small : (p k : ℕ) → attrs_before rules p k ≤ k * 4194304
  attrs_before_small p zero = omega arith
  attrs_before_small p (suc k) =
      let h = attrs_before_small p k in
      let a = attr_count_small (phylum_there rules.ops p k) in
      omega (arith, h, a)

  pub args_small : (p : ℕ) → length (args_of rules.ops p) < 256
  args_small p = elim (slice_get_cases rules.ops p).1 [
    | inl is ↦
        let small = held (λ (o : Operator). length o.args < 2 ^ 8) rules.ops p is.0 ranges.few.args is.1 is.3 in
        let same : length (args_of rules.ops p) ≡ length is.0.args = ap (λ o. length (unwrap_or (option_map (λ (x : Operator). x.args) o) [])) is.2 in
        omega (arith, small, same)
    | inr past ↦
        let none : length (args_of rules.ops p) ≡ 0 = ap (λ o. length (unwrap_or (option_map (λ (x : Operator). x.args) o) [])) past.1 in
        omega (arith, none)
  ]

  locals_small : (p : ℕ) → length (locals_of rules.ops p) < 1048576
  locals_small p = elim (slice_get_cases rules.ops p).1 [
    | inl is ↦
        let small = held (λ (o : Operator). length o.locals < 2 ^ 20) rules.ops p is.0 ranges.few.locals is.1 is.3 in
        let same : length (locals_of rules.ops p) ≡ length is.0.locals = ap (λ o. length (unwrap_or (option_map (λ (x : Operator). x.locals) o) [])) is.2 in
        omega (arith, small, same)
    | inr past ↦
        let none : length (locals_of rules.ops p) ≡ 0 = ap (λ o. length (unwrap_or (option_map (λ (x : Operator). x.locals) o) [])) past.1 in
        omega (arith, none)
  ]

  pub vertices_small : (p : ℕ) → vertices rules p < 2 ^ 32
  vertices_small p =
      let a = args_small p in
      let b = attrs_before_small p (suc (length (args_of rules.ops p))) in
      let l = locals_small p in
      omega (arith, a, b, l)

  some_same : (m n : ℕ) → Some m ≡ Some n → m ≡ n
  some_same m n e = cc e

  pub phylum_in : (p k X : ℕ) → phylum_there rules.ops p k ≡ Some X → X < length rules.phyla
  phylum_in p zero X is = elim (slice_get_cases rules.ops p).1 [
    | inl x ↦
        let low = held (λ (o : Operator). o.phylum < length rules.phyla) rules.ops p x.0 ranges.phyla.left x.1 x.3 in
        let same : x.0.phylum ≡ X = some_same x.0.phylum X (sym (ap (option_map (λ (o : Operator). o.phylum)) x.2) ∙ is) in
        omega (arith, low, same)
    | inr past ↦ let e : None ≡ Some X = sym (ap (option_map (λ (o : Operator). o.phylum)) past.1) ∙ is in cc e
  ]
  phylum_in p (suc k) X is = elim (slice_get_cases rules.ops p).1 [
    | inl x ↦
        let all = held (λ (o : Operator). All (λ Y. Y < length rules.phyla) o.args) rules.ops p x.0 ranges.phyla.args x.1 x.3 in
        let at : slice_get x.0.args k ≡ Some X = sym (ap (λ o. slice_get (unwrap_or (option_map (λ (y : Operator). y.args) o) []) k) x.2) ∙ is in
        elim (slice_get_cases x.0.args k).1 [
          | inl y ↦ let same : y.0 ≡ X = some_same y.0 X (sym y.2 ∙ at) in let low = held (λ Y. Y < length rules.phyla) x.0.args k y.0 all y.1 y.3 in omega (arith, low, same)
          | inr past ↦ let e : None ≡ Some X = sym past.1 ∙ at in cc e
        ]
    | inr past ↦ let e : slice_get [] k ≡ Some X = sym (ap (λ o. slice_get (unwrap_or (option_map (λ (y : Operator). y.args) o) []) k) past.1) ∙ is in cc e
  ]
