-- The list of what a replacement evaluates has exactly that, each once.
use Rattle.std.specs.Prelude.{◌≡◌, ◌≢◌, ◌⊎◌, refl, Bool, true, false, not, List, [], ◌∷◌, Contains, Some, option_map, unwrap_or}
use Rattle.std.specs.List.{list_any}
use Rattle.std.proofs.Common.{sym, ap, ◌∙◌, inl, inr}
use Rattle.std.proofs.lemmas.List.Kept.{AllPairs-filter}
use Rattle.std.proofs.lemmas.Bool.{false≢true, or_left, or_cases}
use Rattle.sg_kinds.proofs.Elementary.{or_right, not_true}
use Rattle.sg_kinds.specs.Values.{Value, same_value}
use Rattle.sg_kinds.specs.SameValue.{value_is, value_same}
use Rattle.sg_kinds.specs.Terms.{Term}
use Rattle.sg_kinds.specs.Specification.{rules_of}
use Rattle.sg_kinds.specs.Sound.{IsSound}
use Rattle.sg_kinds.specs.declared.spec.Spec.{Spec}
use Rattle.sg_kinds.specs.Places.{Place, put}
use Rattle.sg_kinds.specs.Nets.{Reference, net_of}
use Rattle.sg_kinds.specs.Instances.{Site, site_of, instances}
use Rattle.sg_kinds.specs.FromScratch.{value_in}
use Rattle.sg_groves.specs.Evaluated.{IsAtOrBelow, is_at_or_below, is_changed, arguments, HasChanged, IsEvaluated, is_evaluated_by, is_evaluated, evaluated}
use Rattle.sg_groves.proofs.Below.{below_from, below_to, below_or_not}
use Rattle.sg_groves.proofs.Lists.{contains_first, contains_later, contains_either, contains_none, AreApart, filter_to, filter_from}
use Rattle.sg_groves.proofs.InstancesOnce.{instance_has, instance_site, instances_apart}

-- an element that passes
any_from : {X : Type 0} (p : X → Bool) (xs : List X) → list_any p xs ≡ true → (x : X) × Contains xs x × (p x ≡ true)
any_from p [] test = absurd (false≢true test)
any_from p (x ∷ xs) test = elim (or_cases (p x) (list_any p xs) test) [
  | inl first ↦ (x, contains_first x xs, first)
  | inr rest ↦ let found = any_from p xs rest in (found.0, contains_later x xs found.0 found.1, found.2)
]

any_to : {X : Type 0} (p : X → Bool) (xs : List X) (x : X) → Contains xs x → p x ≡ true → list_any p xs ≡ true
any_to p [] x has pass = absurd (contains_none x has)
any_to p (y ∷ xs) x has pass = elim (contains_either y xs x has) [
  | inl same ↦ or_left (p y) (list_any p xs) (ap p same ∙ pass)
  | inr rest ↦ or_right (p y) (list_any p xs) (any_to p xs x rest pass)
]

differ_from : (x y : Value) → not (same_value x y) ≡ true → x ≢ y
differ_from x y test same = false≢true (sym (not_true (same_value x y) test) ∙ ap (same_value x) (sym same) ∙ value_same x)

differ_to : (x y : Value) → x ≢ y → not (same_value x y) ≡ true
differ_to x y differ = by (same_value x y) refl
  where
    by : (b : Bool) → same_value x y ≡ b → not b ≡ true
    by true test = absurd (differ (value_is x y test))
    by false test = refl

module _ (spec : Spec) (t : Term) (u : Place) (s : Term) where
  why_from : (i : Site Place) → is_evaluated_by spec t u s i ≡ true → IsAtOrBelow i.node u ⊎ ((IsAtOrBelow i.node u → ⊥) × HasChanged spec t u s i)
  why_from i test = elim (below_or_not i.node u) [
    | inl below ↦ inl below
    | inr out ↦ elim (or_cases (is_at_or_below i.node u) (list_any (is_changed spec t u s) (arguments spec t u s i)) test) [
      | inl below ↦ absurd (out (below_from i.node u below))
      | inr any ↦
          let found = any_from (is_changed spec t u s) (arguments spec t u s i) any in
          inr (out, record { arg = found.0; named = found.1; changed = differ_from (value_in spec (put t u s) found.0) (value_in spec t found.0) found.2 })
    ]
  ]

  why_to : (i : Site Place) → IsAtOrBelow i.node u ⊎ ((IsAtOrBelow i.node u → ⊥) × HasChanged spec t u s i) → is_evaluated_by spec t u s i ≡ true
  why_to i (inl below) = or_left (is_at_or_below i.node u) (list_any (is_changed spec t u s) (arguments spec t u s i)) (below_to i.node u below)
  why_to i (inr why) =
      let has = why.1 in
      or_right (is_at_or_below i.node u) (list_any (is_changed spec t u s) (arguments spec t u s i))
      (any_to (is_changed spec t u s) (arguments spec t u s i) has.arg has.named (differ_to (value_in spec (put t u s) has.arg) (value_in spec t has.arg) has.changed))

  tested : (a : Reference Place) (i : Site Place) → site_of (rules_of spec) (net_of (put t u s)) a ≡ Some i → is_evaluated spec t u s a ≡ is_evaluated_by spec t u s i
  tested a i at = ap (λ o. unwrap_or (option_map (is_evaluated_by spec t u s) o) false) at

  pub evaluated_from : (a : Reference Place) → Contains (evaluated spec t u s) a → IsEvaluated spec t u s a
  evaluated_from a has =
      let passes = filter_from (is_evaluated spec t u s) (instances (rules_of spec) (put t u s)) a has in
      let site = instance_site spec (put t u s) a passes.0 in
      record { site = site.0; found = site.1; why = why_from site.0 (sym (tested a site.0 site.1) ∙ passes.1) }

  pub evaluated_to : IsSound spec → (a : Reference Place) → IsEvaluated spec t u s a → Contains (evaluated spec t u s) a
  evaluated_to sound a is =
      filter_to (is_evaluated spec t u s) (instances (rules_of spec) (put t u s)) a (instance_has spec sound (put t u s) a is.site is.found)
      (tested a is.site is.found ∙ why_to is.site is.why)

  pub evaluated_apart : AreApart (evaluated spec t u s)
  evaluated_apart = AllPairs-filter (λ x y. x ≢ y) (is_evaluated spec t u s) (instances (rules_of spec) (put t u s)) (instances_apart spec (put t u s))
