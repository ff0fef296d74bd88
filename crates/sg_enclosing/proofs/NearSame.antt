-- The from-scratch value of an attribute that is not far is that which reads the nearest enclosing nodes themselves.
use Rattle.std.specs.Prelude.{◌≡◌, ℕ, zero, suc, ◌<◌, List, [], ◌∷◌, length, map, Option, None, Some, unwrap_or, Contains}
use Rattle.std.proofs.Common.{refl, sym, ap, ◌∙◌, arith}
use Rattle.sg_kinds.specs.declared.plans.Plans.{Plans}
use Rattle.sg_kinds.specs.declared.spec.Spec.{Spec}
use Rattle.sg_kinds.specs.declared.spec.Occurrence.{Occurrence}
use Rattle.sg_kinds.specs.declared.spec.Far.{Far}
use Rattle.sg_kinds.specs.Specification.{rules_of}
use Rattle.sg_kinds.specs.Values.{Value, Fault}
use Rattle.sg_kinds.specs.Terms.{Term}
use Rattle.sg_kinds.specs.Fits.{Fits}
use Rattle.sg_kinds.specs.Places.{Place}
use Rattle.sg_kinds.specs.Nets.{Net, Reference, referred, net_of}
use Rattle.sg_kinds.specs.Instances.{Site, site_of, instances}
use Rattle.sg_kinds.specs.FromScratch.{leaf_or, site_value, value_in}
use Rattle.sg_kinds.specs.Outcome.{outcome}
use Rattle.sg_kinds.specs.Enclosing.{near}
use Rattle.sg_kinds.specs.declared.marks.FaultKind.TheVariants.{Fuel}
use Rattle.sg_orders.specs.Keys.{key, IsLess}
use Rattle.sg_orders.specs.LiveSites.{IsLive}
use Rattle.sg_orders.proofs.Fixpoint.{less_on}
use Rattle.sg_orders.proofs.ValidFacts.{from_scratch_values, keys_fall, ranks}
use Rattle.sg_plans.specs.Planned.{IsPlanned}
use Rattle.sg_plans.proofs.Bearers.{ranges, found_live}
use Rattle.sg_enclosing.specs.NearScratch.{far_at, seen, near_scratch, near_value_in}
use Rattle.sg_enclosing.proofs.FarValues.{seen_from, far_here, names_nothing}

module _ (spec : Spec) (plans : Plans) (t : Term) (planned : IsPlanned spec plans t) (fits : Fits spec t spec.root) where
  abbrev net : Net Place
  net = net_of t

  abbrev site : Reference Place → Option (Site Place)
  site a = site_of (rules_of spec) net a

  abbrev keyed : Site Place → List ℕ
  keyed i = key (rules_of spec) plans t i

  values : (a : Reference Place) → value_in spec t a ≡ leaf_or (net.label a.node) (site_value spec net (value_in spec t) (site a))
  values a = from_scratch_values spec plans t planned.root (ranges spec t planned.root planned.sound planned.fits) planned.valid planned.fits a

  argument_falls : (i : Site Place) → IsLive (rules_of spec) t i → (o : Occurrence) → Contains i.rule.args o → (j : Site Place) → site (referred net i.node o) ≡ Some j → IsLess (keyed j) (keyed i)
  argument_falls = keys_fall spec plans t planned.root (ranges spec t planned.root planned.sound planned.fits) planned.valid planned.fits

  same_map : (f g : Reference Place → Value) (u : Place) (os : List Occurrence) → ((o : Occurrence) → Contains os o → f (referred net u o) ≡ g (referred net u o)) → map f (map (referred net u) os) ≡ map g (map (referred net u) os)
  same_map f g u [] all = refl
  same_map f g u (o ∷ os) all =
      ap (λ v. v ∷ map f (map (referred net u) os)) (all o (0, omega arith, refl))
      ∙ ap (λ vs. g (referred net u o) ∷ vs) (same_map f g u os (λ x has. all x (suc has.0, (let l = has.1 in omega (arith, l)), has.2)))

  no_site : (n : ℕ) (a : Reference Place) → site a ≡ None → near_scratch spec t n a ≡ leaf_or (net.label a.node) (Fault Fuel)
  no_site zero a none = refl
  no_site (suc n) a none = ap (λ o. leaf_or (net.label a.node) (site_value spec net (λ b. near_scratch spec t n (seen spec t b)) o)) none

  -- what an equation reads
  abbrev reads : ℕ → Reference Place → Value
  reads n b = near_scratch spec t n (seen spec t b)

  module _ (rank : Site Place → ℕ) (drops : (i j : Site Place) (b : Reference Place) → site b ≡ Some j → IsLess (keyed j) (keyed i) → rank j < rank i) where
    abbrev IsBounded : ℕ → Reference Place → Type 0
    IsBounded n a = (i : Site Place) → site a ≡ Some i → rank i < n

    bounded_below : (n : ℕ) (i : Site Place) → rank i < suc n → (b : Reference Place) → ((j : Site Place) → site b ≡ Some j → IsLess (keyed j) (keyed i)) → IsBounded n b
    bounded_below n i low b less j is = let l = drops i j b is (less j is) in omega (arith, low, l)

    -- what an equation reads, where it is so of the attributes that are not far
    argument_same : (n : ℕ) (i : Site Place) → rank i < suc n → (b : Reference Place) → ((j : Site Place) → site b ≡ Some j → IsLess (keyed j) (keyed i))
        → ((c : Reference Place) → far_at spec t c ≡ [] → IsBounded n c → near_scratch spec t n c ≡ value_in spec t c)
        → (fs : List Far) → far_at spec t b ≡ fs → reads n b ≡ value_in spec t b
    argument_same n i low b less same [] none =
        let itself : seen spec t b ≡ b = ap (λ fs. unwrap_or (near spec t b.node fs) b) none ∙ ap (λ o. unwrap_or o b) (names_nothing spec t b.node) in
        ap (near_scratch spec t n) itself ∙ same b none (bounded_below n i low b less)
    argument_same n i low b less same (f ∷ fs) some =
        let far = far_here spec t b (λ none. cc (sym some ∙ none)) in
        let known = seen_from spec plans t planned fits b.node b.slot far in
        let there : seen spec t b ≡ known.ref = ap (λ fs. unwrap_or (near spec t b.node fs) b) (sym far.list) ∙ ap (λ o. unwrap_or o b) known.is_near in
        ap (near_scratch spec t n) there
        ∙ same known.ref known.written (bounded_below n i low known.ref (λ j at. less_on (keyed j) (keyed known.site) (keyed i) (known.falls j at) (less known.site known.is_site)))
        ∙ sym known.same

    -- by the rank of what has an equation
    same_from : (n : ℕ) (a : Reference Place) → far_at spec t a ≡ [] → IsBounded n a → (o : Option (Site Place)) → site a ≡ o → near_scratch spec t n a ≡ value_in spec t a
    same_from n a written low None is = no_site n a is ∙ sym (values a ∙ ap (λ o. leaf_or (net.label a.node) (site_value spec net (value_in spec t) o)) is)
    same_from zero a written low (Some i) is = absurd (let l = low i is in omega (arith, l))
    same_from (suc n) a written low (Some i) is =
        let live = found_live (rules_of spec) t a i is in
        ap (λ o. leaf_or (net.label a.node) (site_value spec net (reads n) o)) is
        ∙ ap (λ vs. leaf_or (net.label a.node) (outcome spec i.rule vs)) (same_map (reads n) (value_in spec t) i.node i.rule.args (λ o has.
        argument_same n i (low i is) (referred net i.node o) (argument_falls i live o has) (λ c none low. same_from n c none low (site c) refl) (far_at spec t (referred net i.node o)) refl))
        ∙ sym (values a ∙ ap (λ o. leaf_or (net.label a.node) (site_value spec net (value_in spec t) o)) is)

pub near_same : (spec : Spec) (plans : Plans) (t : Term) → IsPlanned spec plans t → Fits spec t spec.root → (a : Reference Place) → far_at spec t a ≡ [] → near_value_in spec t a ≡ value_in spec t a
near_same spec plans t planned fits a written =
    let (rank, low, drops) = ranks spec plans t planned.root (ranges spec t planned.root planned.sound planned.fits) planned.valid planned.fits in
    same_from spec plans t planned fits rank drops (length (instances (rules_of spec) t)) a written (low a) (site_of (rules_of spec) (net_of t) a) refl
