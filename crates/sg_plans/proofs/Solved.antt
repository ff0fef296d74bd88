-- From-scratch values solve the equations of a term, and the visits of its root give all of them.
use Rattle.std.specs.Prelude.{◌≡◌, ℕ, ◌≤◌, false, List, [], length, map, slice_get, Option, None, Some, option_map, unwrap_or, All, MatchOption}
use Rattle.std.proofs.Common.{refl, sym, ap, ◌∙◌}
use Rattle.std.proofs.lemmas.Bool.{false≢true}
use Rattle.std.proofs.lemmas.List.{append-nil}
use Rattle.std.proofs.lemmas.Option.{same_Some}
use Rattle.sg_kinds.specs.declared.marks.Way.TheVariants.{Synthesized}
use Rattle.sg_kinds.specs.declared.spec.Spec.{Spec}
use Rattle.sg_kinds.specs.declared.spec.Attr.{Attr}
use Rattle.sg_kinds.specs.declared.spec.Phylum.{Phylum}
use Rattle.sg_kinds.specs.Values.{Value}
use Rattle.sg_kinds.specs.Terms.{Term}
use Rattle.sg_kinds.specs.Fits.{Fits}
use Rattle.sg_kinds.specs.Sound.{IsSound}
use Rattle.sg_kinds.specs.Specification.{is_inherited, is_way_inherited, rules_of}
use Rattle.sg_kinds.specs.Places.{Place, sub}
use Rattle.sg_kinds.specs.Nets.{Reference, NodeLabel, Operation, Holding, Missing, label_of, net_of}
use Rattle.sg_kinds.specs.Instances.{Site, args_at, site_of}
use Rattle.sg_kinds.specs.FromScratch.{leaf_or, site_value, value_in}
use Rattle.sg_kinds.specs.Outcome.{outcome}
use Rattle.sg_kinds.specs.declared.plans.Plans.{Plans}
use Rattle.sg_kinds.proofs.Elementary.{slice_get-All}
use Rattle.sg_orders.specs.LiveSites.{IsLive}
use Rattle.sg_orders.proofs.ValidFacts.{from_scratch_values}
use Rattle.sg_plans.specs.Planned.{IsPlanned}
use Rattle.sg_plans.specs.Segments.{bearer, visit_at, position_of, IsGivenBy, IsTaken}
use Rattle.sg_plans.proofs.Bearers.{ranges, found, bearer_found, bearer_no_leaf}
use Rattle.sg_plans.proofs.Nodes.{fitting_phylum}

not_leaf : (l : NodeLabel) (w : Value) → ((p : ℕ) (v : Value) → l ≡ Holding p v → ⊥) → leaf_or l w ≡ w
not_leaf (Operation op) w other = refl
not_leaf (Holding p v) w other = absurd (other p v refl)
not_leaf Missing w other = refl

module _ (spec : Spec) (plans : Plans) (t : Term) (planned : IsPlanned spec plans t) where
  values : (a : Reference Place) → value_in spec t a ≡ leaf_or ((net_of t).label a.node) (site_value spec (net_of t) (value_in spec t) (site_of (rules_of spec) (net_of t) a))
  values a = from_scratch_values spec plans t planned.root (ranges spec t planned.root planned.sound planned.fits) planned.valid planned.fits a

  pub leaf_value : (a : Reference Place) (p : ℕ) (v : Value) → label_of (sub t a.node) ≡ Holding p v → value_in spec t a ≡ v
  leaf_value a p v is = values a ∙ ap (λ l. leaf_or l (site_value spec (net_of t) (value_in spec t) (site_of (rules_of spec) (net_of t) a))) is

  pub solved : (i : Site Place) → IsLive (rules_of spec) t i → value_in spec t (bearer t i) ≡ outcome spec i.rule (map (value_in spec t) (args_at (net_of t) i))
  solved i live =
      values (bearer t i)
      ∙ ap (λ o. leaf_or (label_of (sub t (bearer t i).node)) (site_value spec (net_of t) (value_in spec t) o)) (bearer_found spec t planned.root planned.sound planned.fits i live)
      ∙ not_leaf (label_of (sub t (bearer t i).node)) (outcome spec i.rule (map (value_in spec t) (args_at (net_of t) i))) (bearer_no_leaf spec t planned.root planned.sound planned.fits i live)

  -- each instance is of a visit of the root
  pub root_gives : (a : Reference Place) (i : Site Place) → site_of (rules_of spec) (net_of t) a ≡ Some i → (j : ℕ) × IsGivenBy (rules_of spec) plans t [] j a
  root_gives a i is = (
    visit_at (rules_of spec) plans t i.node [] (position_of (rules_of spec) plans i),
    record {
      site = i;
      found = is;
      of_visit = record { live = (found (rules_of spec) t a i is).live; way = i.node; below = sym (append-nil i.node); visit = refl };
    },
  )

-- the root takes nothing where its phylum has no inherited attribute, as the specification's root has none
pub root_takes_nothing : (spec : Spec) (plans : Plans) (t : Term) (X : ℕ) → Fits spec t X → ((slot : ℕ) → is_inherited spec.phyla X slot ≡ false) → (j : ℕ) (a : Reference Place) → IsTaken (rules_of spec) plans t [] j a → ⊥
root_takes_nothing spec plans t X fits none j a taken =
    let same : taken.phylum ≡ X = same_Some taken.phylum X (sym taken.left ∙ fitting_phylum spec t X fits) in
    false≢true (sym (none a.slot) ∙ sym (ap (λ Y. is_inherited spec.phyla Y a.slot) same) ∙ taken.inherited)

all_synthesized : (attrs : List Attr) (slot : ℕ) → All (λ (a : Attr). a.way ≡ Synthesized) attrs → unwrap_or (option_map (λ (a : Attr). is_way_inherited a.way) (slice_get attrs slot)) false ≡ false
all_synthesized attrs slot all = by (slice_get attrs slot) refl
  where
    by : (o : Option Attr) → slice_get attrs slot ≡ o → unwrap_or (option_map (λ (a : Attr). is_way_inherited a.way) o) false ≡ false
    by None at = refl
    by (Some a) at = ap is_way_inherited (slice_get-All (λ (x : Attr). x.way ≡ Synthesized) attrs slot a all at)

pub root_inherits_nothing : (spec : Spec) → IsSound spec → (slot : ℕ) → is_inherited spec.phyla spec.root slot ≡ false
root_inherits_nothing spec sound slot = by (slice_get spec.phyla spec.root) refl sound.shapes.root
  where
    by : (o : Option Phylum) → slice_get spec.phyla spec.root ≡ o → MatchOption o ⊥ (λ x. (1 ≤ length x.ops) × All (λ (a : Attr). a.way ≡ Synthesized) x.attrs) → is_inherited spec.phyla spec.root slot ≡ false
    by None at none = absurd none
    by (Some x) at both = ap (λ o. unwrap_or (option_map (λ (a : Attr). is_way_inherited a.way) (slice_get (unwrap_or (option_map (λ (y : Phylum). y.attrs) o) []) slot)) false) at ∙ all_synthesized x.attrs slot both.1
