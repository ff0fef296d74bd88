-- A visit of a child as a step of its parent's visit.
use Rattle.std.specs.Prelude.{ℕ, List, ◌∷◌, Result, Ok, Err, OnOk, MatchResult}
use Rattle.std.proofs.Common.{subst}
use Rattle.sg_kinds.specs.Terms.{Term}
use Rattle.sg_kinds.specs.Places.{Place}
use Rattle.sg_kinds.specs.Nets.{Reference}
use Rattle.sg_kinds.specs.declared.plans.Plans.{Plans}
use Rattle.sg_kinds.specs.declared.plans.PlanStep.TheVariants.{Visit}
use Rattle.sg_kinds.specs.declared.spec.Rules.{Rules}
use Rattle.sg_eval.specs.declared.journal.Instance.{Instance}
use Rattle.sg_forest.specs.declared.node_id.NodeId.{NodeId}
use Rattle.sg_forest.specs.Trees.{IsLive, IsChild, Climbs}
use Rattle.sg_groves.specs.Grove.{Grove, nodes, IsGrove}
use Rattle.sg_groves.specs.Holds.{IsPlaced}
use Rattle.sg_groves.proofs.Frames.{only_more}
use Rattle.sg_plans.specs.Segments.{IsGivenBy}
use Rattle.sg_terms.specs.Entries.{Gained, GainedAll}
use Rattle.sg_attrib.specs.Visited.{AreRight, IsKnown, IsGiven, IsNeeded, IsStepGiven, IsSlotOf, Gives}
use Rattle.sg_attrib.proofs.Placed.{has_place, one_place, of_slot, kid_placed}
use Rattle.sg_attrib.proofs.Listed.{gained_more, gained_same}

module _ (rules : Rules) (plans : Plans) (old new : Grove) (is : IsGrove old) (was now : List Instance) (n c : NodeId) (k j : ℕ) (live : IsLive (nodes old) n) (hangs : IsChild (nodes old) c n k) where
  as_step : (t : Term) (u : Place) (a : Reference Place) → IsGivenBy rules plans t (k ∷ u) j a → IsStepGiven rules plans (Visit k j) t u a
  as_step t u a given = record { site = given.site; found = given.found; of_step = given.of_visit }

  as_visit : (t : Term) (u : Place) (a : Reference Place) → IsStepGiven rules plans (Visit k j) t u a → IsGivenBy rules plans t (k ∷ u) j a
  as_visit t u a given = record { site = given.site; found = given.found; of_visit = given.of_step }

  values_by : {A E : Type 0} (root : NodeId) (t : Term) (u : Place) (x : Result A E) → OnOk x (AreRight new root t (IsGiven rules plans j t (k ∷ u))) → OnOk x (AreRight new root t (IsStepGiven rules plans (Visit k j) t u))
  values_by root t u (Ok x) right = λ a m given climbs. right a m (as_visit t u a given) climbs
  values_by root t u (Err e) right = right

  noted_by : {A E : Type 0} (root : NodeId) (t : Term) (u : Place) (x : Result A E) → MatchResult x (λ y. GainedAll old root t (IsGiven rules plans j t (k ∷ u)) was now) (λ y. Gained old root t (IsGiven rules plans j t (k ∷ u)) was now)
      → MatchResult x (λ y. GainedAll old root t (IsStepGiven rules plans (Visit k j) t u) was now) (λ y. Gained old root t (IsStepGiven rules plans (Visit k j) t u) was now)
  noted_by root t u (Ok x) all = gained_same old root t (IsGiven rules plans j t (k ∷ u)) (IsStepGiven rules plans (Visit k j) t u) was now (as_step t u) (as_visit t u) all
  noted_by root t u (Err e) some = gained_more old root t (IsGiven rules plans j t (k ∷ u)) (IsStepGiven rules plans (Visit k j) t u) was now (as_step t u) some

  slot_by : (m : NodeId) (slot : ℕ) → IsSlotOf (IsGiven rules plans j) old c m slot → IsSlotOf (IsStepGiven rules plans (Visit k j)) old n m slot
  slot_by m slot s =
      let p = has_place old is n live in
      let below : IsPlaced old p.root p.term (k ∷ p.place) c = kid_placed old is n c p.root k p.term p.place hangs p.placed in
      let same = one_place old is c s.root p.root s.term p.term s.place (k ∷ p.place) s.placed below in
      let climbs : Climbs (nodes old) s.way m p.root = subst (Climbs (nodes old) s.way m) same.1 s.climbs in
      record {
        root = p.root;
        term = p.term;
        place = p.place;
        placed = p.placed;
        way = s.way;
        climbs = climbs;
        of_refs = as_step p.term p.place (record { node = s.way; slot = slot }) (of_slot old is (IsGiven rules plans j) c p.root p.term (k ∷ p.place) s.way m slot below climbs s);
      }

  pub gives_below : {A E : Type 0} (r : Result A E) → Gives (IsKnown rules plans j) (IsGiven rules plans j) old new was now c r → Gives (IsNeeded rules plans (Visit k j)) (IsStepGiven rules plans (Visit k j)) old new was now n r
  gives_below r g = record {
    values = λ root t u placed known. values_by root t u r (g.values root t (k ∷ u) (kid_placed old is n c root k t u hangs placed) known);
    frame = only_more old new (IsSlotOf (IsGiven rules plans j) old c) (IsSlotOf (IsStepGiven rules plans (Visit k j)) old n) slot_by g.frame;
    noted = λ root t u placed. noted_by root t u r (g.noted root t (k ∷ u) (kid_placed old is n c root k t u hangs placed));
  }
