-- Where the visit of a child stands in the plan of the node above, and what stands before it there.
use Rattle.std.specs.Prelude.{◌≡◌, ℕ, suc, ◌-◌, ◌<◌, ◌≤◌, List, [], ◌∷◌, ◌++◌, Some, slice_get}
use Rattle.std.proofs.Common.{refl, sym, ap, ◌∙◌, subst, arith, inl, inr, append_assoc}
use Rattle.std.proofs.lemmas.Bool.{cases_lt}
use Rattle.std.proofs.lemmas.Option.{same_Some, slice_get-get_or, slice_get_within, get_or_from_slice_get}
use Rattle.sg_kinds.specs.Terms.{Term}
use Rattle.sg_kinds.specs.Places.{Place}
use Rattle.sg_kinds.specs.Nets.{Reference}
use Rattle.sg_kinds.specs.Instances.{Site}
use Rattle.sg_orders.specs.Keys.{operator_in}
use Rattle.sg_kinds.specs.Specification.{rules_of}
use Rattle.sg_kinds.specs.ValidPlans.{AreStepsOf, IsStepAt}
use Rattle.sg_kinds.specs.Visits.{belongs, position_in, row_at, seat, visit_count}
use Rattle.sg_kinds.specs.declared.plans.Plans.{Plans}
use Rattle.sg_kinds.specs.declared.plans.PlanStep.{PlanStep}
use Rattle.sg_kinds.specs.declared.plans.PlanStep.TheVariants.{Eval, Visit}
use Rattle.sg_kinds.specs.declared.spec.Rule.{Rule}
use Rattle.sg_kinds.specs.declared.spec.Rules.{Rules}
use Rattle.sg_kinds.specs.declared.spec.Spec.{Spec}
use Rattle.sg_kinds.proofs.Elementary.{slice_get-Contains}
use Rattle.sg_dependencies.specs.Vertices.{AreInRange}
use Rattle.sg_orders.specs.Timed.{AreTimed}
use Rattle.sg_orders.proofs.PlanFacts.{seat_rises}
use Rattle.sg_orders.proofs.ValidFacts.{valid_timed}
use Rattle.sg_orders.proofs.StepFacts.{eval_at, step_of_visit, visit_at}
use Rattle.sg_plans.specs.Planned.{IsPlanned}
use Rattle.sg_plans.specs.Segments.{HasVisit, IsOfVisit, position_at, position_of}
use Rattle.sg_plans.specs.Stepping.{IsGivenBefore, IsOfStep, steps_of}
use Rattle.sg_plans.proofs.Bearers.{found_live, ranges}
use Rattle.sg_plans.proofs.Closed.{IsBefore}
use Rattle.sg_plans.proofs.Equations.{no_leaf_operator}
use Rattle.sg_plans.proofs.Nodes.{below_at, node_at}
use Rattle.sg_plans.proofs.Visiting.{step_row, visit_there}
use Rattle.sg_plans.proofs.Ways.{one_way, position_joins, visit_high, visit_low}

module _ (spec : Spec) (plans : Plans) (t : Term) (planned : IsPlanned spec plans t) where
  abbrev rules : Rules
  rules = rules_of spec

  in_range : AreInRange (rules_of spec)
  in_range = ranges spec t planned.root planned.sound planned.fits

  timed : AreTimed (rules_of spec) plans
  timed = valid_timed (rules_of spec) plans planned.valid

  steps_are : (q : Place) (i : ℕ) → HasVisit rules plans t q i → AreStepsOf rules plans (operator_in t q) i (steps_of plans (operator_in t q) i)
  steps_are q i has =
      let p = operator_in t q in
      let low = has.low in
      subst (λ k. AreStepsOf rules plans p k (row_at (row_at plans.steps p) (i - 1))) (let e : suc (i - 1) ≡ i = omega (arith, low) in e)
      ((planned.valid.steps p (node_at spec t planned.root planned.fits q has.node).low).each (i - 1) (step_row spec plans t planned q i has))

  -- where an equation of a step stands
  pub record IsAt (q : Place) (at : ℕ) (i : Site Place) : Type 0 where
    pub way : List ℕ
    pub below : i.node ≡ way ++ q
    pub position : position_at (rules_of spec) plans t way q (position_of (rules_of spec) plans i) ≡ at

  stands : (q : Place) (s : PlanStep) (at : ℕ) (i : Site Place) → IsStepAt rules plans (operator_in t q) s at → IsOfStep rules plans t q s i → IsAt q at i
  stands q (Eval r) at i is of =
      let e = eval_at rules plans (operator_in t q) r at is in
      let same : i.rule ≡ e.rule = same_Some i.rule e.rule (sym of.1 ∙ e.at) in
      record { way = []; below = of.0; position = ap (λ (x : Rule). position_in rules plans x.op x.target) same ∙ ap (λ p. position_in rules plans p e.rule.target) e.op ∙ sym e.position }
  stands q (Visit k j) at i is of =
      let v = visit_at rules plans (operator_in t q) k j at is in
      record {
        way = of.way ++ k ∷ [];
        below = of.below ∙ sym (append_assoc of.way (k ∷ []) q);
        position = position_joins rules plans t of.way (k ∷ []) q (position_of rules plans i) ∙ ap (seat rules plans (operator_in t q) k) of.visit ∙ sym v.position;
      }

  -- an equation of a visit of a child stands at the visit's seat
  pub lifted : (kid : ℕ) (q : Place) (h : ℕ) (i : Site Place) → IsOfVisit rules plans t (kid ∷ q) h i → IsAt q (seat rules plans (operator_in t q) kid h) i
  lifted kid q h i of = record {
    way = of.way ++ kid ∷ [];
    below = of.below ∙ sym (append_assoc of.way (kid ∷ []) q);
    position = position_joins rules plans t of.way (kid ∷ []) q (position_of rules plans i) ∙ ap (seat rules plans (operator_in t q) kid) of.visit;
  }

  pub seats_rise : (kid : ℕ) (q : Place) (h k : ℕ) → HasVisit rules plans t (kid ∷ q) k → 1 ≤ h → h ≤ k → seat rules plans (operator_in t q) kid h ≤ seat rules plans (operator_in t q) kid k
  seats_rise kid q h k has low le = elim (cases_lt h k) [
    | inr past ↦ let same : h ≡ k = omega (arith, le, past) in let seats = ap (seat rules plans (operator_in t q) kid) same in omega (arith, seats)
    | inl less ↦
        let b = below_at spec t planned.root planned.fits kid q has.node in
        let same : has.phylum ≡ b.phylum = same_Some has.phylum b.phylum (sym has.left ∙ b.left) in
        let high = has.high in
        let counts = ap (visit_count plans) same in
        let rise = seat_rises rules in_range plans timed (operator_in t q) (node_at spec t planned.root planned.fits q b.above).low kid b.phylum h k b.arg low less (omega (arith, high, counts)) in
        omega (arith, rise)
  ]

  module _ (q : Place) (i m kid k : ℕ) (has : HasVisit rules plans t q i) (at : slice_get (steps_of plans (operator_in t q) i) m ≡ Some (Visit kid k)) where
    abbrev op : ℕ
    op = operator_in t q

    abbrev steps : List PlanStep
    steps = steps_of plans (operator_in t q) i

    placed : (n : ℕ) (s : PlanStep) → slice_get steps n ≡ Some s → (p : ℕ) × IsStepAt rules plans op s p × (belongs rules plans op p ≡ i)
    placed n s there = ((steps_are q i has).members s).0 (slice_get-Contains steps n s there)

    seated : IsStepAt rules plans op (Visit kid k) (seat rules plans op kid k)
    seated = let p = placed m (Visit kid k) at in subst (IsStepAt rules plans op (Visit kid k)) (visit_at rules plans op kid k p.0 p.1).position p.1

    -- the visit of the node that the child's belongs to
    pub visit_is : belongs rules plans op (seat rules plans op kid k) ≡ i
    visit_is = let p = placed m (Visit kid k) at in ap (belongs rules plans op) (sym (visit_at rules plans op kid k p.0 p.1).position) ∙ p.2

    -- the child's visits begin at 1
    pub child_low : 1 ≤ k
    child_low = let p = placed m (Visit kid k) at in (visit_at rules plans op kid k p.0 p.1).low

    -- what the steps before it give stands before it
    pub steps_before : (a : Reference Place) → IsGivenBefore rules plans t q i m a → IsBefore rules plans t q (seat rules plans op kid k) a
    steps_before a given =
        let p = placed given.place given.step given.at in
        let x = stands q given.step p.0 given.site p.1 given.of_step in
        let rising = (steps_are q i has).rising given.place m given.step given.low (slice_get_within steps m (Visit kid k) at) in
        let here = get_or_from_slice_get steps given.place given.step given.step given.at in
        let there = get_or_from_slice_get steps m (Visit kid k) given.step at in
        let less = rising p.0 (seat rules plans op kid k) (subst (λ z. IsStepAt rules plans op z p.0) (sym here) p.1) (subst (λ z. IsStepAt rules plans op z (seat rules plans op kid k)) (sym there) seated) in
        let position = x.position in
        record { site = given.site; found = given.found; live = found_live rules t a given.site given.found; way = x.way; below = x.below; less = omega (arith, position, less) }

    -- and no step behind it gives what visits of the child up to it give
    pub steps_behind : (h p : ℕ) (s : PlanStep) (j : Site Place) → h ≤ k → HasVisit rules plans t (kid ∷ q) k → IsOfVisit rules plans t (kid ∷ q) h j → m < p → slice_get steps p ≡ Some s → IsOfStep rules plans t q s j → ⊥
    steps_behind h p s j le child of behind there of_step =
        let z = placed p s there in
        let x = stands q s z.0 j z.1 of_step in
        let y = lifted kid q h j of in
        let rising = (steps_are q i has).rising m p s behind (slice_get_within steps p s there) in
        let here = get_or_from_slice_get steps m (Visit kid k) s at in
        let over = get_or_from_slice_get steps p s s there in
        let less = rising (seat rules plans op kid k) z.0 (subst (λ w. IsStepAt rules plans op w (seat rules plans op kid k)) (sym here) seated) (subst (λ w. IsStepAt rules plans op w z.0) (sym over) z.1) in
        let same = ap (λ w. position_at rules plans t w q (position_of rules plans j)) (one_way x.way y.way q j.node x.below y.below) in
        let one = x.position in
        let two = y.position in
        let low = seats_rise kid q h k child (visit_there spec plans t planned (kid ∷ q) h j of).low le in
        omega (arith, less, same, one, two, low)

  -- each visit of a child is a step
  pub seat_there : (kid : ℕ) (q : Place) (k : ℕ) → HasVisit rules plans t (kid ∷ q) k → (i : ℕ) × (m : ℕ) × HasVisit rules plans t q i × (slice_get (steps_of plans (operator_in t q) i) m ≡ Some (Visit kid k))
  seat_there kid q k has =
      let b = below_at spec t planned.root planned.fits kid q has.node in
      let above = node_at spec t planned.root planned.fits q b.above in
      let child = node_at spec t planned.root planned.fits (kid ∷ q) has.node in
      let p = seat rules plans (operator_in t q) kid k in
      let i = belongs rules plans (operator_in t q) p in
      let there : HasVisit rules plans t q i = record {
        node = b.above;
        phylum = above.phylum;
        left = above.left;
        low = visit_low spec in_range plans planned.valid t planned.root planned.fits q p b.above;
        high = visit_high spec in_range plans planned.valid t planned.root planned.fits q p above.phylum b.above above.left;
      } in
      let same : has.phylum ≡ b.phylum = same_Some has.phylum b.phylum (sym has.left ∙ b.left) in
      let high = has.high in
      let counts = ap (visit_count plans) same in
      let step = step_of_visit rules plans (operator_in t q) kid k p b.phylum b.arg (no_leaf_operator spec planned.sound.shapes (operator_in t (kid ∷ q)) b.phylum b.left child.low) has.low (omega (arith, high, counts)) refl in
      let found = ((steps_are q i there).members (Visit kid k)).1 (p, step, refl) in
      (i, found.0, there, slice_get-get_or (steps_of plans (operator_in t q) i) found.0 (Visit kid k) found.1 ∙ ap (λ z. Some z) found.2)
