use Rattle.std.proofs.Common.{◌≡◌, ◌+◌, ◌<◌, ◌∙◌, ℕ, List, length, get_or, refl, ap, sym, subst, arith}
use Rattle.std.proofs.lemmas.Result.{err_from_is_err_and}
use Rattle.std.specs.Prelude.{Some, Ok, Err, Result, slice_get}
use Rattle.std.proofs.lemmas.Option.{slice_get-get_or}
use Rattle.sg_kinds.specs.Specification.{rules_of}
use Rattle.sg_kinds.specs.ValidPlans.{AreValid}
use Rattle.sg_kinds.specs.declared.plans.Plans.{Plans}
use Rattle.sg_kinds.specs.declared.plans.PlanStep.{PlanStep}
use Rattle.sg_kinds.specs.declared.spec.Spec.{Spec}
use Rattle.sg_eval.specs.declared.journal.Instance.{Instance}
use Rattle.sg_eval.specs.Journal.{now_of}
use Rattle.sg_forest.specs.declared.node_id.NodeId.{NodeId}
use Rattle.sg_groves.specs.Grove.{Grove, IsGrove}
use Rattle.sg_plans.specs.Stepping.{steps_of}
use Rattle.sg_attrib.specs.Visited.{IsKnown, IsGiven, IsNeeded, IsStepGiven, IsSlotOf, IsVisited, Gives}
use Rattle.sg_attrib.proofs.Calls.{step_operator, step_arity, step_visited, step_still, visit_row, leaf_gives}
use Rattle.sg_attrib.proofs.Composed.{gives_ok, gives_err}
use Rattle.sg_attrib.proofs.Descended.{gives_below}
use Rattle.sg_attrib.proofs.Nodes.{op_live}
use Rattle.sg_attrib.proofs.Stepped.{IsBefore, no_steps, next_step, all_steps, some_steps}
use Rattle.sg_attrib.proofs.visits.+visit.Goals as goal

-- a step that evaluates
pub take-evaluate-requires-clause-operator : goal.take-evaluate-requires-clause-operator
take-evaluate-requires-clause-operator t c =
    step_operator c.args.terms.now c.facts.ensures c.args.plans.now c.requires.valid c.args.n c.args.step c.in-Eval.rule c.in-Eval.is c.requires.step

pub take-returns-in-Eval-clause-gives : goal.take-returns-in-Eval-clause-gives
take-returns-in-Eval-clause-gives t c =
    let old = c.args.terms.now in
    subst (λ (s : PlanStep). Gives (IsNeeded (rules_of old.spec) c.args.plans.now s) (IsStepGiven (rules_of old.spec) c.args.plans.now s) old c.evaluate.new.terms (now_of c.args.journal.now) (now_of c.evaluate.new.journal) c.args.n c.evaluate.result)
    (sym c.in-Eval.is) c.evaluate.ensures.gives

-- a step that visits a child
pub take-kid-below-requires-clause-live : goal.take-kid-below-requires-clause-live
take-kid-below-requires-clause-live t c = let v = c.requires.step.visited in op_live c.args.terms.now c.facts.ensures c.args.n v.op v.is

pub take-kid-below-requires-clause-place : goal.take-kid-below-requires-clause-place
take-kid-below-requires-clause-place t c =
    step_arity c.args.terms.now c.facts.ensures c.args.plans.now c.requires.valid c.args.n c.args.step c.in-Visit.kid c.in-Visit.k c.in-Visit.is c.requires.step

pub take-visit-requires : goal.take-visit-requires
take-visit-requires t c =
    let x = c.kid-below.ensures.child in
    let v = step_visited c.args.terms.now c.facts.ensures c.args.plans.now c.requires.valid c.args.n c.kid-below.result c.args.step c.in-Visit.kid c.in-Visit.k c.in-Visit.is c.requires.step x in
    let falls = c.kid-below.ensures.falls in
    (omega (arith, falls), (c.requires.valid, (c.requires.same, (record { node = x.node; found = x.found }, (v.low, v.high)))))

pub take-returns-in-Visit-clause-gives : goal.take-returns-in-Visit-clause-gives
take-returns-in-Visit-clause-gives t c =
    let old = c.args.terms.now in
    let rules = rules_of old.spec in
    let v = c.requires.step.visited in
    let e = c.visit.ensures in
    let inner : Gives (IsKnown rules c.args.plans.now c.in-Visit.k) (IsGiven rules c.args.plans.now c.in-Visit.k) old c.visit.new.terms (now_of c.args.journal.now) (now_of c.visit.new.journal) c.kid-below.result c.visit.result =
    record { values = e.values; frame = e.frame; noted = e.noted } in
    subst (λ (s : PlanStep). Gives (IsNeeded rules c.args.plans.now s) (IsStepGiven rules c.args.plans.now s) old c.visit.new.terms (now_of c.args.journal.now) (now_of c.visit.new.journal) c.args.n c.visit.result)
    (sym c.in-Visit.is)
    (gives_below rules c.args.plans.now old c.visit.new.terms c.facts.ensures (now_of c.args.journal.now) (now_of c.visit.new.journal) c.args.n c.kid-below.result c.in-Visit.kid c.in-Visit.k
    (op_live old c.facts.ensures c.args.n v.op v.is) c.kid-below.ensures.child c.visit.result inner)

-- the steps of a visit
pub visit-returns-in_default-clause-values : goal.visit-returns-in_default-clause-values
visit-returns-in_default-clause-values t c =
    (leaf_gives {A = Unit {0}} {E = Unit {0}} c.args.terms.now c.facts.ensures c.args.plans.now c.requires.valid (now_of c.args.journal.now) c.args.n c.args.k (tt {0}) (sym c.op.ensures.op ∙ c.in_default.is)).values

pub visit-returns-in_default-clause-frame : goal.visit-returns-in_default-clause-frame
visit-returns-in_default-clause-frame t c =
    (leaf_gives {A = Unit {0}} {E = Unit {0}} c.args.terms.now c.facts.ensures c.args.plans.now c.requires.valid (now_of c.args.journal.now) c.args.n c.args.k (tt {0}) (sym c.op.ensures.op ∙ c.in_default.is)).frame

pub visit-returns-in_default-clause-noted : goal.visit-returns-in_default-clause-noted
visit-returns-in_default-clause-noted t c =
    (leaf_gives {A = Unit {0}} {E = Unit {0}} c.args.terms.now c.facts.ensures c.args.plans.now c.requires.valid (now_of c.args.journal.now) c.args.n c.args.k (tt {0}) (sym c.op.ensures.op ∙ c.in_default.is)).noted

pub visit-steps-step-items-requires-clause-there : goal.visit-steps-step-items-requires-clause-there
visit-steps-step-items-requires-clause-there t c =
    visit_row c.args.terms.now c.facts.ensures c.args.plans.now c.requires.valid c.args.n c.args.k (record { op = c.in-Some.op; is = sym c.op.ensures.op ∙ c.in-Some.is; low = c.requires.low; high = c.requires.high })

pub visit-loop-step-init : goal.visit-loop-step-init
visit-loop-step-init t c = record {
  gives = no_steps c.args.terms.now c.args.terms.now c.facts.ensures c.args.plans.now c.requires.valid (now_of c.args.journal.now) (now_of c.args.journal.now) c.args.n c.args.k
      (record { op = c.in-Some.op; is = sym c.op.ensures.op ∙ c.in-Some.is; low = c.requires.low; high = c.requires.high }) tt;
  total = refl;
}

-- the step at an index
at_index : (xs : List PlanStep) (plans : Plans) (op k i : ℕ) (s : PlanStep) → xs ≡ steps_of plans op k → i < length xs → s ≡ get_or xs i s → slice_get (steps_of plans op k) i ≡ Some s
at_index xs plans op k i s same low is = ap (λ l. slice_get l i) (sym same) ∙ slice_get-get_or xs i s low ∙ ap (λ z. Some z) (sym is)

pub visit-take-requires : goal.visit-take-requires
visit-take-requires t c =
    let old = c.args.terms.now in
    let inv = c.loop-step.invariant.gives in
    let room = inv.frame.room c.args.n in
    let v : IsVisited c.args.plans.now old c.args.n c.args.k = record { op = c.in-Some.op; is = sym c.op.ensures.op ∙ c.in-Some.is; low = c.requires.low; high = c.requires.high } in
    let at = at_index c.steps-step-items.result.now c.args.plans.now c.in-Some.op c.args.k c.loop-step.step-index c.step-item.result c.steps-step-items.ensures c.loop-step-test.true c.step-item.is in (
      omega (arith, room),
      (
        subst (λ (sp : Spec). AreValid (rules_of sp) c.args.plans.now) (sym inv.frame.spec) c.requires.valid,
        (
          c.requires.same ∙ sym inv.frame.spec,
          step_still c.args.plans.now old c.loop-step.terms (IsSlotOf (IsBefore (rules_of old.spec) c.args.plans.now c.args.k c.loop-step.step-index) old c.args.n) inv.frame c.args.n c.args.k c.facts.ensures v c.loop-step.step-index c.step-item.result at,
        ),
      ),
    )

-- after one step more
stepped : {A E : Type 0} (old mid new : Grove) → IsGrove old → IsGrove mid → (plans : Plans) → AreValid (rules_of old.spec) plans → (was between now : List Instance) (n : NodeId) (k m : ℕ) (s : PlanStep) (v : IsVisited plans old n k) → slice_get (steps_of plans v.op k) m ≡ Some s
    → Gives {A = Unit {0}} {E = Unit {0}} (IsKnown (rules_of old.spec) plans k) (IsBefore (rules_of old.spec) plans k m) old mid was between n (Ok tt) → (r : Result A E)
    → Gives (IsNeeded (rules_of mid.spec) plans s) (IsStepGiven (rules_of mid.spec) plans s) mid new between now n r → Gives (IsKnown (rules_of old.spec) plans k) (IsBefore (rules_of old.spec) plans k (m + 1)) old new was now n r
stepped old mid new is_old is_mid plans valid was between now n k m s v at first r second = next_step old mid new is_old is_mid plans valid was between now n k m s v at tt r first second

pub visit-loop-step-preserved : goal.visit-loop-step-preserved
visit-loop-step-preserved t c =
    let old = c.args.terms.now in
    let new = c.take.new.terms in
    let rules = rules_of old.spec in
    let plans = c.args.plans.now in
    let inv = c.loop-step.invariant in
    let v : IsVisited plans old c.args.n c.args.k = record { op = c.in-Some.op; is = sym c.op.ensures.op ∙ c.in-Some.is; low = c.requires.low; high = c.requires.high } in
    let at = at_index c.steps-step-items.result.now plans c.in-Some.op c.args.k c.loop-step.step-index c.step-item.result c.steps-step-items.ensures c.loop-step-test.true c.step-item.is in
    record {
      gives = gives_ok (IsKnown rules plans c.args.k) (IsBefore rules plans c.args.k (c.loop-step.step-index + 1)) old new (now_of c.args.journal.now) (now_of c.take.new.journal) c.args.n c.in_ok-take.field-0 tt
          (stepped old c.loop-step.terms new c.facts.ensures c.facts-in-loop-step.ensures plans c.requires.valid (now_of c.args.journal.now) (now_of c.loop-step.journal) (now_of c.take.new.journal) c.args.n c.args.k c.loop-step.step-index c.step-item.result v at inv.gives
          (Ok c.in_ok-take.field-0) c.in_ok-take.ensures.gives);
      total = c.in_ok-take.ensures.total ∙ inv.total;
    }

-- where a step is refused
refused : (t : ℕ) (c : goal.visit-After-from_residual t)
    → Gives (IsKnown (rules_of c.args.terms.now.spec) c.args.plans.now c.args.k) (IsGiven (rules_of c.args.terms.now.spec) c.args.plans.now c.args.k) c.args.terms.now c.take.new.terms (now_of c.args.journal.now) (now_of c.take.new.journal) c.args.n c.from_residual.result
refused t c =
    let old = c.args.terms.now in
    let new = c.take.new.terms in
    let rules = rules_of old.spec in
    let plans = c.args.plans.now in
    let inv = c.loop-step.invariant in
    let v : IsVisited plans old c.args.n c.args.k = record { op = c.in-Some.op; is = sym c.op.ensures.op ∙ c.in-Some.is; low = c.requires.low; high = c.requires.high } in
    let at = at_index c.steps-step-items.result.now plans c.in-Some.op c.args.k c.loop-step.step-index c.step-item.result c.steps-step-items.ensures c.loop-step-test.true c.step-item.is in
    let p = err_from_is_err_and c.from_residual.result c.from_residual.ensures.1 in
    rw p.1
    (gives_err (IsKnown rules plans c.args.k) (IsGiven rules plans c.args.k) old new (now_of c.args.journal.now) (now_of c.take.new.journal) c.args.n c.in_err-take.field-0.0 p.0
    (some_steps old new c.facts.ensures plans c.requires.valid (now_of c.args.journal.now) (now_of c.take.new.journal) c.args.n c.args.k v (c.loop-step.step-index + 1) c.in_err-take.field-0.0
    (stepped old c.loop-step.terms new c.facts.ensures c.facts-in-loop-step.ensures plans c.requires.valid (now_of c.args.journal.now) (now_of c.loop-step.journal) (now_of c.take.new.journal) c.args.n c.args.k c.loop-step.step-index c.step-item.result v at inv.gives
    (Err c.in_err-take.field-0.0) c.in_err-take.ensures.gives)))

pub visit-returns-in_err-take-clause-values : goal.visit-returns-in_err-take-clause-values
visit-returns-in_err-take-clause-values t c = (refused t c).values

pub visit-returns-in_err-take-clause-frame : goal.visit-returns-in_err-take-clause-frame
visit-returns-in_err-take-clause-frame t c = (refused t c).frame

pub visit-returns-in_err-take-clause-noted : goal.visit-returns-in_err-take-clause-noted
visit-returns-in_err-take-clause-noted t c = (refused t c).noted

-- after all steps
done : (t : ℕ) (c : goal.visit-After-loop-step t)
    → Gives {A = Unit {0}} {E = Unit {0}} (IsKnown (rules_of c.args.terms.now.spec) c.args.plans.now c.args.k) (IsGiven (rules_of c.args.terms.now.spec) c.args.plans.now c.args.k) c.args.terms.now c.loop-step.terms (now_of c.args.journal.now) (now_of c.loop-step.journal) c.args.n (Ok tt)
done t c =
    let old = c.args.terms.now in
    let plans = c.args.plans.now in
    let v : IsVisited plans old c.args.n c.args.k = record { op = c.in-Some.op; is = sym c.op.ensures.op ∙ c.in-Some.is; low = c.requires.low; high = c.requires.high } in
    let long = ap length c.steps-step-items.ensures in
    let past = c.loop-step-test.false in
    all_steps old c.loop-step.terms c.facts.ensures plans c.requires.valid (now_of c.args.journal.now) (now_of c.loop-step.journal) c.args.n c.args.k v c.loop-step.step-index tt (omega (arith, long, past)) c.loop-step.invariant.gives

pub visit-returns-clause-values : goal.visit-returns-clause-values
visit-returns-clause-values t c = (done t c).values

pub visit-returns-clause-frame : goal.visit-returns-clause-frame
visit-returns-clause-frame t c = (done t c).frame

pub visit-returns-clause-noted : goal.visit-returns-clause-noted
visit-returns-clause-noted t c = (done t c).noted
