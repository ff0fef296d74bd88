use Rattle.std.proofs.Common.{◌≡◌, ◌+◌, ◌∙◌, ℕ, List, length, refl, ap, sym, subst, arith}
use Rattle.std.proofs.Common.{Bool, true, eqb}
use Rattle.std.proofs.lemmas.Bool.{eqb-true, false≢true}
use Rattle.std.proofs.lemmas.Result.{err_from_is_err_and}
use Rattle.std.specs.Prelude.{Some, Ok, Err, slice_get}
use Rattle.sg_kinds.specs.Specification.{rules_of}
use Rattle.sg_kinds.specs.ValidPlans.{AreValid}
use Rattle.sg_kinds.specs.declared.plans.PlanStep.{PlanStep}
use Rattle.sg_kinds.specs.declared.spec.Spec.{Spec}
use Rattle.sg_eval.specs.Journal.{now_of}
use Rattle.sg_forest.specs.declared.node_id.NodeId.{NodeId}
use Rattle.sg_forest.specs.Trees.{IsChild}
use Rattle.sg_forest.proofs.Paths.{differs_by_test, same_id}
use Rattle.sg_groves.specs.Grove.{nodes}
use Rattle.sg_plans.specs.Stepping.{steps_of}
use Rattle.sg_trail.specs.Trails.{IsAnySlot}
use Rattle.sg_attrib.specs.Visited.{IsGiven, IsKnown, IsNeeded, IsStepGiven, IsVisited, Gives}
use Rattle.sg_attrib.proofs.Calls.{step_operator, step_arity, step_visited, step_still, visit_row}
use Rattle.sg_attrib.proofs.Nodes.{op_live}
use Rattle.sg_propagate.specs.Moves.{IsGivenFrom, IsKnownFrom, Repairs}
use Rattle.sg_propagate.proofs.Skipping.{idle_repairs, kid_repairs, top_repairs}
use Rattle.sg_propagate.proofs.Tracked.{tops_still}
use Rattle.sg_propagate.proofs.Stepped.{IsBetween, all_steps, from_first, next_step, no_steps, leaf_repairs, repairs_err, repairs_ok, some_steps}
use Rattle.sg_propagate.proofs.repair.+repair.Goals as goal

-- the step at an index
read_at : (xs ys : List PlanStep) (m : ℕ) (s : PlanStep) → xs ≡ ys → slice_get xs m ≡ Some s → slice_get ys m ≡ Some s
read_at xs ys m s same at = ap (λ l. slice_get l m) (sym same) ∙ at

pub take-update-requires-clause-operator : goal.take-update-requires-clause-operator
take-update-requires-clause-operator t c =
    step_operator c.args.terms.now c.facts.ensures c.args.plans.now c.requires.valid c.args.n c.args.step c.in-Eval.rule c.in-Eval.is c.requires.step

pub take-returns-in-Eval-clause-repairs : goal.take-returns-in-Eval-clause-repairs
take-returns-in-Eval-clause-repairs t c =
    let plans = c.args.plans.now in
    subst
    (λ (s : PlanStep). Repairs plans (λ rules. IsNeeded rules plans s) (λ rules. IsStepGiven rules plans s) (λ rules. IsStepGiven rules plans s) c.args.top c.args.left c.args.n c.args.terms.now c.update.new.terms c.args.work.now c.update.new.work c.args.trail.now c.update.new.trail
    (now_of c.args.journal.now) (now_of c.update.new.journal) c.update.result)
    (sym c.in-Eval.is) c.update.ensures.repairs

pub take-kid-below-requires-clause-live : goal.take-kid-below-requires-clause-live
take-kid-below-requires-clause-live t c = let v = c.requires.step.visited in op_live c.args.terms.now c.facts.ensures c.args.n v.op v.is

pub take-kid-below-requires-clause-place : goal.take-kid-below-requires-clause-place
take-kid-below-requires-clause-place t c =
    step_arity c.args.terms.now c.facts.ensures c.args.plans.now c.requires.valid c.args.n c.args.step c.in-Visit.kid c.in-Visit.k c.in-Visit.is c.requires.step

-- the same node, by a test
same_by_test : (n m : NodeId) (test : Bool) → test ≡ eqb n.key m.key → test ≡ true → n ≡ m
same_by_test n m test is holds = same_id n m (eqb-true n.key m.key (sym is ∙ holds))

-- the new top's visit
pub take-visit-requires-clause-low : goal.take-visit-requires-clause-low
take-visit-requires-clause-low t c =
    (step_visited c.args.terms.now c.facts.ensures c.args.plans.now c.requires.valid c.args.n c.kid-below.result c.args.step c.in-Visit.kid c.in-Visit.k c.in-Visit.is c.requires.step c.kid-below.ensures.child).low

pub take-visit-requires-clause-high : goal.take-visit-requires-clause-high
take-visit-requires-clause-high t c =
    let v = step_visited c.args.terms.now c.facts.ensures c.args.plans.now c.requires.valid c.args.n c.kid-below.result c.args.step c.in-Visit.kid c.in-Visit.k c.in-Visit.is c.requires.step c.kid-below.ensures.child in
    λ x found. v.high x (ap (nodes c.args.terms.now) (same_by_test c.kid-below.result c.args.top c.eq.result c.eq.ensures c.if-eq.true) ∙ found)

pub take-returns-then-eq-clause-repairs : goal.take-returns-then-eq-clause-repairs
take-returns-then-eq-clause-repairs t c =
    let plans = c.args.plans.now in
    let e = c.visit.ensures in
    let same = same_by_test c.kid-below.result c.args.top c.eq.result c.eq.ensures c.if-eq.true in
    let call : Gives (IsKnown (rules_of c.args.terms.now.spec) plans c.in-Visit.k) (IsGiven (rules_of c.args.terms.now.spec) plans c.in-Visit.k) c.args.terms.now c.visit.new.terms (now_of c.args.journal.now) (now_of c.visit.new.journal) c.args.top c.visit.result =
    record { values = e.values; frame = e.frame; noted = e.noted } in
    subst
    (λ (s : PlanStep). Repairs plans (λ rules. IsNeeded rules plans s) (λ rules. IsStepGiven rules plans s) (λ rules. IsStepGiven rules plans s) c.args.top c.args.left c.args.n c.args.terms.now c.visit.new.terms c.args.work.now c.args.work.now c.args.trail.now c.args.trail.now
    (now_of c.args.journal.now) (now_of c.visit.new.journal) c.visit.result)
    (sym c.in-Visit.is)
    (top_repairs plans c.args.terms.now c.visit.new.terms c.facts.ensures c.args.work.now c.args.trail.now (now_of c.args.journal.now) (now_of c.visit.new.journal) c.args.top c.args.left c.args.n c.in-Visit.kid c.in-Visit.k
    (subst (λ d. IsChild (nodes c.args.terms.now) d c.args.n c.in-Visit.kid) same c.kid-below.ensures.child) c.visit.result call)

-- an active child's visit
pub take-repair-requires : goal.take-repair-requires
take-repair-requires t c =
    let x = c.kid-below.ensures.child in
    let v = step_visited c.args.terms.now c.facts.ensures c.args.plans.now c.requires.valid c.args.n c.kid-below.result c.args.step c.in-Visit.kid c.in-Visit.k c.in-Visit.is c.requires.step x in
    let falls = c.kid-below.ensures.falls in
    (omega (arith, falls), (c.requires.valid, (c.requires.same, (record { node = x.node; found = x.found }, (v.low, (v.high, c.requires.tops))))))

pub take-returns-then-is_active-clause-repairs : goal.take-returns-then-is_active-clause-repairs
take-returns-then-is_active-clause-repairs t c =
    let plans = c.args.plans.now in
    subst
    (λ (s : PlanStep). Repairs plans (λ rules. IsNeeded rules plans s) (λ rules. IsStepGiven rules plans s) (λ rules. IsStepGiven rules plans s) c.args.top c.args.left c.args.n c.args.terms.now c.repair.new.terms c.args.work.now c.repair.new.work c.args.trail.now c.repair.new.trail
    (now_of c.args.journal.now) (now_of c.repair.new.journal) c.repair.result)
    (sym c.in-Visit.is)
    (kid_repairs plans c.args.terms.now c.repair.new.terms c.facts.ensures c.args.work.now c.repair.new.work c.args.trail.now c.repair.new.trail (now_of c.args.journal.now) (now_of c.repair.new.journal) c.args.top c.args.left c.args.n c.kid-below.result c.in-Visit.kid c.in-Visit.k
    c.kid-below.ensures.child (differs_by_test c.kid-below.result c.args.top c.eq.result c.eq.ensures c.if-eq.false) c.repair.result
    (from_first plans c.args.top c.args.left c.kid-below.result c.args.terms.now c.repair.new.terms c.args.work.now c.repair.new.work c.args.trail.now c.repair.new.trail (now_of c.args.journal.now) (now_of c.repair.new.journal) c.in-Visit.k c.repair.result c.repair.ensures.repairs))

-- an idle child is skipped
pub take-returns-else-is_active-clause-repairs : goal.take-returns-else-is_active-clause-repairs
take-returns-else-is_active-clause-repairs t c =
    let plans = c.args.plans.now in
    let v = step_visited c.args.terms.now c.facts.ensures plans c.requires.valid c.args.n c.kid-below.result c.args.step c.in-Visit.kid c.in-Visit.k c.in-Visit.is c.requires.step c.kid-below.ensures.child in
    subst
    (λ (s : PlanStep). Repairs plans (λ rules. IsNeeded rules plans s) (λ rules. IsStepGiven rules plans s) (λ rules. IsStepGiven rules plans s) c.args.top c.args.left c.args.n c.args.terms.now c.args.terms.now c.args.work.now c.args.work.now c.args.trail.now c.args.trail.now
    (now_of c.args.journal.now) (now_of c.args.journal.now) (Ok tt))
    (sym c.in-Visit.is)
    (idle_repairs plans c.args.terms.now c.facts.ensures c.args.work.now c.args.trail.now (now_of c.args.journal.now) c.args.top c.args.left c.args.n c.kid-below.result c.in-Visit.kid c.in-Visit.k c.kid-below.ensures.child
    (differs_by_test c.kid-below.result c.args.top c.eq.result c.eq.ensures c.if-eq.false) (λ has. false≢true (sym c.if-is_active.false ∙ c.is_active.ensures.1 has)) v tt)

-- the steps of a visit
pub repair-returns-in_default-clause-repairs : goal.repair-returns-in_default-clause-repairs
repair-returns-in_default-clause-repairs t c =
    leaf_repairs c.args.plans.now c.args.terms.now c.facts.ensures c.args.work.now c.args.trail.now (now_of c.args.journal.now) c.args.top c.args.left c.args.n c.args.k c.args.from (sym c.op.ensures.op ∙ c.in_default.is) (tt {0})

pub repair-steps-all-requires-clause-there : goal.repair-steps-all-requires-clause-there
repair-steps-all-requires-clause-there t c =
    visit_row c.args.terms.now c.facts.ensures c.args.plans.now c.requires.valid c.args.n c.args.k (record { op = c.in-Some.op; is = sym c.op.ensures.op ∙ c.in-Some.is; low = c.requires.low; high = c.requires.high })

pub repair-loop-m-init : goal.repair-loop-m-init
repair-loop-m-init t c = record {
  repairs = no_steps c.args.plans.now c.args.terms.now c.args.work.now c.args.trail.now (now_of c.args.journal.now) c.args.top c.args.left c.args.n c.args.k c.args.from (tt {0});
  total = refl;
}

pub repair-take-requires : goal.repair-take-requires
repair-take-requires t c =
    let old = c.args.terms.now in
    let inv = c.loop-m.invariant.repairs in
    let room = inv.stored.room c.args.n in
    let v : IsVisited c.args.plans.now old c.args.n c.args.k = record { op = c.in-Some.op; is = sym c.op.ensures.op ∙ c.in-Some.is; low = c.requires.low; high = c.requires.high } in
    let at = read_at c.steps-all.result.now (steps_of c.args.plans.now c.in-Some.op c.args.k) c.loop-m.m c.item.result.now c.steps-all.ensures c.item.ensures in (
      omega (arith, room),
      (
        subst (λ (sp : Spec). AreValid (rules_of sp) c.args.plans.now) (sym inv.stored.spec) c.requires.valid,
        (
          c.requires.same ∙ sym inv.stored.spec,
          (
            step_still c.args.plans.now old c.loop-m.terms IsAnySlot inv.stored c.args.n c.args.k c.facts.ensures v c.loop-m.m c.item.result.now at,
            tops_still old c.loop-m.terms IsAnySlot inv.stored c.args.top c.args.left c.requires.tops,
          ),
        ),
      ),
    )

pub repair-loop-m-preserved : goal.repair-loop-m-preserved
repair-loop-m-preserved t c =
    let old = c.args.terms.now in
    let new = c.take.new.terms in
    let plans = c.args.plans.now in
    let inv = c.loop-m.invariant in
    let v : IsVisited plans old c.args.n c.args.k = record { op = c.in-Some.op; is = sym c.op.ensures.op ∙ c.in-Some.is; low = c.requires.low; high = c.requires.high } in
    let at = read_at c.steps-all.result.now (steps_of plans c.in-Some.op c.args.k) c.loop-m.m c.item.result.now c.steps-all.ensures c.item.ensures in
    record {
      repairs = repairs_ok plans (IsKnownFrom plans c.args.k c.args.from) (IsGivenFrom plans c.args.k c.args.from) (IsBetween plans c.args.k c.args.from (c.loop-m.m + 1)) c.args.top c.args.left c.args.n old new c.args.work.now c.take.new.work c.args.trail.now c.take.new.trail
          (now_of c.args.journal.now) (now_of c.take.new.journal) c.in_ok-take.field-0 tt
          (next_step plans c.args.top c.args.left c.args.n old c.loop-m.terms new c.facts.ensures c.facts-in-loop-m.ensures c.args.k c.args.from c.loop-m.m c.loop-m.auto.m c.item.result.now v at c.args.work.now c.loop-m.work c.take.new.work (now_of c.args.journal.now) (now_of c.loop-m.journal)
          (now_of c.take.new.journal) tt (Ok c.in_ok-take.field-0) c.args.trail.now c.loop-m.trail c.take.new.trail inv.repairs c.in_ok-take.ensures.repairs);
      total = c.in_ok-take.ensures.total ∙ inv.total;
    }

-- where a step is refused
pub repair-returns-in_err-take-clause-repairs : goal.repair-returns-in_err-take-clause-repairs
repair-returns-in_err-take-clause-repairs t c =
    let old = c.args.terms.now in
    let new = c.take.new.terms in
    let plans = c.args.plans.now in
    let inv = c.loop-m.invariant in
    let v : IsVisited plans old c.args.n c.args.k = record { op = c.in-Some.op; is = sym c.op.ensures.op ∙ c.in-Some.is; low = c.requires.low; high = c.requires.high } in
    let at = read_at c.steps-all.result.now (steps_of plans c.in-Some.op c.args.k) c.loop-m.m c.item.result.now c.steps-all.ensures c.item.ensures in
    let p = err_from_is_err_and c.from_residual.result c.from_residual.ensures.1 in
    rw p.1
    (repairs_err plans (IsKnownFrom plans c.args.k c.args.from) (IsGivenFrom plans c.args.k c.args.from) (IsGivenFrom plans c.args.k c.args.from) c.args.top c.args.left c.args.n old new c.args.work.now c.take.new.work c.args.trail.now c.take.new.trail (now_of c.args.journal.now)
    (now_of c.take.new.journal) c.in_err-take.field-0.0 p.0
    (some_steps plans c.args.top c.args.left c.args.n old new c.facts.ensures c.args.k c.args.from v c.args.work.now c.take.new.work c.args.trail.now c.take.new.trail (now_of c.args.journal.now) (now_of c.take.new.journal) (c.loop-m.m + 1) c.in_err-take.field-0.0
    (next_step plans c.args.top c.args.left c.args.n old c.loop-m.terms new c.facts.ensures c.facts-in-loop-m.ensures c.args.k c.args.from c.loop-m.m c.loop-m.auto.m c.item.result.now v at c.args.work.now c.loop-m.work c.take.new.work (now_of c.args.journal.now) (now_of c.loop-m.journal)
    (now_of c.take.new.journal) tt (Err c.in_err-take.field-0.0) c.args.trail.now c.loop-m.trail c.take.new.trail inv.repairs c.in_err-take.ensures.repairs)))

-- after all steps
pub repair-returns-clause-repairs : goal.repair-returns-clause-repairs
repair-returns-clause-repairs t c =
    let old = c.args.terms.now in
    let plans = c.args.plans.now in
    let v : IsVisited plans old c.args.n c.args.k = record { op = c.in-Some.op; is = sym c.op.ensures.op ∙ c.in-Some.is; low = c.requires.low; high = c.requires.high } in
    let long = ap length c.steps-all.ensures in
    let past = c.loop-m-test.false in
    repairs_ok plans (IsKnownFrom plans c.args.k c.args.from) (IsGivenFrom plans c.args.k c.args.from) (IsGivenFrom plans c.args.k c.args.from) c.args.top c.args.left c.args.n old c.loop-m.terms c.args.work.now c.loop-m.work c.args.trail.now c.loop-m.trail
    (now_of c.args.journal.now) (now_of c.loop-m.journal) tt tt
    (all_steps plans c.args.top c.args.left c.args.n old c.loop-m.terms c.facts.ensures c.args.k c.args.from v c.args.work.now c.loop-m.work c.args.trail.now c.loop-m.trail (now_of c.args.journal.now) (now_of c.loop-m.journal) c.loop-m.m tt (omega (arith, long, past))
    c.loop-m.invariant.repairs)
