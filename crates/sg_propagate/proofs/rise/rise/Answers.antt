use Rattle.std.proofs.Common.{◌+◌, ◌∙◌, refl, arith}
use Rattle.std.proofs.lemmas.Result.{err_from_is_err_and}
use Rattle.std.specs.Prelude.{Ok, Err}
use Rattle.sg_eval.specs.Journal.{now_of}
use Rattle.sg_forest.proofs.Paths.{parent_is_live}
use Rattle.sg_groves.specs.Grove.{nodes}
use Rattle.sg_trail.specs.Trails.{IsAnySlot}
use Rattle.sg_propagate.proofs.Rises.{next_err, rises_err, rises_first, rises_last, rises_next, rises_reach, rises_up, up_err}
use Rattle.sg_propagate.proofs.Stepped.{from_first, repairs_err}
use Rattle.sg_propagate.proofs.Risen.{IsEquation, NeedsNothing}
use Rattle.sg_propagate.proofs.Tracked.{tops_still}
use Rattle.sg_propagate.proofs.rise.rise.Goals as goal

pub loop-above-init : goal.loop-above-init
loop-above-init c =
    let hangs = c.requires.hangs in
    let old = c.args.terms.now in
    let live = parent_is_live (nodes old) c.facts.ensures.forest.linked c.args.top c.args.first hangs.0 hangs.1 in
    record {
      risen = rises_first c.args.plans.now c.args.top c.args.left c.args.first old c.facts.ensures c.requires.inherits c.args.work.now hangs.0 hangs.1 live c.args.trail.now (now_of c.args.journal.now);
      total = refl;
    }

-- one node up
pub repair-requires-clause-tops : goal.repair-requires-clause-tops
repair-requires-clause-tops c = tops_still c.args.terms.now c.loop-above.terms IsAnySlot c.loop-above.invariant.risen.stored c.args.top c.args.left c.requires.tops

pub loop-above-preserved-in-Some : goal.loop-above-preserved-in-Some
loop-above-preserved-in-Some c =
    let inv = c.loop-above.invariant in
    record {
      risen = rises_up c.args.plans.now c.args.top c.args.left c.args.first c.args.terms.now c.facts.ensures c.requires.inherits c.args.work.now c.loop-above.at c.loop-above.k c.loop-above.terms c.facts-in-loop-above.ensures c.loop-above.work c.args.trail.now c.loop-above.trail
          (now_of c.args.journal.now) (now_of c.loop-above.journal) inv.risen _ _ c.in-Some.above c.in-Some.i c.in-Some.from c.in-Some.ensures.up c.activate.new.self c.in_ok-activate.ensures.active c.in_ok-activate.ensures.changed
          c.repair.new.terms c.repair.new.work c.repair.new.trail (now_of c.repair.new.journal) c.in_ok-repair.field-0 c.in_ok-repair.ensures.repairs;
      total = c.in_ok-repair.ensures.total ∙ inv.total;
    }

pub returns-in_err-activate-clause-repairs : goal.returns-in_err-activate-clause-repairs
returns-in_err-activate-clause-repairs c =
    let p = err_from_is_err_and c.from_residual.result c.from_residual.ensures.1 in
    rw p.1
    (rises_err c.args.plans.now c.args.top c.args.left c.args.first c.args.terms.now c.facts.ensures c.requires.inherits c.args.work.now c.loop-above.at c.loop-above.k c.loop-above.terms c.facts-in-loop-above.ensures c.loop-above.work c.args.trail.now c.loop-above.trail
    (now_of c.args.journal.now) (now_of c.loop-above.journal) c.loop-above.invariant.risen p.0 c.activate.new.self)

pub returns-in_err-repair-clause-repairs : goal.returns-in_err-repair-clause-repairs
returns-in_err-repair-clause-repairs c =
    let plans = c.args.plans.now in
    let was = now_of c.args.journal.now in
    let now = now_of c.repair.new.journal in
    let p = err_from_is_err_and c.from_residual-in_err-repair.result c.from_residual-in_err-repair.ensures.1 in
    rw p.1
    (repairs_err plans NeedsNothing IsEquation IsEquation c.args.top c.args.left c.args.first c.args.terms.now c.repair.new.terms c.args.work.now c.repair.new.work c.args.trail.now c.repair.new.trail was now c.in_err-repair.field-0.0 p.0
    (up_err plans c.args.top c.args.left c.args.first c.args.terms.now c.facts.ensures c.requires.inherits c.args.work.now c.loop-above.at c.loop-above.k c.loop-above.terms c.facts-in-loop-above.ensures c.loop-above.work c.args.trail.now c.loop-above.trail
    was (now_of c.loop-above.journal) c.loop-above.invariant.risen _ _ c.in-Some.above c.in-Some.i c.in-Some.from c.in-Some.ensures.up c.activate.new.self c.in_ok-activate.ensures.active c.in_ok-activate.ensures.changed
    c.repair.new.terms c.repair.new.work c.repair.new.trail now c.in_err-repair.field-0.0 c.in_err-repair.ensures.repairs))

-- the next visit
pub repair-requires-then-k-visits-clause-high : goal.repair-requires-then-k-visits-clause-high
repair-requires-then-k-visits-clause-high c = λ x found. (c.visits.ensures.each c.loop-above.k c.if-k-visits.true).high x found

pub repair-requires-then-k-visits-clause-tops : goal.repair-requires-then-k-visits-clause-tops
repair-requires-then-k-visits-clause-tops c = tops_still c.args.terms.now c.loop-above.terms IsAnySlot c.loop-above.invariant.risen.stored c.args.top c.args.left c.requires.tops

pub loop-above-preserved : goal.loop-above-preserved
loop-above-preserved c =
    let inv = c.loop-above.invariant in
    let new = c.repair-then-k-visits.new in
    let x = c.in_ok-repair-2.field-0 in
    record {
      risen = rises_next c.args.plans.now c.args.top c.args.left c.args.first c.args.terms.now c.facts.ensures c.requires.inherits c.args.work.now c.loop-above.at c.loop-above.k c.loop-above.terms c.facts-in-loop-above.ensures c.loop-above.work c.args.trail.now c.loop-above.trail
          (now_of c.args.journal.now) (now_of c.loop-above.journal) inv.risen c.in_default.ensures.stays (c.visits.ensures.each c.loop-above.k c.if-k-visits.true) new.terms new.work new.trail (now_of new.journal) x
          (from_first c.args.plans.now c.args.top c.args.left c.loop-above.at c.loop-above.terms new.terms c.loop-above.work new.work c.loop-above.trail new.trail (now_of c.loop-above.journal) (now_of new.journal) (c.loop-above.k + 1) (Ok x) c.in_ok-repair-2.ensures.repairs);
      total = c.in_ok-repair-2.ensures.total ∙ inv.total;
    }

pub returns-in_err-repair-2-clause-repairs : goal.returns-in_err-repair-2-clause-repairs
returns-in_err-repair-2-clause-repairs c =
    let plans = c.args.plans.now in
    let was = now_of c.args.journal.now in
    let new = c.repair-then-k-visits.new in
    let e = c.in_err-repair-2.field-0.0 in
    let p = err_from_is_err_and c.from_residual-in_err-repair-2.result c.from_residual-in_err-repair-2.ensures.1 in
    rw p.1
    (repairs_err plans NeedsNothing IsEquation IsEquation c.args.top c.args.left c.args.first c.args.terms.now new.terms c.args.work.now new.work c.args.trail.now new.trail was (now_of new.journal) e p.0
    (next_err plans c.args.top c.args.left c.args.first c.args.terms.now c.facts.ensures c.requires.inherits c.args.work.now c.loop-above.at c.loop-above.k c.loop-above.terms c.facts-in-loop-above.ensures c.loop-above.work c.args.trail.now c.loop-above.trail
    was (now_of c.loop-above.journal) c.loop-above.invariant.risen c.in_default.ensures.stays (c.visits.ensures.each c.loop-above.k c.if-k-visits.true) new.terms new.work new.trail (now_of new.journal) e
    (from_first plans c.args.top c.args.left c.loop-above.at c.loop-above.terms new.terms c.loop-above.work new.work c.loop-above.trail new.trail (now_of c.loop-above.journal) (now_of new.journal) (c.loop-above.k + 1) (Err e) c.in_err-repair-2.ensures.repairs)))

-- the end
pub returns-else-k-visits-clause-repairs : goal.returns-else-k-visits-clause-repairs
returns-else-k-visits-clause-repairs c =
    rises_last c.args.plans.now c.args.top c.args.left c.args.first c.args.terms.now c.facts.ensures c.requires.inherits c.args.work.now c.loop-above.at c.loop-above.k c.loop-above.terms c.facts-in-loop-above.ensures c.loop-above.work c.args.trail.now c.loop-above.trail
    (now_of c.args.journal.now) (now_of c.loop-above.journal) c.loop-above.invariant.risen c.in_default.ensures.stays
    (λ h v. let low = c.visits.ensures.all h v in let end = c.if-k-visits.false in omega (arith, low, end)) c.loop-above.at

pub returns-else-k-visits-clause-reach : goal.returns-else-k-visits-clause-reach
returns-else-k-visits-clause-reach c =
    rises_reach c.args.plans.now c.args.top c.args.left c.args.first c.args.terms.now c.facts.ensures c.requires.inherits c.args.work.now c.loop-above.at c.loop-above.k c.loop-above.terms c.facts-in-loop-above.ensures c.loop-above.work c.args.trail.now c.loop-above.trail
    (now_of c.args.journal.now) (now_of c.loop-above.journal) c.loop-above.invariant.risen c.in_default.ensures.stays
    (λ h v. let low = c.visits.ensures.all h v in let end = c.if-k-visits.false in omega (arith, low, end))
