use Rattle.std.proofs.Common.{ap}
use Rattle.sg_eval.specs.Journal.{now_of}
use Rattle.sg_groves.proofs.Frames.{only_more, only_was_root}
use Rattle.sg_trail.specs.Trails.{IsAnySlot}
use Rattle.sg_trail.proofs.Back.{any_twice}
use Rattle.sg_propagate.specs.Moves.{IsSlotAt}
use Rattle.sg_propagate.proofs.Finishing.{above, finishes_all, kept_inherits, on_stage, stale_all, tracked_over}
use Rattle.sg_propagate.proofs.Tracked.{tops_still}
use Rattle.sg_propagate.proofs.replacement.bring_up_to_date.Goals as goal

pub rise-requires-clause-inherits : goal.rise-requires-clause-inherits
rise-requires-clause-inherits c = λ root x is_root inside found slot.
    kept_inherits c.args.terms.now c.take_over.new.terms (IsSlotAt c.args.top) c.take_over.ensures.stored c.args.top c.requires.inherits root is_root inside x found slot

pub rise-requires-clause-tops : goal.rise-requires-clause-tops
rise-requires-clause-tops c = tops_still c.args.terms.now c.take_over.new.terms (IsSlotAt c.args.top) c.take_over.ensures.stored c.args.top c.args.left c.requires.tops

-- the new top hangs under a node
pub returns-in_default-clause-finishes : goal.returns-in_default-clause-finishes
returns-in_default-clause-finishes c = absurd (c.requires.hangs (only_was_root c.args.terms.now c.take_over.new.terms (IsSlotAt c.args.top) c.take_over.ensures.stored c.args.top (c.parent.ensures.root.0 c.in_default.is)))

-- after the way up
pub returns-clause-stored : goal.returns-clause-stored
returns-clause-stored c =
    any_twice c.args.terms.now c.take_over.new.terms c.rise.new.terms (only_more c.args.terms.now c.take_over.new.terms (IsSlotAt c.args.top) IsAnySlot (λ m k at. tt) c.take_over.ensures.stored) c.rise.ensures.repairs.stored

pub returns-clause-tracked : goal.returns-clause-tracked
returns-clause-tracked c = λ first tracked.
    c.rise.ensures.repairs.tracked first
    (tracked_over c.args.plans.now c.args.terms.now c.take_over.new.terms c.facts.ensures c.facts-2.ensures c.args.top c.args.left c.requires.tops c.requires.hangs c.take_over.ensures.stored c.take_over.ensures.handed first c.args.trail.now tracked)

pub returns-clause-finishes : goal.returns-clause-finishes
returns-clause-finishes c = λ sc set top_is left_is.
    finishes_all c.args.plans.now c.args.terms.now c.take_over.new.terms c.facts.ensures c.facts-2.ensures c.args.top c.args.left c.requires.tops c.requires.hangs c.take_over.ensures.stored c.take_over.ensures.handed sc set top_is left_is
    c.new-work.result c.in-Some.first c.in-Some.field-0-1 (ap (λ w. w.changed) c.new-work.ensures) c.in-Some.ensures.child
    c.args.trail.now c.rise.new.trail c.rise.new.terms c.rise.new.work (now_of c.args.journal.now) (now_of c.rise.new.journal) c.rise.result c.rise.ensures.repairs

pub returns-clause-reach : goal.returns-clause-reach
returns-clause-reach c = λ sc set top_is left_is.
    let plans = c.args.plans.now in
    let old = c.args.terms.now in
    let mid = c.take_over.new.terms in
    let e = c.take_over.ensures in
    let empty = c.in-Some.ensures.child in
    let none = ap (λ w. w.changed) c.new-work.ensures in
    c.rise.ensures.reach sc (above plans old mid c.facts.ensures c.facts-2.ensures c.args.top c.args.left c.requires.tops c.requires.hangs e.stored e.handed sc set top_is left_is c.new-work.result c.in-Some.first c.in-Some.field-0-1 none empty).place
    (on_stage plans old mid c.facts.ensures c.facts-2.ensures c.args.top c.args.left c.requires.tops c.requires.hangs e.stored e.handed sc set top_is left_is c.new-work.result c.in-Some.first c.in-Some.field-0-1 none empty)
    (stale_all plans old mid c.facts.ensures c.facts-2.ensures c.args.top c.args.left c.requires.tops c.requires.hangs e.stored e.handed sc set top_is left_is c.new-work.result c.in-Some.first c.in-Some.field-0-1 none empty)
