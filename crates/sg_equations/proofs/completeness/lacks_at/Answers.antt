use Rattle.std.proofs.Common.{◌≡◌, ◌<◌, length, sym, ap, ◌∙◌, arith}
use Rattle.std.specs.List.{list_any}
use Rattle.sg_kinds.specs.Instances.{below}
use Rattle.sg_kinds.specs.Typing.{slots_there}
use Rattle.sg_equations.specs.Complete as spec
use Rattle.sg_names.specs.Drafted.{drafted}
use Rattle.sg_equations.proofs.Below.{any_found, any_more}
use Rattle.sg_equations.proofs.completeness.lacks_at.Goals as goal

pub returns-then-lacks_slot : goal.returns-then-lacks_slot
returns-then-lacks_slot c = λ defs seen.
    let count = length (slots_there (drafted c.args.names.now) c.args.op c.args.at) in
    let low : c.loop-slot.slot < count = omega (arith, c.loop-slot-test.true, c.slot_count-slot-end.ensures.count) in
    sym (any_found (spec.lacks_slot c.args.names.now defs c.args.op c.args.at) c.loop-slot.slot count (sym (c.lacks_slot.ensures defs seen) ∙ c.if-lacks_slot.true) low)

pub loop-slot-preserved : goal.loop-slot-preserved
loop-slot-preserved c = λ defs seen. any_more (spec.lacks_slot c.args.names.now defs c.args.op c.args.at) c.loop-slot.slot (sym (c.lacks_slot.ensures defs seen) ∙ c.if-lacks_slot.false) (c.loop-slot.invariant defs seen)

pub returns : goal.returns
returns c = λ defs seen.
    let count = length (slots_there (drafted c.args.names.now) c.args.op c.args.at) in
    let all : c.loop-slot.slot ≡ count = omega (arith, c.loop-slot-test.false, c.loop-slot.auto.slot-end, c.slot_count-slot-end.ensures.count) in
    sym (ap (λ n. list_any (spec.lacks_slot c.args.names.now defs c.args.op c.args.at) (below n)) (sym all) ∙ c.loop-slot.invariant defs seen)
