use Rattle.std.proofs.Common.{◌<◌, length, sym, ap, subst, arith}
use Rattle.std.specs.Prelude.{Contains, is_some}
use Rattle.sg_kinds.specs.Typing.{slots_there}
use Rattle.sg_kinds.specs.declared.spec.Spec.{Spec}
use Rattle.sg_dependencies.proofs.SoundRules.{sound_range}
use Rattle.sg_trail.proofs.Saving.{op_there, slot_there, slot_low, node_next}
use Rattle.sg_trail.proofs.saved.save_node.Goals as goal

pub slot_count-count-requires-clause-op : goal.slot_count-count-requires-clause-op
slot_count-count-requires-clause-op c = rw c.spec.ensures (op_there c.args.terms.now c.facts.ensures c.args.n c.args.op c.requires.op)

pub slot_count-count-requires-clause-range : goal.slot_count-count-requires-clause-range
slot_count-count-requires-clause-range c =
    let is = c.facts.ensures in
    rw c.spec.ensures (sound_range c.args.terms.now.spec is.sound.counted is.sound.shapes is.sound.rules)

pub stored-number-requires : goal.stored-number-requires
stored-number-requires c =
    let count = c.slot_count-count.ensures.count in
    let test = c.loop-k-test.true in
    let low : c.loop-k.k < length (slots_there c.args.terms.now.spec c.args.op 0) = subst (λ (s : Spec). c.loop-k.k < length (slots_there s c.args.op 0)) c.spec.ensures (omega (arith, count, test)) in
    ap is_some (slot_there c.args.terms.now c.facts.ensures c.args.n c.args.op c.loop-k.k c.requires.op low).1

pub returns-in_err-push-clause-saved : goal.returns-in_err-push-clause-saved
returns-in_err-push-clause-saved c = λ saved e has. c.loop-k.invariant.saved saved e (subst (λ es. Contains es e) c.in_err-push.ensures.items has)

pub returns-in_err-push-clause-stay : goal.returns-in_err-push-clause-stay
returns-in_err-push-clause-stay c = λ e has. subst (λ es. Contains es e) (sym c.in_err-push.ensures.items) (c.loop-k.invariant.stay e has)

pub loop-k-preserved : goal.loop-k-preserved
loop-k-preserved c =
    node_next c.args.terms.now c.facts.ensures c.args.entries.now.items c.loop-k.entries.items c.push.new.self.items c.args.n c.args.op c.stored-number.result c.loop-k.k c.requires.op c.stored-number.ensures.number c.in_ok-push.ensures.items
    c.loop-k.invariant

pub returns-clause-covered : goal.returns-clause-covered
returns-clause-covered c = λ slot id number.
    let count = c.slot_count-count.ensures.count in
    let test = c.loop-k-test.false in
    let long = ap (λ (s : Spec). length (slots_there s c.args.op 0)) c.spec.ensures in
    let low = slot_low c.args.terms.now c.facts.ensures c.args.n c.args.op slot id c.requires.op number in
    c.loop-k.invariant.covered slot (omega (arith, count, test, long, low))
