use Rattle.std.proofs.Common.{◌+◌, ◌<◌, ◌≤◌, refl, sym, ap, ◌∙◌, subst, arith}
use Rattle.std.specs.Prelude.{slice_index}
use Rattle.sg_lalr.specs.Slots.{AreSlots, IsOneEach}
use Rattle.sg_lalr.proofs.SlotLemmas.{Filled, filled-none, filled-more, filled-one, slot-old}
use Rattle.sg_lalr.proofs.slots.add_state.Goals as goal

pub loop-m-init : goal.loop-m-init
loop-m-init c = record {
  count = c.requires.symbols;
  filled = filled-none c.args.g.now c.args.nodes.now c.args.from c.args.at.now.items c.args.slots.now.of.items c.args.slots.now.count c.requires.past c.requires.slots;
  keeps = λ k l. refl;
}

pub loop-m-preserved : goal.loop-m-preserved
loop-m-preserved c =
    let g = c.args.g.now in
    let nodes = c.args.nodes.now in
    let l = c.loop-m in
    let inv = l.invariant in
    let slot = c.slot_of-slot.result in
    let low : c.args.from ≤ l.m = omega arith in
    let under : l.m < c.args.to = omega arith in
    let more = filled-more g nodes c.args.from l.m c.args.slots.now.count l.at.items l.slots.of.items l.slots.count low inv.filled c.slot_of-slot.new.at.items slot c.max-slots.result c.max-slots.ensures (λ b h k. c.requires.here b l.m h (omega (arith, k, under)) low under) c.slot_of-slot.ensures.gets in
    record {
      count = c.slot_of-slot.ensures.count;
      filled = subst (λ xs. Filled g nodes c.args.from (l.m + 1) c.args.slots.now.count c.slot_of-slot.new.at.items xs c.max-slots.result) (sym c.in_ok-push.ensures.items) more.1;
      keeps = λ k h. ap (λ xs. slice_index xs k) c.in_ok-push.ensures.items ∙ slot-old l.slots.of.items slot l.m (inv.filled.are).long k (omega (arith, h, low)) ∙ inv.keeps k h;
    }

pub returns-clause-one : goal.returns-clause-one
returns-clause-one c =
    let l = c.loop-m in
    subst (λ m. IsOneEach c.args.g.now c.args.nodes.now c.args.from m l.slots.of.items) (omega (arith, c.requires.order)) (filled-one c.args.g.now c.args.nodes.now c.args.from l.m c.args.slots.now.count l.at.items l.slots.of.items l.slots.count (omega arith) l.invariant.filled)

pub returns-clause-slots : goal.returns-clause-slots
returns-clause-slots c =
    let l = c.loop-m in
    subst (λ m. AreSlots c.args.g.now c.args.nodes.now m l.slots.of.items l.slots.count) (omega (arith, c.requires.order)) (l.invariant.filled.are)
