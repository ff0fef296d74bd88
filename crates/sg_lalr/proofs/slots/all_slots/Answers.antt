use Rattle.std.proofs.Common.{◌≡◌, ℕ, suc, ◌+◌, inl, inr, List, length, replicate, sym, ap, ◌∙◌, subst, arith}
use Rattle.std.specs.Prelude.{slice_index}
use Rattle.std.proofs.lemmas.Bool.{cases_lt}
use Rattle.std.proofs.lemmas.List.{get_or_read, get_or-replicate, get_or_past, length-replicate}
use Rattle.sg_lalr.specs.declared.lookaheads.Node.{Node}
use Rattle.sg_lalr.specs.Lookaheads.{node_at}
use Rattle.sg_lalr.specs.Slots.{AreSlots, IsOneEach}
use Rattle.sg_lalr.proofs.SlotLemmas.{Stated, stated-none, stated-more}
use Rattle.sg_lalr.proofs.slots.all_slots.Goals as goal

pub loop-state-init : goal.loop-state-init
loop-state-init c =
    let n = c.symbols.result in
    let at = c.in_ok-at.at.items in
    let zeros : at ≡ replicate n 0 = c.in_ok-at.ensures.items_if_clones_equal (λ y same. same) in
    record {
      stated = rw c.in_ok-with_capacity.ensures.items (stated-none c.args.g.now c.args.cores.now c.args.layout.now.nodes.items c.args.layout.now.firsts.items c.requires);
      symbols = ap length zeros ∙ length-replicate n 0 ∙ c.symbols.ensures;
      past = λ X. elim (cases_lt X n) [
        | inl low ↦ (let e = ap (λ xs. slice_index xs X) zeros ∙ get_or-replicate n X 0 0 low in omega (arith, e))
        | inr high ↦ (let e = get_or_past at X 0 (let l = ap length zeros ∙ length-replicate n 0 in omega (arith, l, high)) in omega (arith, e))
      ];
    }

pub loop-state-preserved : goal.loop-state-preserved
loop-state-preserved c =
    let g = c.args.g.now in
    let nodes : List Node = c.args.layout.now.nodes.items in
    let firsts : List ℕ = c.args.layout.now.firsts.items in
    let s = c.loop-state.state in
    let low = c.loop-state-test.true in
    let laid = c.requires in
    let count = laid.count in
    let from : c.index-from.result.now ≡ slice_index firsts s = get_or_read firsts s c.index-from.result.now (omega (arith, low, count)) c.index-from.ensures 0 in
    let next : s + 1 ≡ suc s = omega arith in
    let to : c.index-to.result.now ≡ slice_index firsts (suc s) = get_or_read firsts (s + 1) c.index-to.result.now (omega (arith, low, count)) c.index-to.ensures 0 ∙ ap (slice_index firsts) next in
    let now = c.add_state.new.slots.of.items in
    let more = c.in_ok-add_state.ensures in
    let at = c.deref.ensures.value in
    let are : AreSlots g nodes (slice_index firsts (suc s)) now c.add_state.new.slots.count = subst (λ n. AreSlots g nodes n now c.add_state.new.slots.count) to (subst (λ ns. AreSlots g ns c.index-to.result.now now c.add_state.new.slots.count) at more.slots) in
    let one : IsOneEach g nodes (slice_index firsts s) (slice_index firsts (suc s)) now = subst (λ z. IsOneEach g nodes (slice_index firsts s) z now) to (subst (λ z. IsOneEach g nodes z c.index-to.result.now now) from (subst (λ ns. IsOneEach g ns c.index-from.result.now c.index-to.result.now now) at more.one)) in
    record {
      stated = subst (λ n. Stated g nodes firsts n now c.add_state.new.slots.count) (sym next) (stated-more g c.args.cores.now nodes firsts laid s c.loop-state.slots.of.items now c.loop-state.slots.count c.add_state.new.slots.count low c.loop-state.invariant.stated are one
          (λ m l. more.keeps m (omega (arith, l, from))));
      symbols = more.symbols;
      past = more.past;
    }

pub returns-clause-one : goal.returns-clause-one
returns-clause-one c t low = c.loop-state.invariant.stated.one t (let f = c.loop-state-test.false in omega (arith, low, f))

pub returns-clause-slots : goal.returns-clause-slots
returns-clause-slots c =
    let nodes : List Node = c.args.layout.now.nodes.items in
    let firsts : List ℕ = c.args.layout.now.firsts.items in
    let laid = c.requires in
    subst (λ n. AreSlots c.args.g.now nodes n c.loop-state.slots.of.items c.loop-state.slots.count) (ap (slice_index firsts) (let f = c.loop-state-test.false in let e : c.loop-state.state ≡ length c.args.cores.now = omega (arith, f) in e) ∙ laid.end) c.loop-state.invariant.stated.are

pub add_state-requires-clause-order : goal.add_state-requires-clause-order
add_state-requires-clause-order c =
    let firsts : List ℕ = c.args.layout.now.firsts.items in
    let s = c.loop-state.state in
    let low = c.loop-state-test.true in
    let laid = c.requires in
    let count = laid.count in
    let from : c.index-from.result.now ≡ slice_index firsts s = get_or_read firsts s c.index-from.result.now (omega (arith, low, count)) c.index-from.ensures 0 in
    let next : s + 1 ≡ suc s = omega arith in
    let to : c.index-to.result.now ≡ slice_index firsts (suc s) = get_or_read firsts (s + 1) c.index-to.result.now (omega (arith, low, count)) c.index-to.ensures 0 ∙ ap (slice_index firsts) next in
    let r = laid.rising s low in
    omega (arith, r, from, to)

pub add_state-requires-clause-to : goal.add_state-requires-clause-to
add_state-requires-clause-to c =
    let firsts : List ℕ = c.args.layout.now.firsts.items in
    let s = c.loop-state.state in
    let low = c.loop-state-test.true in
    let laid = c.requires in
    let count = laid.count in
    let next : s + 1 ≡ suc s = omega arith in
    let to : c.index-to.result.now ≡ slice_index firsts (suc s) = get_or_read firsts (s + 1) c.index-to.result.now (omega (arith, low, count)) c.index-to.ensures 0 ∙ ap (slice_index firsts) next in
    let w = laid.within (suc s) low in
    omega (arith, w, to, ap length c.deref.ensures.value)

pub add_state-requires-clause-slots : goal.add_state-requires-clause-slots
add_state-requires-clause-slots c =
    let g = c.args.g.now in
    let nodes : List Node = c.args.layout.now.nodes.items in
    let firsts : List ℕ = c.args.layout.now.firsts.items in
    let s = c.loop-state.state in
    let laid = c.requires in
    let count = laid.count in
    let from : c.index-from.result.now ≡ slice_index firsts s = get_or_read firsts s c.index-from.result.now (omega (arith, c.loop-state-test.true, count)) c.index-from.ensures 0 in
    subst (λ ns. AreSlots g ns c.index-from.result.now c.loop-state.slots.of.items c.loop-state.slots.count) (sym c.deref.ensures.value)
    (subst (λ n. AreSlots g nodes n c.loop-state.slots.of.items c.loop-state.slots.count) (sym from) c.loop-state.invariant.stated.are)

pub add_state-requires-clause-here : goal.add_state-requires-clause-here
add_state-requires-clause-here c =
    let nodes : List Node = c.args.layout.now.nodes.items in
    let firsts : List ℕ = c.args.layout.now.firsts.items in
    let s = c.loop-state.state in
    let low = c.loop-state-test.true in
    let laid = c.requires in
    let count = laid.count in
    let from : c.index-from.result.now ≡ slice_index firsts s = get_or_read firsts s c.index-from.result.now (omega (arith, low, count)) c.index-from.ensures 0 in
    let next : s + 1 ≡ suc s = omega arith in
    let to : c.index-to.result.now ≡ slice_index firsts (suc s) = get_or_read firsts (s + 1) c.index-to.result.now (omega (arith, low, count)) c.index-to.ensures 0 ∙ ap (slice_index firsts) next in
    λ b d l h k j. ap (λ ns. (node_at ns b).state) c.deref.ensures.value
    ∙ laid.here s b low (omega (arith, l, from)) (omega (arith, h, to)) ∙ sym (laid.here s d low (omega (arith, k, from)) (omega (arith, j, to)))
    ∙ sym (ap (λ ns. (node_at ns d).state) c.deref.ensures.value)
