use Rattle.std.proofs.Common.{◌≡◌, ℕ, suc, ◌+◌, ◌<◌, ◌≤◌, List, refl, sym, ap, ◌∙◌, subst, length, get_or, arith}
use Rattle.std.specs.Prelude.{◌↔◌, slice_index}
use Rattle.std.proofs.lemmas.Bool.{both_ways}
use Rattle.std.proofs.lemmas.List.{get_or_read}
use Rattle.sg_sets.specs.Members.{Has}
use Rattle.sg_sets.specs.Rows.{Holds}
use Rattle.sg_lalr.specs.declared.lookaheads.Node.{Node}
use Rattle.sg_lalr.specs.Items.{item, Before}
use Rattle.sg_lalr.specs.Least.{Grown}
use Rattle.sg_lalr.specs.Firsts.{StandsBehind}
use Rattle.sg_lalr.specs.Lookaheads.{node, node_at, rest_of, BeginsWith, OpensTo}
use Rattle.sg_lalr.proofs.FirstLemmas.{null-front, front-null}
use Rattle.sg_lalr.specs.Slots.{OfSome, IsOneEach, Joined}
use Rattle.sg_lalr.proofs.LookLemmas.{in-range, rest-fits, seeded, opened-links, shut-links, bare-links, bare-gives, begun-as}
use Rattle.sg_lalr.proofs.lookaheads.open_node.Goals as goal
use Rattle.sg_lalr.proofs.lookaheads.open_node.Goals.{then-has_all+in_ok-push, else-has_all}

pub first_of-requires : goal.first_of-requires
first_of-requires c =
    let g = c.args.g.now in
    let rest : c.rest_of-rest.result.now ≡ rest_of g c.index-node.result.now.item = c.rest_of-rest.ensures in
    let count = c.requires.count in
    λ k d l. let f = rest-fits g c.index-node.result.now.item c.sound.ensures k d (omega (arith, l, ap length rest)) in
    let e : get_or c.rest_of-rest.result.now k d ≡ get_or (rest_of g c.index-node.result.now.item) k d = ap (λ r. get_or r k d) rest in
    omega (arith, f, e, count)

pub returns-clause-seeds : goal.returns-clause-seeds
returns-clause-seeds c =
    let g = c.args.g.now in
    let nodes : List Node = c.args.layout.now.nodes.items in
    let firsts : List ℕ = c.args.layout.now.firsts.items in
    let a = c.args.a in
    let x = c.args.x in
    let laid = c.requires.laid.1 in
    let is : c.index-node.result.now ≡ node_at nodes a = get_or_read nodes a c.index-node.result.now c.requires.there c.index-node.ensures (node 0 (item 0 0)) in
    let s : ℕ = (node_at nodes a).state in
    let state : c.index-node.result.now.state ≡ s = ap (λ (n : Node). n.state) is in
    let low = laid.known a c.requires.there in
    let count = laid.count in
    let from : c.index-from.result.now ≡ slice_index firsts s = get_or_read firsts c.index-node.result.now.state c.index-from.result.now (omega (arith, low, count, state)) c.index-from.ensures 0 ∙ ap (slice_index firsts) state in
    let next : c.index-node.result.now.state + 1 ≡ suc s = omega (arith, state) in
    let to : c.index-to.result.now ≡ slice_index firsts (suc s) = get_or_read firsts (c.index-node.result.now.state + 1) c.index-to.result.now (omega (arith, low, count, next)) c.index-to.ensures 0 ∙ ap (slice_index firsts) next in
    let slots = c.args.slots.now in
    let long = (c.requires.slots).long in
    let rest : c.rest_of-rest.result.now ≡ rest_of g (node_at nodes a).item = c.rest_of-rest.ensures ∙ ap (λ (n : Node). rest_of g n.item) is in
    let set = c.args.begins.now.nullable in
    let slot = c.in-Some.slot in
    let at = c.deref.ensures.value in
    let found : (y : ℕ) → OfSome slots (λ k. (slice_index firsts s ≤ k) × (k < slice_index firsts (suc s)) × BeginsWith g (node_at nodes k).item x) y ↔ (y ≡ slot) =
    begun-as slots nodes c.deref.result.now g x c.index-from.result.now (slice_index firsts s) c.index-to.result.now (slice_index firsts (suc s)) slot at from to (rw c.in-Some.is at c.begun_slot.ensures.some) in
    let rows = c.args.begins.now.firsts.rows in
    let first = c.in_ok-first.first in
    let old = c.args.flow.now.rows.rows in
    let new = c.union_row.new.self.rows in
    let begun : (u : ℕ) → Has first u ↔ ((Y : ℕ) × StandsBehind set (rest_of g (node_at nodes a).item) Y × Holds rows Y u) = subst (λ r. (u : ℕ) → Has first u ↔ ((Y : ℕ) × StandsBehind set r Y × Holds rows Y u)) rest c.in_ok-first.ensures.exact in
    let all = seeded g c.requires.laid.0 nodes firsts laid a x c.requires.there c.requires.symbol slots long old new first set rows c.requires.nullable c.requires.firsts begun c.sound.ensures slot found c.union_row.ensures.joins in
    elim c.if-has_all.branch [ then-has_all+in_ok-push w ↦ rw w.flow-is all | else-has_all w ↦ rw w.flow-is all ]

pub returns-clause-links : goal.returns-clause-links
returns-clause-links c =
    let g = c.args.g.now in
    let nodes : List Node = c.args.layout.now.nodes.items in
    let firsts : List ℕ = c.args.layout.now.firsts.items in
    let a = c.args.a in
    let x = c.args.x in
    let laid = c.requires.laid.1 in
    let is : c.index-node.result.now ≡ node_at nodes a = get_or_read nodes a c.index-node.result.now c.requires.there c.index-node.ensures (node 0 (item 0 0)) in
    let s : ℕ = (node_at nodes a).state in
    let state : c.index-node.result.now.state ≡ s = ap (λ (n : Node). n.state) is in
    let low = laid.known a c.requires.there in
    let count = laid.count in
    let from : c.index-from.result.now ≡ slice_index firsts s = get_or_read firsts c.index-node.result.now.state c.index-from.result.now (omega (arith, low, count, state)) c.index-from.ensures 0 ∙ ap (slice_index firsts) state in
    let next : c.index-node.result.now.state + 1 ≡ suc s = omega (arith, state) in
    let to : c.index-to.result.now ≡ slice_index firsts (suc s) = get_or_read firsts (c.index-node.result.now.state + 1) c.index-to.result.now (omega (arith, low, count, next)) c.index-to.ensures 0 ∙ ap (slice_index firsts) next in
    let slots = c.args.slots.now in
    let long = (c.requires.slots).long in
    let rest : c.rest_of-rest.result.now ≡ rest_of g (node_at nodes a).item = c.rest_of-rest.ensures ∙ ap (λ (n : Node). rest_of g n.item) is in
    let set = c.args.begins.now.nullable in
    let slot = c.in-Some.slot in
    let at = c.deref.ensures.value in
    let found : (y : ℕ) → OfSome slots (λ k. (slice_index firsts s ≤ k) × (k < slice_index firsts (suc s)) × BeginsWith g (node_at nodes k).item x) y ↔ (y ≡ slot) =
    begun-as slots nodes c.deref.result.now g x c.index-from.result.now (slice_index firsts s) c.index-to.result.now (slice_index firsts (suc s)) slot at from to (rw c.in-Some.is at c.begun_slot.ensures.some) in
    let old = c.args.flow.now.links.items in
    elim c.if-has_all.branch [
      | then-has_all+in_ok-push w ↦
          let new = w.push.new.self.items in
          let null : Grown g.rules 0 (rest_of g (node_at nodes a).item) = subst (Grown g.rules 0) rest (null-front g set c.requires.nullable c.rest_of-rest.result.now (c.has_all.ensures.0 w.if-has_all.true)) in
          rw w.flow-is (subst (λ ls. Joined old ls slots a (λ k. OpensTo g nodes a k × Grown g.rules 0 (rest_of g (node_at nodes a).item))) (sym w.in_ok-push.ensures.items) (opened-links g c.requires.laid.0 nodes firsts laid a x c.requires.there c.requires.symbol slots long old slot null found))
      | else-has_all w ↦ rw w.flow-is (shut-links g c.requires.laid.0 nodes firsts laid a x c.requires.there c.requires.symbol slots long old (λ n. both_ways c.has_all.result w.if-has_all.false (c.has_all.ensures.1 (front-null g set c.requires.nullable c.rest_of-rest.result.now (subst (Grown g.rules 0) (sym rest) n)))))
    ]

pub begun_slot-requires-clause-rising : goal.begun_slot-requires-clause-rising
begun_slot-requires-clause-rising c =
    let g = c.args.g.now in
    let nodes : List Node = c.args.layout.now.nodes.items in
    let firsts : List ℕ = c.args.layout.now.firsts.items in
    let a = c.args.a in
    let x = c.args.x in
    let laid = c.requires.laid.1 in
    let is : c.index-node.result.now ≡ node_at nodes a = get_or_read nodes a c.index-node.result.now c.requires.there c.index-node.ensures (node 0 (item 0 0)) in
    let s : ℕ = (node_at nodes a).state in
    let state : c.index-node.result.now.state ≡ s = ap (λ (n : Node). n.state) is in
    let low = laid.known a c.requires.there in
    let count = laid.count in
    let from : c.index-from.result.now ≡ slice_index firsts s = get_or_read firsts c.index-node.result.now.state c.index-from.result.now (omega (arith, low, count, state)) c.index-from.ensures 0 ∙ ap (slice_index firsts) state in
    let next : c.index-node.result.now.state + 1 ≡ suc s = omega (arith, state) in
    let to : c.index-to.result.now ≡ slice_index firsts (suc s) = get_or_read firsts (c.index-node.result.now.state + 1) c.index-to.result.now (omega (arith, low, count, next)) c.index-to.ensures 0 ∙ ap (slice_index firsts) next in
    λ m n l k h. subst (λ (ns : List Node). Before (node_at ns m).item (node_at ns n).item) (sym c.deref.ensures.value) (c.requires.rising s m n (omega (arith, low, count)) (subst (λ z. z ≤ m) from l) k (subst (λ z. n < z) to h))

pub begun_slot-requires-clause-lefts : goal.begun_slot-requires-clause-lefts
begun_slot-requires-clause-lefts c = rw c.deref-2.ensures.value c.requires.lefts

pub begun_slot-requires-clause-slots : goal.begun_slot-requires-clause-slots
begun_slot-requires-clause-slots c = (c.requires.slots).long ∙ sym (ap length c.deref.ensures.value)

pub begun_slot-requires-clause-one : goal.begun_slot-requires-clause-one
begun_slot-requires-clause-one c =
    let g = c.args.g.now in
    let nodes : List Node = c.args.layout.now.nodes.items in
    let firsts : List ℕ = c.args.layout.now.firsts.items in
    let a = c.args.a in
    let x = c.args.x in
    let laid = c.requires.laid.1 in
    let is : c.index-node.result.now ≡ node_at nodes a = get_or_read nodes a c.index-node.result.now c.requires.there c.index-node.ensures (node 0 (item 0 0)) in
    let s : ℕ = (node_at nodes a).state in
    let state : c.index-node.result.now.state ≡ s = ap (λ (n : Node). n.state) is in
    let low = laid.known a c.requires.there in
    let count = laid.count in
    let from : c.index-from.result.now ≡ slice_index firsts s = get_or_read firsts c.index-node.result.now.state c.index-from.result.now (omega (arith, low, count, state)) c.index-from.ensures 0 ∙ ap (slice_index firsts) state in
    let next : c.index-node.result.now.state + 1 ≡ suc s = omega (arith, state) in
    let to : c.index-to.result.now ≡ slice_index firsts (suc s) = get_or_read firsts (c.index-node.result.now.state + 1) c.index-to.result.now (omega (arith, low, count, next)) c.index-to.ensures 0 ∙ ap (slice_index firsts) next in
    subst (λ (ns : List Node). IsOneEach g ns c.index-from.result.now c.index-to.result.now c.args.slots.now) (sym c.deref.ensures.value) (subst (λ z. IsOneEach g nodes z c.index-to.result.now c.args.slots.now) (sym from) (subst (λ z. IsOneEach g nodes (slice_index firsts s) z c.args.slots.now) (sym to) c.requires.one))

pub begun_slot-requires-clause-begun : goal.begun_slot-requires-clause-begun
begun_slot-requires-clause-begun c =
    let g = c.args.g.now in
    let nodes : List Node = c.args.layout.now.nodes.items in
    let firsts : List ℕ = c.args.layout.now.firsts.items in
    let a = c.args.a in
    let x = c.args.x in
    let laid = c.requires.laid.1 in
    let is : c.index-node.result.now ≡ node_at nodes a = get_or_read nodes a c.index-node.result.now c.requires.there c.index-node.ensures (node 0 (item 0 0)) in
    let s : ℕ = (node_at nodes a).state in
    let state : c.index-node.result.now.state ≡ s = ap (λ (n : Node). n.state) is in
    let low = laid.known a c.requires.there in
    let count = laid.count in
    let from : c.index-from.result.now ≡ slice_index firsts s = get_or_read firsts c.index-node.result.now.state c.index-from.result.now (omega (arith, low, count, state)) c.index-from.ensures 0 ∙ ap (slice_index firsts) state in
    let next : c.index-node.result.now.state + 1 ≡ suc s = omega (arith, state) in
    let to : c.index-to.result.now ≡ slice_index firsts (suc s) = get_or_read firsts (c.index-node.result.now.state + 1) c.index-to.result.now (omega (arith, low, count, next)) c.index-to.ensures 0 ∙ ap (slice_index firsts) next in
    λ q left.
    let b = c.requires.begun q left in
    let r = in-range c.requires.laid.0 nodes firsts laid s b.0 low b.1 (ap (λ (n : Node). n.state) b.2) in
    (b.0, subst (λ z. z ≤ b.0) (sym from) r.0, subst (λ z. b.0 < z) (sym to) r.1, ap (λ ns. (node_at ns b.0).item) c.deref.ensures.value ∙ ap (λ (n : Node). n.item) b.2)

pub begun_slot-requires-clause-order : goal.begun_slot-requires-clause-order
begun_slot-requires-clause-order c =
    let g = c.args.g.now in
    let nodes : List Node = c.args.layout.now.nodes.items in
    let firsts : List ℕ = c.args.layout.now.firsts.items in
    let a = c.args.a in
    let x = c.args.x in
    let laid = c.requires.laid.1 in
    let is : c.index-node.result.now ≡ node_at nodes a = get_or_read nodes a c.index-node.result.now c.requires.there c.index-node.ensures (node 0 (item 0 0)) in
    let s : ℕ = (node_at nodes a).state in
    let state : c.index-node.result.now.state ≡ s = ap (λ (n : Node). n.state) is in
    let low = laid.known a c.requires.there in
    let count = laid.count in
    let from : c.index-from.result.now ≡ slice_index firsts s = get_or_read firsts c.index-node.result.now.state c.index-from.result.now (omega (arith, low, count, state)) c.index-from.ensures 0 ∙ ap (slice_index firsts) state in
    let next : c.index-node.result.now.state + 1 ≡ suc s = omega (arith, state) in
    let to : c.index-to.result.now ≡ slice_index firsts (suc s) = get_or_read firsts (c.index-node.result.now.state + 1) c.index-to.result.now (omega (arith, low, count, next)) c.index-to.ensures 0 ∙ ap (slice_index firsts) next in
    let r = laid.rising s low in
    omega (arith, r, from, to)

pub begun_slot-requires-clause-to : goal.begun_slot-requires-clause-to
begun_slot-requires-clause-to c =
    let g = c.args.g.now in
    let nodes : List Node = c.args.layout.now.nodes.items in
    let firsts : List ℕ = c.args.layout.now.firsts.items in
    let a = c.args.a in
    let x = c.args.x in
    let laid = c.requires.laid.1 in
    let is : c.index-node.result.now ≡ node_at nodes a = get_or_read nodes a c.index-node.result.now c.requires.there c.index-node.ensures (node 0 (item 0 0)) in
    let s : ℕ = (node_at nodes a).state in
    let state : c.index-node.result.now.state ≡ s = ap (λ (n : Node). n.state) is in
    let low = laid.known a c.requires.there in
    let count = laid.count in
    let from : c.index-from.result.now ≡ slice_index firsts s = get_or_read firsts c.index-node.result.now.state c.index-from.result.now (omega (arith, low, count, state)) c.index-from.ensures 0 ∙ ap (slice_index firsts) state in
    let next : c.index-node.result.now.state + 1 ≡ suc s = omega (arith, state) in
    let to : c.index-to.result.now ≡ slice_index firsts (suc s) = get_or_read firsts (c.index-node.result.now.state + 1) c.index-to.result.now (omega (arith, low, count, next)) c.index-to.ensures 0 ∙ ap (slice_index firsts) next in
    let w = laid.within (suc s) (omega (arith, low)) in
    omega (arith, w, to, ap length c.deref.ensures.value)

pub returns-in_default-clause-links : goal.returns-in_default-clause-links
returns-in_default-clause-links c =
    let nodes : List Node = c.args.layout.now.nodes.items in
    let none : (k : ℕ) → BeginsWith c.args.g.now (node_at nodes k).item c.args.x → ⊥ = subst (λ ns. (k : ℕ) → BeginsWith c.args.g.now (node_at ns k).item c.args.x → ⊥) c.deref.ensures.value (rw c.in_default.is at c.begun_slot.ensures.none) in
    bare-links c.args.g.now c.requires.laid.0 nodes c.args.layout.now.firsts.items c.requires.laid.1 c.args.a c.args.x c.requires.there c.requires.symbol c.args.slots.now (c.requires.slots).long c.args.flow.now.links.items none

pub returns-in_default-clause-seeds : goal.returns-in_default-clause-seeds
returns-in_default-clause-seeds c =
    let nodes : List Node = c.args.layout.now.nodes.items in
    let none : (k : ℕ) → BeginsWith c.args.g.now (node_at nodes k).item c.args.x → ⊥ = subst (λ ns. (k : ℕ) → BeginsWith c.args.g.now (node_at ns k).item c.args.x → ⊥) c.deref.ensures.value (rw c.in_default.is at c.begun_slot.ensures.none) in
    bare-gives c.args.g.now c.requires.laid.0 nodes c.args.layout.now.firsts.items c.requires.laid.1 c.args.a c.args.x c.requires.there c.requires.symbol c.args.slots.now (c.requires.slots).long c.args.flow.now.rows.rows none

pub union_row-requires-clause-row : goal.union_row-requires-clause-row
union_row-requires-clause-row c =
    let found = rw c.in-Some.is at c.begun_slot.ensures.some in
    let o = (found c.in-Some.slot).1 refl in
    let is = o.3 in
    let long = (c.requires.slots).long in
    let low = o.1 in
    let w = (c.requires.slots).within o.0 (omega (arith, low, long)) in
    omega (arith, w, is)
