use Rattle.std.proofs.Common.{◌≡◌, ℕ, suc, ◌+◌, ◌<◌, ◌≤◌, List, Some, sym, ap, ◌∙◌, subst, length, map, arith}
use Rattle.std.specs.Prelude.{slice_index}
use Rattle.std.proofs.lemmas.List.{get_or_read}
use Rattle.sg_lalr.specs.declared.lookaheads.Node.{Node}
use Rattle.sg_lalr.specs.declared.states.Move.{Move}
use Rattle.sg_lalr.specs.Items.{Item, item, Before, symbol_of, moved}
use Rattle.sg_lalr.specs.Closure.{InRange}
use Rattle.sg_lalr.specs.Automaton.{goto}
use Rattle.sg_lalr.specs.Lookaheads.{node, node_at}
use Rattle.sg_lalr.specs.Slots.{Joined}
use Rattle.sg_lalr.proofs.LinkLemmas.{joined-as}
use Rattle.sg_lalr.proofs.PlaceLemmas.{nodes-rise}
use Rattle.sg_lalr.proofs.LookLemmas.{node-range, node-target, node-begun, flows-open, flows-shut, gives-shut}
use Rattle.sg_lalr.proofs.lookaheads.link_node.Goals as goal

pub symbol_of-requires : goal.symbol_of-requires
symbol_of-requires c =
    let g = c.args.g.now in
    let nodes : List Node = c.args.layout.now.nodes.items in
    let firsts : List ℕ = c.args.layout.now.firsts.items in
    let moves : List (List Move) = c.args.automaton.now.moves.items in
    let kernels = map (λ k. k.items) c.args.automaton.now.kernels.keys in
    let cores : List (List Item) = c.args.automaton.now.cores.items in
    let origins = c.args.automaton.now.origins.items in
    let a = c.args.a in
    let there = c.requires.there in
    let laid = c.requires.laid in
    let whole = c.requires.whole in
    let is : c.index-node.result.now ≡ node_at nodes a = get_or_read nodes a c.index-node.result.now there c.index-node.ensures (node 0 (item 0 0)) in
    subst (λ (n : Node). InRange g n.item) (sym is) (node-range g kernels cores moves origins whole nodes firsts laid a there)

pub open_node-requires-clause-range : goal.open_node-requires-clause-range
open_node-requires-clause-range c =
    let g = c.args.g.now in
    let nodes : List Node = c.args.layout.now.nodes.items in
    let firsts : List ℕ = c.args.layout.now.firsts.items in
    let moves : List (List Move) = c.args.automaton.now.moves.items in
    let kernels = map (λ k. k.items) c.args.automaton.now.kernels.keys in
    let cores : List (List Item) = c.args.automaton.now.cores.items in
    let origins = c.args.automaton.now.origins.items in
    let a = c.args.a in
    let there = c.requires.there in
    let laid = c.requires.laid in
    let whole = c.requires.whole in
    let is : c.index-node.result.now ≡ node_at nodes a = get_or_read nodes a c.index-node.result.now there c.index-node.ensures (node 0 (item 0 0)) in
    node-range g kernels cores moves origins whole nodes firsts laid a there

pub index-requires : goal.index-requires
index-requires c =
    let g = c.args.g.now in
    let nodes : List Node = c.args.layout.now.nodes.items in
    let firsts : List ℕ = c.args.layout.now.firsts.items in
    let moves : List (List Move) = c.args.automaton.now.moves.items in
    let kernels = map (λ k. k.items) c.args.automaton.now.kernels.keys in
    let cores : List (List Item) = c.args.automaton.now.cores.items in
    let origins = c.args.automaton.now.origins.items in
    let a = c.args.a in
    let there = c.requires.there in
    let laid = c.requires.laid in
    let whole = c.requires.whole in
    let is : c.index-node.result.now ≡ node_at nodes a = get_or_read nodes a c.index-node.result.now there c.index-node.ensures (node 0 (item 0 0)) in
    let x = c.in-Some.x in
    let symbol : symbol_of g (node_at nodes a).item ≡ Some x = ap (λ (n : Node). symbol_of g n.item) (sym is) ∙ (sym c.symbol_of.ensures.symbol ∙ c.in-Some.is) in
    let v = goto moves (node_at nodes a).state x in
    let low : v < length cores = node-target g kernels cores moves origins whole nodes firsts laid a x there symbol in
    let v-is : c.goto_of-to.result ≡ v = c.goto_of-to.ensures ∙ ap (λ ms. goto ms c.index-node.result.now.state x) c.deref.ensures.value ∙ ap (λ (n : Node). goto moves n.state x) is in
    let count = laid.count in
    let long = c.args.layout.now.firsts.ok.0 in
    omega (arith, low, v-is, count, long)

pub index-requires-2 : goal.index-requires-2
index-requires-2 c =
    let g = c.args.g.now in
    let nodes : List Node = c.args.layout.now.nodes.items in
    let firsts : List ℕ = c.args.layout.now.firsts.items in
    let moves : List (List Move) = c.args.automaton.now.moves.items in
    let kernels = map (λ k. k.items) c.args.automaton.now.kernels.keys in
    let cores : List (List Item) = c.args.automaton.now.cores.items in
    let origins = c.args.automaton.now.origins.items in
    let a = c.args.a in
    let there = c.requires.there in
    let laid = c.requires.laid in
    let whole = c.requires.whole in
    let is : c.index-node.result.now ≡ node_at nodes a = get_or_read nodes a c.index-node.result.now there c.index-node.ensures (node 0 (item 0 0)) in
    let x = c.in-Some.x in
    let symbol : symbol_of g (node_at nodes a).item ≡ Some x = ap (λ (n : Node). symbol_of g n.item) (sym is) ∙ (sym c.symbol_of.ensures.symbol ∙ c.in-Some.is) in
    let v = goto moves (node_at nodes a).state x in
    let low : v < length cores = node-target g kernels cores moves origins whole nodes firsts laid a x there symbol in
    let v-is : c.goto_of-to.result ≡ v = c.goto_of-to.ensures ∙ ap (λ ms. goto ms c.index-node.result.now.state x) c.deref.ensures.value ∙ ap (λ (n : Node). goto moves n.state x) is in
    let count = laid.count in
    let long = c.args.layout.now.firsts.ok.0 in
    omega (arith, low, v-is, count, long)

pub link_item-requires-clause-rising : goal.link_item-requires-clause-rising
link_item-requires-clause-rising c =
    let g = c.args.g.now in
    let nodes : List Node = c.args.layout.now.nodes.items in
    let firsts : List ℕ = c.args.layout.now.firsts.items in
    let moves : List (List Move) = c.args.automaton.now.moves.items in
    let kernels = map (λ k. k.items) c.args.automaton.now.kernels.keys in
    let cores : List (List Item) = c.args.automaton.now.cores.items in
    let origins = c.args.automaton.now.origins.items in
    let a = c.args.a in
    let there = c.requires.there in
    let laid = c.requires.laid in
    let whole = c.requires.whole in
    let is : c.index-node.result.now ≡ node_at nodes a = get_or_read nodes a c.index-node.result.now there c.index-node.ensures (node 0 (item 0 0)) in
    let x = c.in-Some.x in
    let symbol : symbol_of g (node_at nodes a).item ≡ Some x = ap (λ (n : Node). symbol_of g n.item) (sym is) ∙ (sym c.symbol_of.ensures.symbol ∙ c.in-Some.is) in
    let v = goto moves (node_at nodes a).state x in
    let low : v < length cores = node-target g kernels cores moves origins whole nodes firsts laid a x there symbol in
    let v-is : c.goto_of-to.result ≡ v = c.goto_of-to.ensures ∙ ap (λ ms. goto ms c.index-node.result.now.state x) c.deref.ensures.value ∙ ap (λ (n : Node). goto moves n.state x) is in
    let count = laid.count in
    let long = c.args.layout.now.firsts.ok.0 in
    let from : c.index.result.now ≡ slice_index firsts v = get_or_read firsts c.goto_of-to.result c.index.result.now (omega (arith, low, count, v-is)) c.index.ensures 0 ∙ ap (slice_index firsts) v-is in
    let next : c.goto_of-to.result + 1 ≡ suc v = omega (arith, v-is) in
    let to : c.index-2.result.now ≡ slice_index firsts (suc v) = get_or_read firsts (c.goto_of-to.result + 1) c.index-2.result.now (omega (arith, low, count, next)) c.index-2.ensures 0 ∙ ap (slice_index firsts) next in
    λ m n l k h. subst (λ (ns : List Node). Before (node_at ns m).item (node_at ns n).item) (sym c.deref-2.ensures.value) (nodes-rise g kernels cores moves origins whole nodes firsts laid v m n low (omega (arith, l, from)) k (omega (arith, h, to)))

pub link_item-requires-clause-order : goal.link_item-requires-clause-order
link_item-requires-clause-order c =
    let g = c.args.g.now in
    let nodes : List Node = c.args.layout.now.nodes.items in
    let firsts : List ℕ = c.args.layout.now.firsts.items in
    let moves : List (List Move) = c.args.automaton.now.moves.items in
    let kernels = map (λ k. k.items) c.args.automaton.now.kernels.keys in
    let cores : List (List Item) = c.args.automaton.now.cores.items in
    let origins = c.args.automaton.now.origins.items in
    let a = c.args.a in
    let there = c.requires.there in
    let laid = c.requires.laid in
    let whole = c.requires.whole in
    let is : c.index-node.result.now ≡ node_at nodes a = get_or_read nodes a c.index-node.result.now there c.index-node.ensures (node 0 (item 0 0)) in
    let x = c.in-Some.x in
    let symbol : symbol_of g (node_at nodes a).item ≡ Some x = ap (λ (n : Node). symbol_of g n.item) (sym is) ∙ (sym c.symbol_of.ensures.symbol ∙ c.in-Some.is) in
    let v = goto moves (node_at nodes a).state x in
    let low : v < length cores = node-target g kernels cores moves origins whole nodes firsts laid a x there symbol in
    let v-is : c.goto_of-to.result ≡ v = c.goto_of-to.ensures ∙ ap (λ ms. goto ms c.index-node.result.now.state x) c.deref.ensures.value ∙ ap (λ (n : Node). goto moves n.state x) is in
    let count = laid.count in
    let long = c.args.layout.now.firsts.ok.0 in
    let from : c.index.result.now ≡ slice_index firsts v = get_or_read firsts c.goto_of-to.result c.index.result.now (omega (arith, low, count, v-is)) c.index.ensures 0 ∙ ap (slice_index firsts) v-is in
    let next : c.goto_of-to.result + 1 ≡ suc v = omega (arith, v-is) in
    let to : c.index-2.result.now ≡ slice_index firsts (suc v) = get_or_read firsts (c.goto_of-to.result + 1) c.index-2.result.now (omega (arith, low, count, next)) c.index-2.ensures 0 ∙ ap (slice_index firsts) next in
    let r = laid.rising v low in
    omega (arith, r, from, to)

pub link_item-requires-clause-to : goal.link_item-requires-clause-to
link_item-requires-clause-to c =
    let g = c.args.g.now in
    let nodes : List Node = c.args.layout.now.nodes.items in
    let firsts : List ℕ = c.args.layout.now.firsts.items in
    let moves : List (List Move) = c.args.automaton.now.moves.items in
    let kernels = map (λ k. k.items) c.args.automaton.now.kernels.keys in
    let cores : List (List Item) = c.args.automaton.now.cores.items in
    let origins = c.args.automaton.now.origins.items in
    let a = c.args.a in
    let there = c.requires.there in
    let laid = c.requires.laid in
    let whole = c.requires.whole in
    let is : c.index-node.result.now ≡ node_at nodes a = get_or_read nodes a c.index-node.result.now there c.index-node.ensures (node 0 (item 0 0)) in
    let x = c.in-Some.x in
    let symbol : symbol_of g (node_at nodes a).item ≡ Some x = ap (λ (n : Node). symbol_of g n.item) (sym is) ∙ (sym c.symbol_of.ensures.symbol ∙ c.in-Some.is) in
    let v = goto moves (node_at nodes a).state x in
    let low : v < length cores = node-target g kernels cores moves origins whole nodes firsts laid a x there symbol in
    let v-is : c.goto_of-to.result ≡ v = c.goto_of-to.ensures ∙ ap (λ ms. goto ms c.index-node.result.now.state x) c.deref.ensures.value ∙ ap (λ (n : Node). goto moves n.state x) is in
    let count = laid.count in
    let long = c.args.layout.now.firsts.ok.0 in
    let from : c.index.result.now ≡ slice_index firsts v = get_or_read firsts c.goto_of-to.result c.index.result.now (omega (arith, low, count, v-is)) c.index.ensures 0 ∙ ap (slice_index firsts) v-is in
    let next : c.goto_of-to.result + 1 ≡ suc v = omega (arith, v-is) in
    let to : c.index-2.result.now ≡ slice_index firsts (suc v) = get_or_read firsts (c.goto_of-to.result + 1) c.index-2.result.now (omega (arith, low, count, next)) c.index-2.ensures 0 ∙ ap (slice_index firsts) next in
    let w = laid.within (suc v) (omega (arith, low)) in
    omega (arith, w, to, ap length c.deref-2.ensures.value)

pub returns-in_ok-open_node-clause-links : goal.returns-in_ok-open_node-clause-links
returns-in_ok-open_node-clause-links c =
    let g = c.args.g.now in
    let nodes : List Node = c.args.layout.now.nodes.items in
    let firsts : List ℕ = c.args.layout.now.firsts.items in
    let moves : List (List Move) = c.args.automaton.now.moves.items in
    let kernels = map (λ k. k.items) c.args.automaton.now.kernels.keys in
    let cores : List (List Item) = c.args.automaton.now.cores.items in
    let origins = c.args.automaton.now.origins.items in
    let a = c.args.a in
    let there = c.requires.there in
    let laid = c.requires.laid in
    let whole = c.requires.whole in
    let is : c.index-node.result.now ≡ node_at nodes a = get_or_read nodes a c.index-node.result.now there c.index-node.ensures (node 0 (item 0 0)) in
    let x = c.in-Some.x in
    let symbol : symbol_of g (node_at nodes a).item ≡ Some x = ap (λ (n : Node). symbol_of g n.item) (sym is) ∙ (sym c.symbol_of.ensures.symbol ∙ c.in-Some.is) in
    let v = goto moves (node_at nodes a).state x in
    let low : v < length cores = node-target g kernels cores moves origins whole nodes firsts laid a x there symbol in
    let v-is : c.goto_of-to.result ≡ v = c.goto_of-to.ensures ∙ ap (λ ms. goto ms c.index-node.result.now.state x) c.deref.ensures.value ∙ ap (λ (n : Node). goto moves n.state x) is in
    let count = laid.count in
    let long = c.args.layout.now.firsts.ok.0 in
    let from : c.index.result.now ≡ slice_index firsts v = get_or_read firsts c.goto_of-to.result c.index.result.now (omega (arith, low, count, v-is)) c.index.ensures 0 ∙ ap (slice_index firsts) v-is in
    let next : c.goto_of-to.result + 1 ≡ suc v = omega (arith, v-is) in
    let to : c.index-2.result.now ≡ slice_index firsts (suc v) = get_or_read firsts (c.goto_of-to.result + 1) c.index-2.result.now (omega (arith, low, count, next)) c.index-2.ensures 0 ∙ ap (slice_index firsts) next in
    let old = c.args.flow.now.links.items in
    let mid = c.link_item.new.links.items in
    let it : c.index-node.result.now.item.dot + 1 ≡ suc (node_at nodes a).item.dot = (let e = ap (λ (n : Node). n.item.dot) is in omega (arith, e)) in
    let target : item c.index-node.result.now.item.production (c.index-node.result.now.item.dot + 1) ≡ moved (node_at nodes a).item = (λ i. item (is i).item.production (it i)) in
    let slots = c.args.slots.now in
    let at = c.deref-2.ensures.value in
    let joined : Joined old mid slots a (λ y. (slice_index firsts v ≤ y) × (y < slice_index firsts (suc v)) × ((node_at nodes y).item ≡ moved (node_at nodes a).item)) =
    joined-as old mid slots a (λ y. (c.index.result.now ≤ y) × (y < c.index-2.result.now) × ((node_at c.deref-2.result.now y).item ≡ item c.index-node.result.now.item.production (c.index-node.result.now.item.dot + 1)))
    (λ y. (slice_index firsts v ≤ y) × (y < slice_index firsts (suc v)) × ((node_at nodes y).item ≡ moved (node_at nodes a).item))
    (λ y l. (
      λ h. (subst (λ z. z ≤ y) from h.0, subst (λ z. y < z) to h.1, sym (ap (λ ns. (node_at ns y).item) at) ∙ h.2 ∙ target),
      λ h. (subst (λ z. z ≤ y) (sym from) h.0, subst (λ z. y < z) (sym to) h.1, ap (λ ns. (node_at ns y).item) at ∙ h.2 ∙ sym target),
    )) c.in_ok-link_item.ensures in
    flows-open g moves cores nodes firsts laid a x there symbol low slots (c.requires.slots).long old mid c.open_node.new.flow.links.items joined c.in_ok-open_node.ensures.links

pub returns-else-x-terminals-clause-links : goal.returns-else-x-terminals-clause-links
returns-else-x-terminals-clause-links c =
    let g = c.args.g.now in
    let nodes : List Node = c.args.layout.now.nodes.items in
    let firsts : List ℕ = c.args.layout.now.firsts.items in
    let moves : List (List Move) = c.args.automaton.now.moves.items in
    let kernels = map (λ k. k.items) c.args.automaton.now.kernels.keys in
    let cores : List (List Item) = c.args.automaton.now.cores.items in
    let origins = c.args.automaton.now.origins.items in
    let a = c.args.a in
    let there = c.requires.there in
    let laid = c.requires.laid in
    let whole = c.requires.whole in
    let is : c.index-node.result.now ≡ node_at nodes a = get_or_read nodes a c.index-node.result.now there c.index-node.ensures (node 0 (item 0 0)) in
    let x = c.in-Some.x in
    let symbol : symbol_of g (node_at nodes a).item ≡ Some x = ap (λ (n : Node). symbol_of g n.item) (sym is) ∙ (sym c.symbol_of.ensures.symbol ∙ c.in-Some.is) in
    let v = goto moves (node_at nodes a).state x in
    let low : v < length cores = node-target g kernels cores moves origins whole nodes firsts laid a x there symbol in
    let v-is : c.goto_of-to.result ≡ v = c.goto_of-to.ensures ∙ ap (λ ms. goto ms c.index-node.result.now.state x) c.deref.ensures.value ∙ ap (λ (n : Node). goto moves n.state x) is in
    let count = laid.count in
    let long = c.args.layout.now.firsts.ok.0 in
    let from : c.index.result.now ≡ slice_index firsts v = get_or_read firsts c.goto_of-to.result c.index.result.now (omega (arith, low, count, v-is)) c.index.ensures 0 ∙ ap (slice_index firsts) v-is in
    let next : c.goto_of-to.result + 1 ≡ suc v = omega (arith, v-is) in
    let to : c.index-2.result.now ≡ slice_index firsts (suc v) = get_or_read firsts (c.goto_of-to.result + 1) c.index-2.result.now (omega (arith, low, count, next)) c.index-2.ensures 0 ∙ ap (slice_index firsts) next in
    let old = c.args.flow.now.links.items in
    let mid = c.link_item.new.links.items in
    let it : c.index-node.result.now.item.dot + 1 ≡ suc (node_at nodes a).item.dot = (let e = ap (λ (n : Node). n.item.dot) is in omega (arith, e)) in
    let target : item c.index-node.result.now.item.production (c.index-node.result.now.item.dot + 1) ≡ moved (node_at nodes a).item = (λ i. item (is i).item.production (it i)) in
    let slots = c.args.slots.now in
    let at = c.deref-2.ensures.value in
    let joined : Joined old mid slots a (λ y. (slice_index firsts v ≤ y) × (y < slice_index firsts (suc v)) × ((node_at nodes y).item ≡ moved (node_at nodes a).item)) =
    joined-as old mid slots a (λ y. (c.index.result.now ≤ y) × (y < c.index-2.result.now) × ((node_at c.deref-2.result.now y).item ≡ item c.index-node.result.now.item.production (c.index-node.result.now.item.dot + 1)))
    (λ y. (slice_index firsts v ≤ y) × (y < slice_index firsts (suc v)) × ((node_at nodes y).item ≡ moved (node_at nodes a).item))
    (λ y l. (
      λ h. (subst (λ z. z ≤ y) from h.0, subst (λ z. y < z) to h.1, sym (ap (λ ns. (node_at ns y).item) at) ∙ h.2 ∙ target),
      λ h. (subst (λ z. z ≤ y) (sym from) h.0, subst (λ z. y < z) (sym to) h.1, ap (λ ns. (node_at ns y).item) at ∙ h.2 ∙ sym target),
    )) c.in_ok-link_item.ensures in
    flows-shut g moves cores nodes firsts laid a x there symbol low slots (c.requires.slots).long old mid c.sound.ensures (let t = c.terminals.ensures in let f = c.if-x-terminals.false in omega (arith, t, f)) joined

pub returns-else-x-terminals-clause-seeds : goal.returns-else-x-terminals-clause-seeds
returns-else-x-terminals-clause-seeds c =
    let g = c.args.g.now in
    let nodes : List Node = c.args.layout.now.nodes.items in
    let firsts : List ℕ = c.args.layout.now.firsts.items in
    let moves : List (List Move) = c.args.automaton.now.moves.items in
    let kernels = map (λ k. k.items) c.args.automaton.now.kernels.keys in
    let cores : List (List Item) = c.args.automaton.now.cores.items in
    let origins = c.args.automaton.now.origins.items in
    let a = c.args.a in
    let there = c.requires.there in
    let laid = c.requires.laid in
    let whole = c.requires.whole in
    let is : c.index-node.result.now ≡ node_at nodes a = get_or_read nodes a c.index-node.result.now there c.index-node.ensures (node 0 (item 0 0)) in
    let x = c.in-Some.x in
    let symbol : symbol_of g (node_at nodes a).item ≡ Some x = ap (λ (n : Node). symbol_of g n.item) (sym is) ∙ (sym c.symbol_of.ensures.symbol ∙ c.in-Some.is) in
    let v = goto moves (node_at nodes a).state x in
    let low : v < length cores = node-target g kernels cores moves origins whole nodes firsts laid a x there symbol in
    let v-is : c.goto_of-to.result ≡ v = c.goto_of-to.ensures ∙ ap (λ ms. goto ms c.index-node.result.now.state x) c.deref.ensures.value ∙ ap (λ (n : Node). goto moves n.state x) is in
    let count = laid.count in
    let long = c.args.layout.now.firsts.ok.0 in
    gives-shut g moves cores nodes firsts laid a x there symbol low c.args.slots.now c.args.flow.now.rows.rows c.sound.ensures (let t = c.terminals.ensures in let f = c.if-x-terminals.false in omega (arith, t, f))

pub open_node-requires-clause-rising : goal.open_node-requires-clause-rising
open_node-requires-clause-rising c =
    let nodes : List Node = c.args.layout.now.nodes.items in
    let firsts : List ℕ = c.args.layout.now.firsts.items in
    let moves : List (List Move) = c.args.automaton.now.moves.items in
    let kernels = map (λ k. k.items) c.args.automaton.now.kernels.keys in
    let cores : List (List Item) = c.args.automaton.now.cores.items in
    let laid = c.requires.laid in
    let count = laid.count in
    λ s m n low. nodes-rise c.args.g.now kernels cores moves c.args.automaton.now.origins.items c.requires.whole nodes firsts laid s m n (omega (arith, low, count))

pub open_node-requires-clause-begun : goal.open_node-requires-clause-begun
open_node-requires-clause-begun c =
    let g = c.args.g.now in
    let nodes : List Node = c.args.layout.now.nodes.items in
    let kernels = map (λ k. k.items) c.args.automaton.now.kernels.keys in
    let a = c.args.a in
    let is : c.index-node.result.now ≡ node_at nodes a = get_or_read nodes a c.index-node.result.now c.requires.there c.index-node.ensures (node 0 (item 0 0)) in
    let symbol : symbol_of g (node_at nodes a).item ≡ Some c.in-Some.x = ap (λ (n : Node). symbol_of g n.item) (sym is) ∙ (sym c.symbol_of.ensures.symbol ∙ c.in-Some.is) in
    node-begun g kernels c.args.automaton.now.cores.items c.args.automaton.now.moves.items c.args.automaton.now.origins.items c.requires.whole nodes c.args.layout.now.firsts.items c.requires.laid a c.in-Some.x c.requires.there symbol

pub open_node-requires-clause-one : goal.open_node-requires-clause-one
open_node-requires-clause-one c =
    c.requires.one (node_at c.args.layout.now.nodes.items c.args.a).state ((c.requires.laid).known c.args.a c.requires.there)

pub link_item-requires-clause-slots : goal.link_item-requires-clause-slots
link_item-requires-clause-slots c = (c.requires.slots).long ∙ sym (ap length c.deref-2.ensures.value)

pub link_item-requires-clause-there : goal.link_item-requires-clause-there
link_item-requires-clause-there c = subst (λ (ns : List Node). c.args.a < length ns) (sym c.deref-2.ensures.value) c.requires.there
