use Rattle.std.proofs.Common.{◌≡◌, suc, ◌<◌, inl, inr, false, List, sym, ap, ◌∙◌, subst, length, map, arith}
use Rattle.std.specs.Prelude.{All, slice_index, replicate}
use Rattle.std.proofs.lemmas.List.{length-replicate, get_or_default}
use Rattle.sg_sets.specs.Paths.{Linked}
use Rattle.sg_sets.specs.Rows.{Holds, Table, AreRows}
use Rattle.sg_lalr.specs.declared.lookaheads.Node.{Node}
use Rattle.sg_lalr.specs.Items.{Item}
use Rattle.sg_lalr.specs.Lookaheads.{node_at, IsStart, IsLaid, Gives, FlowsTo, AreLookaheads}
use Rattle.sg_lalr.specs.Slots.{AreSlots, IsOneEach, Joined, Gained}
use Rattle.sg_lalr.proofs.RisingLemmas.{Contains-nil}
use Rattle.sg_lalr.proofs.LinkLemmas.{LinkedTo, links-more, seeds-more, links-rows, rows-none}
use Rattle.sg_lalr.proofs.LookLemmas.{rows-exact}
use Rattle.sg_lalr.proofs.lookaheads.all_lookaheads.Goals as goal

pub loop-a-init : goal.loop-a-init
loop-a-init c =
    let g = c.args.g.now in
    let nodes : List Node = c.in_ok-layout.layout.nodes.items in
    let slots = c.in_ok-slots.slots in
    let made = c.in_ok-new.ensures in
    let long = length-replicate slots.count (replicate c.terminals.result false) in
    let rows : length c.in_ok-new.field-0.rows ≡ length (replicate slots.count (replicate c.terminals.result false)) = ap (λ (t : Table). length t.rows) made in
    let none = c.in_ok-with_capacity.ensures.items in
    let old = c.in_ok-new.field-0.rows in
    let new = c.seed_starts.new.rows.rows in
    let gains1 = subst (λ (ns : List Node). Gained old new c.deref-4.result.now (λ d u. IsStart g (node_at ns d) × (u ≡ 0))) c.deref-3.ensures.value c.seed_starts.ensures.gains in
    let gains = subst (λ ss. Gained old new ss (λ d u. IsStart g (node_at nodes d) × (u ≡ 0))) c.deref-4.ensures.value gains1 in
    record {
      count = let s = c.seed_starts.ensures.shape.count in omega (arith, s, rows, long);
      width = c.seed_starts.ensures.shape.width ∙ ap (λ (t : Table). t.width) made ∙ c.terminals.ensures;
      links = λ b d. (λ h. absurd (Contains-nil (b, d) (subst (λ ls. Linked ls b d) none h)), λ h. absurd (let l = h.1 in omega (arith, l)));
      seeds = λ y u. (
        λ h. elim ((gains y u).0 h) [
          | inl was ↦ absurd (rows-none slots.count c.terminals.result y u (subst (λ (t : Table). Holds t.rows y u) made was))
          | inr start ↦ inl start
        ],
        λ h. elim h [
          | inl start ↦ (gains y u).1 (inr start)
          | inr given ↦ absurd (let l = given.1 in omega (arith, l))
        ],
      );
    }

pub loop-a-preserved : goal.loop-a-preserved
loop-a-preserved c =
    let g = c.args.g.now in
    let nodes : List Node = c.in_ok-layout.layout.nodes.items in
    let slots = c.in_ok-slots.slots.of.items in
    let moves = c.args.automaton.now.moves.items in
    let shape = c.in_ok-link_node.ensures.shape in
    let at = c.deref-in-loop-a.ensures.value in
    let a = c.loop-a.a in
    record {
      count = shape.count ∙ c.loop-a.invariant.count;
      width = shape.width ∙ c.loop-a.invariant.width;
      links = links-more c.loop-a.flow.links.items c.link_node.new.flow.links.items slots a (FlowsTo g moves nodes) c.loop-a.invariant.links
          (subst (λ ss. Joined c.loop-a.flow.links.items c.link_node.new.flow.links.items ss a (FlowsTo g moves nodes a)) at c.in_ok-link_node.ensures.links);
      seeds = seeds-more c.loop-a.flow.rows.rows c.link_node.new.flow.rows.rows slots a (λ d u. IsStart g (node_at nodes d) × (u ≡ 0)) (Gives g nodes) c.loop-a.invariant.seeds
          (subst (λ ss. Gained c.loop-a.flow.rows.rows c.link_node.new.flow.rows.rows ss (Gives g nodes a)) at c.in_ok-link_node.ensures.seeds);
    }

pub link_node-requires-clause-slots : goal.link_node-requires-clause-slots
link_node-requires-clause-slots c =
    let g = c.args.g.now in
    let nodes : List Node = c.in_ok-layout.layout.nodes.items in
    subst (λ ss. AreSlots g nodes (length nodes) ss (length c.loop-a.flow.rows.rows)) (sym c.deref-in-loop-a.ensures.value)
    (subst (AreSlots g nodes (length nodes) c.in_ok-slots.slots.of.items) (sym c.loop-a.invariant.count) c.in_ok-slots.ensures.slots)

pub link_node-requires-clause-one : goal.link_node-requires-clause-one
link_node-requires-clause-one c =
    let g = c.args.g.now in
    let nodes : List Node = c.in_ok-layout.layout.nodes.items in
    let firsts = c.in_ok-layout.layout.firsts.items in
    λ t l. subst (λ ss. IsOneEach g nodes (slice_index firsts t) (slice_index firsts (suc t)) ss) (sym c.deref-in-loop-a.ensures.value)
    (c.in_ok-slots.ensures.one t (subst (λ (cs : List (List Item)). t < length cs) (sym c.deref-2.ensures.value) l))

pub flow-requires : goal.flow-requires
flow-requires c =
    let g = c.args.g.now in
    let nodes : List Node = c.in_ok-layout.layout.nodes.items in
    let moves = c.args.automaton.now.moves.items in
    let count : c.len-count.result ≡ length nodes = c.len-count.ensures ∙ c.in_ok-layout.layout.nodes.ok.0 in
    let are = c.in_ok-slots.ensures.slots in
    let rows = c.loop-a.invariant.count in
    let long = are.long in
    subst (All (AreRows c.loop-a.flow.rows.rows)) (sym c.deref-5.ensures.value)
    (links-rows c.loop-a.flow.links.items c.in_ok-slots.slots.of.items c.loop-a.flow.rows.rows c.loop-a.a (FlowsTo g moves nodes) c.loop-a.invariant.links (omega (arith, count, long))
    (λ m l. let w = are.within m (omega (arith, l, long)) in omega (arith, w, rows)))

pub returns-clause-exact : goal.returns-clause-exact
returns-clause-exact c =
    let g = c.args.g.now in
    let nodes : List Node = c.in_ok-layout.layout.nodes.items in
    let moves = c.args.automaton.now.moves.items in
    let kernels = map (λ k. k.items) c.args.automaton.now.kernels.keys in
    let slots = c.in_ok-slots.slots in
    let count : c.len-count.result ≡ length nodes = c.len-count.ensures ∙ c.in_ok-layout.layout.nodes.ok.0 in
    let links = c.deref-5.ensures.value in
    let exact = rows-exact g kernels c.args.automaton.now.cores.items moves c.args.automaton.now.origins.items c.requires.whole nodes c.in_ok-layout.layout.firsts.items (subst (λ cs. IsLaid cs nodes c.in_ok-layout.layout.firsts.items) c.deref.ensures.value c.in_ok-layout.ensures) c.sound.ensures c.requires.productive c.requires.entry
    slots.of.items c.loop-a.flow.rows.rows c.flow.new.self.rows c.deref-5.result.now slots.count c.in_ok-slots.ensures.slots c.loop-a.a (omega (arith, count)) (omega (arith, count))
    (subst (λ ls. LinkedTo ls slots.of.items c.loop-a.a (FlowsTo g moves nodes)) (sym links) c.loop-a.invariant.links) c.loop-a.invariant.seeds c.flow.ensures.flows in
    subst (λ (t : Table). AreLookaheads g moves nodes t.rows) (sym c.new-2.ensures) exact

pub new-requires-2 : goal.new-requires-2
new-requires-2 c =
    let slots = c.in_ok-slots.slots in
    let are = c.in_ok-slots.ensures.slots in
    let long = are.long in
    let shape = c.flow.ensures.shape.count in
    let rows = c.loop-a.invariant.count in
    λ k d l.
    let w = are.within k (omega (arith, l, long)) in
    let e = get_or_default slots.of.items k d 0 l in
    omega (arith, w, e, shape, rows)
