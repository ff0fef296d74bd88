use Rattle.std.proofs.Common.{◌≡◌, length}
use Rattle.sg_lalr.specs.Lookaheads.{node_at, IsStart, Gives, FlowsTo}
use Rattle.sg_lalr.proofs.LinkLemmas.{LinkedTo, SeededTo}
use Rattle.sg_lalr.proofs.lookaheads.all_lookaheads.Given as goal

abbrev pub invariant-loop-a : goal.invariant-loop-a
invariant-loop-a l = record {
  count : length l.flow.rows.rows ≡ l.slots.count;
  width : l.flow.rows.width ≡ l.g.terminals;
  links : LinkedTo l.flow.links.items l.slots.of.items l.a (FlowsTo l.g l.automaton.moves.items l.layout.nodes.items);
  seeds : SeededTo l.flow.rows.rows l.slots.of.items l.a (λ c u. IsStart l.g (node_at l.layout.nodes.items c) × (u ≡ 0)) (Gives l.g l.layout.nodes.items);
}
