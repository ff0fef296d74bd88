use Rattle.std.proofs.Common.{◌≡◌, ℕ, ◌≤◌, ◌-◌, [], length, map}
use Rattle.sg_lalr.specs.Automaton.{IsPart, row_at}
use Rattle.sg_lalr.proofs.states.all_states.Given as goal

abbrev pub invariant-states : goal.invariant-states
invariant-states l = record {
  part : IsPart l.g (map (λ k. k.items) l.automaton.kernels.keys) l.automaton.cores.items l.automaton.moves.items l.automaton.origins.items;
  moves : length l.automaton.moves.items ≡ length l.automaton.cores.items;
  rows : length l.rows.items ≡ l.g.symbols;
  empty : (X : ℕ) → row_at (map (λ k. k.items) l.rows.items) X ≡ [];
  few : length l.automaton.kernels.keys ≤ 65536;
}

abbrev pub decreases-states : goal.decreases-states
decreases-states l = 65536 - length l.automaton.cores.items
