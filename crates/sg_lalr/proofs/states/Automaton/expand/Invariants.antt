use Rattle.std.proofs.Common.{◌≡◌, ◌++◌, ◌∷◌, [], ◌<◌, ◌≤◌, length, map, get_or}
use Rattle.sg_lalr.proofs.PartLemmas.{Expanding}
use Rattle.sg_lalr.proofs.SpreadLemmas.{IsLeft}
use Rattle.sg_lalr.proofs.states.Automaton.expand.Given as goal

abbrev pub invariant-loop-x : goal.invariant-loop-x
invariant-loop-x l = record {
  expanding : Expanding l.g (map (λ k. k.items) l.self.kernels.keys) (l.self.cores.items ++ l.core.items ∷ []) l.self.moves.items l.self.origins.items l.row.items l.state (get_or l.x-items l.x-index l.g.symbols);
  left : IsLeft l.g l.core.items l.x-items l.x-index (map (λ k. k.items) l.rows.items);
  cores : length l.self.cores.items ≡ l.state;
  moves : length l.self.moves.items ≡ l.state;
  state : l.state ≡ length l.fn.self.cores.items;
  few : length l.self.kernels.keys ≤ 65536;
  short : l.state < 65536;
}
