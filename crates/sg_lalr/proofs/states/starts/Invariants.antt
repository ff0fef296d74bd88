use Rattle.std.proofs.Common.{◌≡◌}
use Rattle.sg_lalr.specs.Automaton.{starts_from}
use Rattle.sg_lalr.proofs.states.starts.Given as goal

abbrev pub invariant-loop-k : goal.invariant-loop-k
invariant-loop-k l = l.items.items ≡ starts_from l.first l.k
