use Rattle.std.proofs.Common.{ℕ, ◌≤◌, ◌++◌, List, length}
use Rattle.sg_lalr.specs.Automaton.{FoundBy}
use Rattle.sg_lalr.proofs.search.prefix_of.Given as goal

abbrev pub invariant-origins : goal.invariant-origins
invariant-origins l = (l.at ≤ length l.origins) × ((w : List ℕ) → FoundBy l.origins l.at w → FoundBy l.origins l.state (l.symbols.items ++ w))

abbrev pub decreases-origins : goal.decreases-origins
decreases-origins l = l.at
