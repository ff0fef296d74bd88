use Rattle.std.proofs.Common.{◌≡◌, length}
use Rattle.sg_lalr.specs.Clashes.{IsClearBelow}
use Rattle.sg_lalr.proofs.search.least_conflict.Given as goal

abbrev pub invariant-loop-state : goal.invariant-loop-state
invariant-loop-state l = (length l.taken ≡ l.g.terminals) × IsClearBelow l.g l.looks.layout.nodes.items l.looks.layout.firsts.items l.looks.rows.rows l.state
