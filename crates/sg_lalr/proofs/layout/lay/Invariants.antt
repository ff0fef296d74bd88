use Rattle.std.proofs.Common.{take}
use Rattle.sg_lalr.specs.Lookaheads.{IsLaid}
use Rattle.sg_lalr.proofs.layout.lay.Given as goal

abbrev pub invariant-loop-state : goal.invariant-loop-state
invariant-loop-state l = IsLaid (take l.state l.cores) l.nodes.items l.firsts.items
