use Rattle.std.proofs.Common.{◌≡◌, ◌++◌, map, take}
use Rattle.sg_lalr.specs.Lookaheads.{node}
use Rattle.sg_lalr.proofs.layout.push_core.Given as goal

abbrev pub invariant-loop-item : goal.invariant-loop-item
invariant-loop-item l = l.nodes.items ≡ l.initial.nodes.items ++ map (node l.state) (take l.item-index l.core)
