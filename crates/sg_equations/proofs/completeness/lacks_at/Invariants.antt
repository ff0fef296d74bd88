use Rattle.std.proofs.Common.{◌≡◌, List, false}
use Rattle.std.specs.List.{list_any}
use Rattle.sg_kinds.specs.Instances.{below}
use Rattle.sg_equations.specs.declared.targets.Defined.{Defined}
use Rattle.sg_equations.specs.Complete.{lacks_slot}
use Rattle.sg_equations.specs.Keys.{AreSeen}
use Rattle.sg_equations.proofs.completeness.lacks_at.Given as goal

abbrev pub invariant-loop-slot : goal.invariant-loop-slot
invariant-loop-slot l = (defs : List Defined) → AreSeen defs l.seen → list_any (lacks_slot l.names defs l.op l.at) (below l.slot) ≡ false
