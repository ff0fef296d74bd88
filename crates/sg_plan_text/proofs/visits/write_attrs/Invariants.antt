use Rattle.std.proofs.Common.{◌≡◌, ◌++◌, drop}
use Rattle.sg_useless.specs.Uses.{numbered}
use Rattle.sg_plan_text.specs.Plan.{attr_text}
use Rattle.sg_plan_text.proofs.visits.write_attrs.Given as goal

abbrev pub invariant-loop-slot : goal.invariant-loop-slot
invariant-loop-slot l = l.out.items ++ numbered (attr_text l.visits l.taken l.j) l.slot (drop l.slot l.attrs) ≡ l.initial.out.items ++ numbered (attr_text l.visits l.taken l.j) 0 l.attrs
