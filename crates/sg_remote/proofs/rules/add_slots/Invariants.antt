use Rattle.std.proofs.Common.{◌≡◌, ◌++◌, drop}
use Rattle.sg_remote.specs.Handing.{slot_rules}
use Rattle.sg_remote.proofs.rules.add_slots.Given as goal

abbrev pub invariant-loop-slot : goal.invariant-loop-slot
invariant-loop-slot l =
    l.rules.items ++ slot_rules l.names l.expr l.op l.at l.slot (drop l.slot l.attrs) ≡ l.initial.rules.items ++ slot_rules l.names l.expr l.op l.at 0 l.attrs
