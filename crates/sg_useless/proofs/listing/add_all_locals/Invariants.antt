use Rattle.std.proofs.Common.{◌≡◌, ◌++◌, drop}
use Rattle.sg_useless.specs.Uses.{numbered}
use Rattle.sg_useless.specs.Useless.{locals_in}
use Rattle.sg_useless.proofs.listing.add_all_locals.Given as goal

abbrev pub invariant-loop-op : goal.invariant-loop-op
invariant-loop-op l = l.parts.items ++ numbered (locals_in) l.op (drop l.op l.ops) ≡ l.initial.parts.items ++ numbered (locals_in) 0 l.ops
