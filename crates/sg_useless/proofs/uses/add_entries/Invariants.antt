use Rattle.std.proofs.Common.{◌≡◌, ◌++◌, drop}
use Rattle.std.specs.Prelude.{flat_map}
use Rattle.sg_useless.specs.Uses.{entry_uses}
use Rattle.sg_useless.proofs.uses.add_entries.Given as goal

abbrev pub invariant-loop-entry : goal.invariant-loop-entry
invariant-loop-entry l = l.uses.items ++ flat_map (entry_uses) (drop l.entry-index l.entries) ≡ l.initial.uses.items ++ flat_map (entry_uses) l.entries
