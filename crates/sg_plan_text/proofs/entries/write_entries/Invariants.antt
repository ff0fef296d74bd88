use Rattle.std.proofs.Common.{◌≡◌, ◌++◌, take}
use Rattle.std.specs.Prelude.{flat_map}
use Rattle.sg_plan_text.specs.Plan.{entry_text}
use Rattle.sg_plan_text.proofs.entries.write_entries.Given as goal

abbrev pub invariant-loop-entry : goal.invariant-loop-entry
invariant-loop-entry l = l.out.items ≡ l.initial.out.items ++ flat_map (entry_text l.spec) (take l.entry-index l.spec.entries)
