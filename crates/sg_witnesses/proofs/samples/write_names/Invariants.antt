use Rattle.std.proofs.Common.{◌≡◌, ◌++◌, take}
use Rattle.std.specs.Prelude.{flat_map}
use Rattle.sg_witnesses.specs.Samples.{name_text}
use Rattle.sg_witnesses.proofs.samples.write_names.Given as goal

abbrev pub invariant-loop-x : goal.invariant-loop-x
invariant-loop-x l = l.out.items ≡ l.initial.out.items ++ flat_map (name_text l.symbols) (take l.x-index l.barren)
