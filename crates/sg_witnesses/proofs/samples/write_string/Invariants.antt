use Rattle.std.proofs.Common.{◌≡◌, ◌++◌, take}
use Rattle.std.specs.Prelude.{flat_map}
use Rattle.sg_witnesses.specs.Samples.{symbol_text}
use Rattle.sg_witnesses.proofs.samples.write_string.Given as goal

abbrev pub invariant-loop-x : goal.invariant-loop-x
invariant-loop-x l = l.out.items ≡ l.initial.out.items ++ flat_map (symbol_text l.symbols) (take l.x-index l.string)
