use Rattle.std.proofs.Common.{◌≡◌, ◌++◌, take}
use Rattle.std.specs.Prelude.{flat_map}
use Rattle.sg_missing.specs.Lacks.{lack_text}
use Rattle.sg_missing.proofs.lacks.write_lines.Given as goal

abbrev pub invariant-loop-o : goal.invariant-loop-o
invariant-loop-o l = l.out.items ≡ l.initial.out.items ++ flat_map (lack_text l.names.phyla l.operator l.line) (take l.o-index l.lacking)
