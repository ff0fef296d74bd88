use Rattle.std.proofs.Common.{◌≡◌, ◌++◌, map, drop}
use Rattle.sg_names.specs.Names.{operator}
use Rattle.sg_tables.proofs.definitions.add_alts.Given as goal

abbrev pub invariant-loop-alt : goal.invariant-loop-alt
invariant-loop-alt l = l.ops.items ++ map (operator l.phyla l.name) (drop l.alt-index l.alts) ≡ l.fn.ops.items ++ map (operator l.phyla l.name) l.alts
