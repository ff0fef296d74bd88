use Rattle.std.proofs.Common.{◌≡◌, ◌++◌, map, drop}
use Rattle.sg_ast.specs.declared.name.Name.{Name}
use Rattle.sg_names.specs.Heads.{number_in, numbers_in}
use Rattle.sg_tables.proofs.definitions.arguments.Given as goal

abbrev pub invariant-loop-name : goal.invariant-loop-name
invariant-loop-name l = l.numbers.items ++ map (λ (n : Name). number_in l.phyla n.text) (drop l.name-index l.names) ≡ numbers_in l.phyla l.names
