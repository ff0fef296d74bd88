use Rattle.std.proofs.Common.{◌≡◌, ◌++◌, map, drop}
use Rattle.sg_ast.specs.declared.name.Typed.{Typed}
use Rattle.sg_names.specs.Heads.{number_in}
use Rattle.sg_tables.proofs.definitions.parameters.Given as goal

abbrev pub invariant-loop-param : goal.invariant-loop-param
invariant-loop-param l = l.numbers.items ++ map (λ (p : Typed). number_in l.phyla p.of.text) (drop l.param-index l.params) ≡ map (λ (p : Typed). number_in l.phyla p.of.text) l.params
