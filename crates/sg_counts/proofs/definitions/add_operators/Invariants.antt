use Rattle.std.proofs.Common.{◌≡◌, ◌++◌, map, take}
use Rattle.sg_ast.specs.declared.decl.Alt.{Alt}
use Rattle.sg_counts.specs.declared.definitions.Form.TheVariants as form
use Rattle.sg_counts.specs.Definitions.{Callables}
use Rattle.sg_counts.specs.Duplicates.{defined}
use Rattle.sg_counts.specs.DefinitionsView.{seen_of}
use Rattle.sg_counts.proofs.definitions.add_operators.Given as goal

abbrev pub invariant-loop-alt : goal.invariant-loop-alt
invariant-loop-alt l = seen_of l.found.items ≡ seen_of l.initial.found.items ++ map (λ (x : Alt). defined form.Alone Callables x.name) (take l.alt-index l.alts)
