use Rattle.std.proofs.Common.{◌≡◌, ◌++◌, map, take}
use Rattle.sg_ast.specs.declared.name.Typed.{Typed}
use Rattle.sg_counts.specs.declared.definitions.Form.TheVariants as form
use Rattle.sg_counts.specs.Definitions.{Locals}
use Rattle.sg_counts.specs.Duplicates.{defined}
use Rattle.sg_counts.specs.DefinitionsView.{seen_of}
use Rattle.sg_counts.proofs.definitions.add_locals.Given as goal

abbrev pub invariant-loop-local : goal.invariant-loop-local
invariant-loop-local l = seen_of l.found.items ≡ seen_of l.initial.found.items ++ map (λ (x : Typed). defined form.Alone (Locals l.phylum.text l.op.text) x.name) (take l.local-index l.locals)
