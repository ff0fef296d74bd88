use Rattle.std.proofs.Common.{◌≡◌, ◌++◌, map, take}
use Rattle.sg_ast.specs.declared.decl.AttrDecl.{AttrDecl}
use Rattle.sg_counts.specs.declared.definitions.Form.TheVariants as form
use Rattle.sg_counts.specs.Definitions.{Attributes}
use Rattle.sg_counts.specs.Duplicates.{defined}
use Rattle.sg_counts.specs.DefinitionsView.{seen_of}
use Rattle.sg_counts.proofs.definitions.add_attributes.Given as goal

abbrev pub invariant-loop-attr : goal.invariant-loop-attr
invariant-loop-attr l = seen_of l.found.items ≡ seen_of l.initial.found.items ++ map (λ (x : AttrDecl). defined form.Alone (Attributes l.owner.text) x.name) (take l.attr-index l.attrs)
