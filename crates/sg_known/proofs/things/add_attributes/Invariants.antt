use Rattle.std.proofs.Common.{◌≡◌, ◌++◌, [], map, take}
use Rattle.sg_known.specs.declared.things.Kind.TheVariants as kind
use Rattle.sg_ast.specs.declared.decl.AttrDecl.{AttrDecl}
use Rattle.sg_known.specs.Things.{named}
use Rattle.sg_known.proofs.things.add_attributes.Given as goal

abbrev pub invariant-loop-attr : goal.invariant-loop-attr
invariant-loop-attr l = l.found.items ≡ l.initial.found.items ++ map (λ (a : AttrDecl). named kind.Attribute l.owner.text [] a.name) (take l.attr-index l.attrs)
