use Rattle.std.proofs.Common.{◌≡◌, ◌++◌, [], map, take}
use Rattle.sg_known.specs.declared.things.Kind.TheVariants as kind
use Rattle.sg_ast.specs.declared.name.Typed.{Typed}
use Rattle.sg_known.specs.Things.{named}
use Rattle.sg_known.proofs.things.add_locals.Given as goal

abbrev pub invariant-loop-local : goal.invariant-loop-local
invariant-loop-local l = l.found.items ≡ l.initial.found.items ++ map (λ (x : Typed). named kind.Local l.op.text l.phylum.text x.name) (take l.local-index l.locals)
