use Rattle.std.proofs.Common.{◌≡◌, ◌++◌, [], map, take}
use Rattle.sg_known.specs.declared.things.Kind.TheVariants as kind
use Rattle.sg_ast.specs.declared.decl.Alt.{Alt}
use Rattle.sg_known.specs.Things.{named}
use Rattle.sg_known.proofs.things.add_alts.Given as goal

abbrev pub invariant-loop-alt : goal.invariant-loop-alt
invariant-loop-alt l = l.found.items ≡ l.initial.found.items ++ map (λ (a : Alt). named kind.Operator l.phylum.text [] a.name) (take l.alt-index l.alts)
