use Rattle.std.proofs.Common.{◌≡◌, ◌++◌, [], map, take}
use Rattle.sg_known.specs.declared.things.Kind.TheVariants as kind
use Rattle.sg_ast.specs.declared.name.Typed.{Typed}
use Rattle.sg_known.specs.Things.{named}
use Rattle.sg_known.proofs.things.add_params.Given as goal

abbrev pub invariant-loop-param : goal.invariant-loop-param
invariant-loop-param l = l.found.items ≡ l.initial.found.items ++ map (λ (p : Typed). named kind.Parameter l.function.text [] p.name) (take l.param-index l.params)
