use Rattle.std.proofs.Common.{◌≡◌, take, flat_map}
use Rattle.sg_ast.specs.View.{tree_of}
use Rattle.sg_equations.specs.Targets.{defined_at}
use Rattle.sg_equations.proofs.targets.targets_in.Given as goal

abbrev pub invariant-loop-decl : goal.invariant-loop-decl
invariant-loop-decl l = l.defined.items ≡ flat_map (λ d. defined_at l.names (tree_of d)) (take l.decl-index l.decls)
