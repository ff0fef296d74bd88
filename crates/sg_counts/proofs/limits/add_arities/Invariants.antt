use Rattle.std.proofs.Common.{◌≡◌, ◌++◌, length, map, take}
use Rattle.sg_ast.specs.declared.decl.Alt.{Alt}
use Rattle.sg_counts.proofs.limits.add_arities.Given as goal

abbrev pub invariant-loop-alt : goal.invariant-loop-alt
invariant-loop-alt l = l.found.items ≡ l.initial.found.items ++ map (λ (a : Alt). length a.args) (take l.alt-index l.alt-items)
