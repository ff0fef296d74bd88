use Rattle.std.proofs.Common.{◌≡◌, ◌++◌, length, map, take}
use Rattle.sg_ast.specs.declared.decl.Right.{Right}
use Rattle.sg_counts.proofs.limits.add_symbols.Given as goal

abbrev pub invariant-loop-right : goal.invariant-loop-right
invariant-loop-right l = l.found.items ≡ l.initial.found.items ++ map (λ (r : Right). length r.parts) (take l.right-index l.right-items)
