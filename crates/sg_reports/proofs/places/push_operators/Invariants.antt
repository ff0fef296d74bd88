use Rattle.std.proofs.Common.{◌≡◌, ◌++◌, map, take}
use Rattle.sg_ast.specs.declared.decl.Alt.{Alt}
use Rattle.sg_reports.proofs.places.push_operators.Given as goal

abbrev pub invariant-loop-alt : goal.invariant-loop-alt
invariant-loop-alt l = l.places.items ≡ l.initial.places.items ++ map (λ (a : Alt). a.name.place) (take l.alt-index l.alts)
