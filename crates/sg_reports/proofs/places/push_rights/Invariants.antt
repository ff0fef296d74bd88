use Rattle.std.proofs.Common.{◌≡◌, ◌++◌, map, take}
use Rattle.sg_ast.specs.Declarations.{Right}
use Rattle.sg_ast.specs.View.{right_of}
use Rattle.sg_reports.proofs.places.push_rights.Given as goal

abbrev pub invariant-loop-right : goal.invariant-loop-right
invariant-loop-right l = l.places.items ≡ l.initial.places.items ++ map (λ (r : Right). r.place) (map right_of (take l.right-index l.rights))
