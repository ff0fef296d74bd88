use Rattle.std.proofs.Common.{◌≡◌, ◌++◌, map, take}
use Rattle.sg_kinds.specs.declared.spec.Local.{Local}
use Rattle.sg_kinds.specs.declared.fault.PrintedVertex.TheVariants as vertex
use Rattle.sg_reports.proofs.vertices.push_locals.Given as goal

abbrev pub invariant-loop-local : goal.invariant-loop-local
invariant-loop-local l = l.vertices.items ≡ l.initial.vertices.items ++ map (λ (x : Local). vertex.Local x.name) (take l.local-index l.locals)
