use Rattle.std.proofs.Common.{◌≡◌, ◌++◌, map, take}
use Rattle.sg_kinds.specs.declared.spec.Attr.{Attr}
use Rattle.sg_kinds.specs.declared.fault.PrintedVertex.TheVariants as vertex
use Rattle.sg_kinds.specs.Specification.{phylum_name}
use Rattle.sg_reports.proofs.vertices.push_occurrence.Given as goal

abbrev pub invariant-loop-attr : goal.invariant-loop-attr
invariant-loop-attr l = l.vertices.items ≡ l.initial.vertices.items ++ map (λ (a : Attr). vertex.Argument (phylum_name l.phyla l.phylum) l.k a.name) (take l.attr-index l.attr-items)
