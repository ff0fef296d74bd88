-- The vertices of operators as they are printed.
use Rattle.std.specs.Prelude.{ℕ, suc, nat_eq, count_by, List, [], ◌∷◌, ◌++◌, map, slice_get, slice_index_or, option_map, unwrap_or}
use Rattle.sg_kinds.specs.Values.{Bytes}
use Rattle.sg_kinds.specs.Specification.{attrs_of, phylum_name}
use Rattle.sg_kinds.specs.declared.spec.Attr.{Attr}
use Rattle.sg_kinds.specs.declared.spec.Phylum.{Phylum}
use Rattle.sg_kinds.specs.declared.spec.Operator.{Operator}
use Rattle.sg_kinds.specs.declared.spec.Spec.{Spec}
use Rattle.sg_kinds.specs.declared.spec.Local.{Local as LocalOf}
use Rattle.sg_kinds.specs.declared.fault.PrintedVertex.{PrintedVertex}
use Rattle.sg_kinds.specs.declared.fault.PrintedVertex.TheVariants.{Own, Argument, Local}

-- the attributes of the k-th occurrence of a phylum
abbrev pub occurrence_vertices : List Phylum → ℕ → ℕ → List PrintedVertex
occurrence_vertices phyla q k = map (λ (a : Attr). Argument (phylum_name phyla q) k a.name) (attrs_of phyla q)

-- the attributes of arguments behind these occurrences: those of one phylum are counted from 1
abbrev pub argument_vertices : List Phylum → List ℕ → List ℕ → List PrintedVertex
argument_vertices phyla before [] = []
argument_vertices phyla before (q ∷ qs) = occurrence_vertices phyla q (suc (count_by (nat_eq q) before))
    ++ argument_vertices phyla (before ++ q ∷ []) qs

-- the vertices of an operator in the order of their numbers: the attributes of the left side and of the arguments,
-- the locals
abbrev pub vertices_of : List Phylum → Operator → List PrintedVertex
vertices_of phyla o =
    map (λ (a : Attr). Own a.name) (attrs_of phyla o.phylum)
    ++ argument_vertices phyla (o.phylum ∷ []) o.args
    ++ map (λ (l : LocalOf). Local l.name) o.locals

abbrev pub printed_vertices : Spec → ℕ → List PrintedVertex
printed_vertices spec op = unwrap_or (option_map (vertices_of spec.phyla) (slice_get spec.ops op)) []

abbrev pub vertex_in : List PrintedVertex → ℕ → PrintedVertex
vertex_in vertices m = slice_index_or vertices m (Local [])

abbrev pub printed_cycle : Spec → ℕ → List ℕ → List PrintedVertex
printed_cycle spec op cycle = map (vertex_in (printed_vertices spec op)) cycle

abbrev pub operator_name : Spec → ℕ → Bytes
operator_name spec op = unwrap_or (option_map (λ (o : Operator). o.name) (slice_get spec.ops op)) []
