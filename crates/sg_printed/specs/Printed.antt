-- Parts of a record as they are printed.
use Rattle.std.specs.Prelude.{ℕ, zero, suc, ◌-◌, List, [], ◌∷◌, length, take, find, count_by, nat_eq, slice_get, Option, Some, None, option_map, unwrap_or}
use Rattle.sg_kinds.specs.Values.{Bytes}
use Rattle.sg_kinds.specs.Specification.{attrs_of, phylum_name}
use Rattle.sg_kinds.specs.declared.fault.PrintedVertex.{PrintedVertex}
use Rattle.sg_kinds.specs.declared.fault.PrintedVertex.TheVariants.{Own, Argument, Local}
use Rattle.sg_kinds.specs.declared.spec.Attr.{Attr}
use Rattle.sg_kinds.specs.declared.spec.Local.{Local as LocalOf}
use Rattle.sg_kinds.specs.declared.spec.Operator.{Operator}
use Rattle.sg_kinds.specs.declared.spec.Phylum.{Phylum}
use Rattle.sg_kinds.specs.declared.spec.Production.{Production}

-- the name of a nonterminal, which its first production has
abbrev pub nonterminal_name : List Production → ℕ → Bytes
nonterminal_name productions n =
    unwrap_or (option_map (λ (r : Production). r.name) (find (λ (r : Production). nat_eq r.left n) productions)) []

-- an attribute of the left side, or the local behind them
abbrev pub own_vertex : List Attr → List LocalOf → ℕ → Option Attr → PrintedVertex
own_vertex attrs locals slot (Some a) = Own a.name
own_vertex attrs locals slot None =
    Local (unwrap_or (option_map (λ (l : LocalOf). l.name) (slice_get locals (slot - length attrs))) [])

-- the number of an argument among the occurrences of its phylum, of which the left side is the first
abbrev pub number_of : Operator → ℕ → ℕ → ℕ
number_of o k q = suc (count_by (nat_eq q) (o.phylum ∷ take k o.args))

-- an attribute of an argument of phylum q
abbrev pub argument_vertex : List Phylum → Operator → ℕ → ℕ → ℕ → PrintedVertex
argument_vertex phyla o k slot q = Argument (phylum_name phyla q) (number_of o k q)
    (unwrap_or (option_map (λ (a : Attr). a.name) (slice_get (attrs_of phyla q) slot)) [])

-- an occurrence of an operator
abbrev pub vertex_at : List Phylum → Operator → ℕ → ℕ → PrintedVertex
vertex_at phyla o zero slot = let attrs = attrs_of phyla o.phylum in own_vertex attrs o.locals slot (slice_get attrs slot)
vertex_at phyla o (suc k) slot = unwrap_or (option_map (argument_vertex phyla o k slot) (slice_get o.args k)) (Local [])
