-- The literals of precedence lines are distinct where no definition is a second one.
use Rattle.std.proofs.Common.{◌≡◌, ℕ, ◌+◌, ◌≤◌, List, [], map, None, bytes_eq, sym, ◌∙◌, arith}
use Rattle.std.specs.List.{count_by, sum_by, flat_map}
use Rattle.std.proofs.lemmas.List.Sums.{sum_by-le-sum_by}
use Rattle.sg_kinds.specs.Values.{Bytes}
use Rattle.sg_kinds.specs.Sound.{AreDistinct}
use Rattle.sg_ast.specs.declared.name.Quoted.{Quoted}
use Rattle.sg_ast.specs.Declarations as decl
use Rattle.sg_ast.specs.Declarations.{Decl}
use Rattle.sg_counts.specs.Definitions as space
use Rattle.sg_counts.specs.Duplicates.{literal_defined, definitions_of, given, duplicate}
use Rattle.sg_counts.proofs.Walks.{count_map}
use Rattle.sg_resolve.proofs.Counting.{count-flat, distinct_from_counts}
use Rattle.sg_resolve.proofs.Repeating.{defines, once}

-- the literals of a precedence line
abbrev pub literals_at : Decl → List Bytes
literals_at (decl.Precedence g literals place) = map (λ (q : Quoted). q.text) literals
literals_at d = []

defined_at : (n : Bytes) (d : Decl) → count_by (bytes_eq n) (literals_at d) ≤ count_by (defines space.Literals n) (definitions_of d)
defined_at n (decl.Precedence g literals place) =
    let e : count_by (bytes_eq n) (map (λ (q : Quoted). q.text) literals) ≡ count_by (λ (q : Quoted). bytes_eq n q.text) literals = count_map (bytes_eq n) (λ (q : Quoted). q.text) literals in
    let f : count_by (defines space.Literals n) (map literal_defined literals) ≡ count_by (λ (q : Quoted). bytes_eq n q.text) literals = count_map (defines space.Literals n) literal_defined literals in
    omega (arith, e, f)
defined_at n d = none (count_by (defines space.Literals n) (definitions_of d))
  where
    none : (k : ℕ) → 0 ≤ k
    none k = omega arith

pub literals_distinct : (ds : List Decl) → duplicate ds ≡ None → AreDistinct (flat_map literals_at ds)
literals_distinct ds e = distinct_from_counts (flat_map literals_at ds) each
  where
    each : (n : Bytes) → count_by (bytes_eq n) (flat_map literals_at ds) ≤ 1
    each n =
        let flat : count_by (bytes_eq n) (flat_map literals_at ds) ≡ sum_by (λ d. count_by (bytes_eq n) (literals_at d)) ds = count-flat (bytes_eq n) literals_at ds in
        let low : sum_by (λ d. count_by (bytes_eq n) (literals_at d)) ds ≤ sum_by (λ d. count_by (defines space.Literals n) (definitions_of d)) ds =
        sum_by-le-sum_by (λ d. count_by (bytes_eq n) (literals_at d)) (λ d. count_by (defines space.Literals n) (definitions_of d)) ds (defined_at n) in
        let one : count_by (defines space.Literals n) given + sum_by (λ d. count_by (defines space.Literals n) (definitions_of d)) ds ≤ 1 = once ds e space.Literals n in
        omega (arith, flat, low, one)
