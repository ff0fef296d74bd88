-- A chain of operators down to a reference to enclosing nodes above which there is none of those that it names.
use Rattle.std.specs.Prelude.{◌≡◌, ℕ, Bool, true, false, not, ◌&&◌, nat_eq, List, [], ◌∷◌, ◌++◌, flat_map, slice_get, Option, Some, None, codes}
use Rattle.std.specs.Fmt.{decimal}
use Rattle.std.specs.List.{list_any}
use Rattle.sg_kinds.specs.Specification.{phylum_name, phylum_of}
use Rattle.sg_kinds.specs.Values.{Bytes}
use Rattle.sg_kinds.specs.declared.fault.Position.{Position}
use Rattle.sg_kinds.specs.declared.spec.Far.{Far}
use Rattle.sg_kinds.specs.declared.spec.Operator.{Operator}
use Rattle.sg_kinds.specs.declared.spec.Phylum.{Phylum}
use Rattle.sg_ast.specs.Declarations.{Decl}
use Rattle.sg_names.specs.declared.table.Table.{Table}
use Rattle.sg_remote.specs.Atoms.{atoms}
use Rattle.sg_remote.specs.Longer.{names_of}
use Rattle.sg_remote.specs.declared.atoms.Atom.{Atom}
use Rattle.sg_unenclosed.specs.declared.search.Step.{Step}

-- a reference names an attribute of a phylum
abbrev pub is_listed : List Far → ℕ → Bool
is_listed fs p = list_any (λ (f : Far). nat_eq f.phylum p) fs

abbrev pub is_among : List ℕ → ℕ → Bool
is_among ps p = list_any (λ q. nat_eq q p) ps

-- an operator of this phylum, which is not listed, has an argument of that one
abbrev pub is_link : Operator → List Far → ℕ → ℕ → Bool
is_link o fs p q = nat_eq o.phylum p && (not (is_listed fs p) && is_among o.args q)

abbrev pub is_step_by : Option Operator → List Far → ℕ → ℕ → Bool
is_step_by None fs p q = false
is_step_by (Some o) fs p q = is_link o fs p q

abbrev pub is_step : List Operator → List Far → ℕ → Step → Bool
is_step ops fs p s = is_step_by (slice_get ops s.op) fs p s.to

-- steps lead from one phylum to the other
abbrev pub leads : List Operator → List Far → ℕ → List Step → ℕ → Bool
leads ops fs p [] q = nat_eq p q
leads ops fs p (s ∷ ss) q = is_step ops fs p s && leads ops fs s.to ss q

-- the line of an operator
abbrev pub line_text : List Phylum → Operator → ℕ → Bytes
line_text phyla o line = codes "  " ++ (phylum_name phyla o.phylum
    ++ (codes " : " ++ (o.name ++ (codes ", line " ++ (decimal line ++ 10 ∷ [])))))

abbrev pub placed_text : List Phylum → Option Operator → Option Position → Bytes
placed_text phyla (Some o) (Some place) = line_text phyla o place.line
placed_text phyla o place = []

abbrev pub operator_text : Table → ℕ → Bytes
operator_text t op = placed_text t.phyla (slice_get t.ops op) (slice_get t.op_places op)

abbrev pub step_text : Table → Step → Bytes
step_text t s = operator_text t s.op

-- those of the steps, and last that of the reference
abbrev pub chain_text : Table → List Step → ℕ → Bytes
chain_text t steps op =
    codes "such as, each below the one before:" ++ (10 ∷ flat_map (step_text t) steps ++ operator_text t op)

-- the text tells steps that lead from the root phylum to that of a reference's operator
pub record TellsChain (t : Table) (a : Atom) (text : Bytes) : Type 0 where
  pub phylum : ℕ
  pub left : phylum_of t.ops a.op ≡ Some phylum
  pub steps : List Step
  pub lead : leads t.ops a.list t.root steps phylum ≡ true
  pub is : text ≡ chain_text t steps a.op

-- that of one of these references which stands at a place
pub record TellsOneOf (t : Table) (rs : List Atom) (place : Position) (text : Bytes) : Type 0 where
  pub number : ℕ
  pub atom : Atom
  pub here : slice_get rs number ≡ Some atom
  pub at : atom.place.token ≡ place.token
  pub told : TellsChain t atom text

-- of the declarations
abbrev pub TellsBare : List Decl → Position → Bytes → Type 0
TellsBare ds place text = TellsOneOf (names_of ds) (atoms (names_of ds) ds) place text
