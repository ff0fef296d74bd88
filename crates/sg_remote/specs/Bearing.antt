-- Which phyla bear the far attribute of a list, and which are open to it: of these, some node of a term of the root
-- phylum has no enclosing node of a listed phylum. Both are the least sets of their kind, and so they are computed.
use Rattle.std.specs.Prelude.{◌≡◌, ℕ, Bool, true, false, if◌then◌else◌, List, [], ◌∷◌, map, flat_map, Option, Some, None}
use Rattle.std.specs.List.{Contains}
use Rattle.std.specs.Option.{is_some}
use Rattle.sg_kinds.specs.Far.{same_far, listed_slot}
use Rattle.sg_kinds.specs.Specification.{args_of, phylum_of}
use Rattle.sg_kinds.specs.declared.spec.Far.{Far}
use Rattle.sg_kinds.specs.declared.spec.Operator.{Operator}
use Rattle.sg_kinds.specs.declared.spec.Spec.{Spec}
use Rattle.sg_ast.specs.Declarations.{Decl}
use Rattle.sg_names.specs.declared.table.Table.{Table}
use Rattle.sg_remote.specs.Atoms.{atoms}
use Rattle.sg_remote.specs.Reach.{flag, reached}
use Rattle.sg_remote.specs.declared.atoms.Atom.{Atom}
use Rattle.sg_remote.specs.declared.reach.Edge.{Edge}

-- A phylum bears it where one of its operators uses the list, or where it is not listed and one of its operators has
-- an argument whose phylum bears it.
pub data Bears (t : Table) (ds : List Decl) (fs : List Far) : ℕ → Type 0 where
  uses : (a : Atom) (p : ℕ) → Contains (atoms t ds) a → same_far a.list fs ≡ true → phylum_of t.ops a.op ≡ Some p
      → Bears t ds fs p
  passes : (op p q : ℕ) → phylum_of t.ops op ≡ Some p → listed_slot fs p ≡ None → Contains (args_of t.ops op) q
      → Bears t ds fs q → Bears t ds fs p

-- the root is open, and so are the arguments of operators of open phyla that are not listed
pub data IsOpen (spec : Spec) (fs : List Far) : ℕ → Type 0 where
  root : IsOpen spec fs spec.root
  argument : (op p q : ℕ) → phylum_of spec.ops op ≡ Some p → listed_slot fs p ≡ None → IsOpen spec fs p
      → Contains (args_of spec.ops op) q → IsOpen spec fs q

-- edges between the left sides of operators and their arguments, where the left side is not listed
abbrev pub edge : Bool → ℕ → ℕ → Edge
edge up left arg = if up then record { from = arg; to = left } else record { from = left; to = arg }

abbrev pub argument_edges : Bool → ℕ → List ℕ → List Edge
argument_edges up left args = map (edge up left) args

abbrev pub edges_of : Bool → List Far → Operator → List Edge
edges_of up fs o = if is_some (listed_slot fs o.phylum) then [] else argument_edges up o.phylum o.args

abbrev pub edges : Bool → List Far → List Operator → List Edge
edges up fs ops = flat_map (edges_of up fs) ops

-- the phyla whose operators use a list
abbrev pub number_of : Option ℕ → List ℕ
number_of None = []
number_of (Some p) = p ∷ []

abbrev pub user : Table → List Far → Atom → List ℕ
user t fs a = if same_far a.list fs then number_of (phylum_of t.ops a.op) else []

abbrev pub users : Table → List Far → List Atom → List ℕ
users t fs rs = flat_map (user t fs) rs

-- the flags of both
abbrev pub borne : Table → List Atom → List Far → List Bool
borne t rs fs = reached (users t fs rs) (edges true fs t.ops)

abbrev pub opened : Table → List Far → List Bool
opened t fs = reached (t.root ∷ []) (edges false fs t.ops)

abbrev pub bears : Table → List Decl → List Far → ℕ → Bool
bears t ds fs p = flag (borne t (atoms t ds) fs) p

abbrev pub is_open : Table → List Far → ℕ → Bool
is_open t fs p = flag (opened t fs) p
