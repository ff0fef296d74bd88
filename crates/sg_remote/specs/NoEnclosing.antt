-- The first reference to enclosing nodes in the equations of an operator of which some node of a term of the root
-- phylum has no enclosing node of a listed phylum.
use Rattle.std.specs.Prelude.{◌≡◌, ℕ, ◌<◌, ◌≤◌, Bool, false, if◌then◌else◌, List, Vec, Option, Some, None, slice_get, option_map, unwrap_or}
use Rattle.std.specs.List.{All}
use Rattle.sg_kinds.specs.Enclosing.{near}
use Rattle.sg_kinds.specs.Fits.{Fits}
use Rattle.sg_kinds.specs.Nets.{Operation, label_of}
use Rattle.sg_kinds.specs.Places.{Place, sub}
use Rattle.sg_kinds.specs.Specification.{phylum_of}
use Rattle.sg_kinds.specs.Terms.{Term}
use Rattle.sg_kinds.specs.declared.fault.Position.{Position}
use Rattle.sg_kinds.specs.declared.fault.SpecFault.{SpecFault}
use Rattle.sg_kinds.specs.declared.fault.SpecFault.TheVariants as fault
use Rattle.sg_kinds.specs.declared.spec.Far.{Far}
use Rattle.sg_kinds.specs.declared.spec.Spec.{Spec}
use Rattle.sg_ast.specs.Declarations.{Decl}
use Rattle.sg_ast.specs.FirstFault.{first}
use Rattle.sg_names.specs.Drafted.{drafted}
use Rattle.sg_names.specs.declared.table.Table.{Table}
use Rattle.sg_remote.specs.Atoms.{atoms}
use Rattle.sg_remote.specs.Bearing.{IsOpen, is_open, opened}
use Rattle.sg_remote.specs.Keys.{list_of}
use Rattle.sg_remote.specs.declared.atoms.Atom.{Atom}

-- a reference of an operator whose phylum is open to its list
pub record IsBare (t : Table) (a : Atom) : Type 0 where
  pub phylum : ℕ
  pub left : phylum_of t.ops a.op ≡ Some phylum
  pub opens : IsOpen (drafted t) a.list phylum

-- the fault of the first such reference, or none
pub data IsNoEnclosing (t : Table) (ds : List Decl) (f : Option SpecFault) : Type 0 where
  all_enclosed : ((k : ℕ) (a : Atom) → slice_get (atoms t ds) k ≡ Some a → IsBare t a → ⊥) → f ≡ None
      → IsNoEnclosing t ds f
  some_bare : (k : ℕ) (a : Atom) → slice_get (atoms t ds) k ≡ Some a → IsBare t a
      → ((j : ℕ) (b : Atom) → j < k → slice_get (atoms t ds) j ≡ Some b → IsBare t b → ⊥)
      → f ≡ Some (fault.NoEnclosing a.place) → IsNoEnclosing t ds f

-- some node of an operator, in some term of the root phylum, has no enclosing node of a listed phylum
pub record HasBareNode (spec : Spec) (op : ℕ) (fs : List Far) : Type 0 where
  pub term : Term
  pub fits : Fits spec term spec.root
  pub place : Place
  pub node : label_of (sub term place) ≡ Operation op
  pub bare : near spec term place fs ≡ None

-- as it is computed
abbrev pub is_bare : Table → Atom → Bool
is_bare t a = unwrap_or (option_map (is_open t a.list) (phylum_of t.ops a.op)) false

abbrev pub bare_fault : Table → Atom → Option SpecFault
bare_fault t a = if is_bare t a then Some (fault.NoEnclosing a.place) else None

abbrev pub first_bare : Table → List Atom → Option SpecFault
first_bare t rs = first (bare_fault t) rs

abbrev pub no_enclosing : Table → List Decl → Option SpecFault
no_enclosing t ds = first_bare t (atoms t ds)

-- what is known of lists, by their keys, are the flags of the phyla that are open to them
abbrev pub AreOpened : {A : Type 0} → Table → List (Vec (ℕ × ℕ) A × Vec Bool A) → Type 0
AreOpened t known = All (λ e. e.1.items ≡ opened t (list_of e.0.items)) known

-- no bare reference stands before this place
abbrev pub IsFirstBare : Table → List Decl → Position → Type 0
IsFirstBare t ds p = (k : ℕ) (a : Atom) → slice_get (atoms t ds) k ≡ Some a → IsBare t a → p.token ≤ a.place.token
