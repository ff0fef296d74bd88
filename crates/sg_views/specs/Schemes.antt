-- The schemes that declarations give to operators in a view. The ordinary view has no name, and here is None.
use Rattle.std.specs.Prelude.{ℕ, if◌then◌else◌, List, [], map, flat_map, Option, Some, None, unwrap_or}
use Rattle.sg_kinds.specs.Values.{Bytes}
use Rattle.sg_kinds.specs.Pieces.{pieces_of}
use Rattle.sg_kinds.specs.declared.spec.Piece.{Piece}
use Rattle.sg_kinds.specs.declared.spec.Item.{Item}
use Rattle.sg_kinds.specs.declared.spec.Scheme.{Scheme}
use Rattle.sg_kinds.specs.declared.spec.Occurrence.{Occurrence}
use Rattle.sg_kinds.specs.declared.spec.Item.TheVariants.{Writes, Child, Shows, Separates}
use Rattle.sg_ast.specs.declared.name.Quoted.{Quoted as String}
use Rattle.sg_ast.specs.declared.decl.Target.{Target}
use Rattle.sg_ast.specs.declared.decl.Target.TheVariants as target
use Rattle.sg_ast.specs.declared.decl.Item.{Item as Written}
use Rattle.sg_ast.specs.declared.decl.Item.TheVariants as written
use Rattle.sg_ast.specs.declared.decl.SchemeDecl.{SchemeDecl}
use Rattle.sg_ast.specs.Declarations.{Decl, Schemes}
use Rattle.sg_counts.specs.Definitions.{is_same_view, view_name}
use Rattle.sg_names.specs.declared.table.Table.{Table}
use Rattle.sg_names.specs.Names.{owned}
use Rattle.sg_names.specs.Lookups.{reference, operator_at}
use Rattle.sg_typing.specs.Arguments.{local_of}

-- the pieces of a string, none where it is not escaped; the strings of a separator, one behind the other
abbrev pub pieces_in : Bytes → List Piece
pieces_in s = unwrap_or (pieces_of s) []

abbrev pub bytes_in : List String → Bytes
bytes_in ss = flat_map (λ (s : String). s.text) ss

-- what a scheme of an operator shows: an attribute, or a local behind those of the left side
abbrev pub first_slot : Occurrence
first_slot = record { at = 0; slot = 0 }

abbrev pub shown : Table → ℕ → Target → Occurrence
shown t op (target.Attribute r) = unwrap_or (reference t op r) first_slot
shown t op (target.Local n) = unwrap_or (local_of t op n.text) first_slot

-- the items of a scheme, and the scheme
abbrev pub item_of : Table → ℕ → Written → Item
item_of t op (written.Writes s) = Writes (pieces_in s.text)
item_of t op (written.Child how) = Child how
item_of t op (written.Shows x) = Shows (shown t op x)
item_of t op (written.Separates ss) = Separates (pieces_in (bytes_in ss))

abbrev pub scheme_of : Table → ℕ → SchemeDecl → Scheme
scheme_of t op s = record { rests = s.rests; editable = s.editable; items = map (item_of t op) s.items }

-- schemes, each with the number of its operator; none where that is not there
abbrev pub schemes_under : Table → List SchemeDecl → Option ℕ → List (ℕ × Scheme)
schemes_under t ss None = []
schemes_under t ss (Some op) = map (λ s. (op, scheme_of t op s)) ss

-- those of a declaration in a view, none where its view is another
abbrev pub schemes_at : Table → Option Bytes → Decl → List (ℕ × Scheme)
schemes_at t view (Schemes p op v ss) =
    if is_same_view (view_name v) view then schemes_under t ss (operator_at t p op) else []
schemes_at t view d = []

-- the schemes of each operator in a view
abbrev pub schemes_of : Table → Option Bytes → List Decl → ℕ → List Scheme
schemes_of t view ds = owned (flat_map (schemes_at t view) ds)
