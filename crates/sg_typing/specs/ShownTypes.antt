-- What schemes show: the first attribute or local whose type is none of BOOL, INT, STR and the lexeme phyla.
use Rattle.std.specs.Prelude.{ℕ, List, [], flat_map, Option, Some, None}
use Rattle.std.specs.List.{filter_map}
use Rattle.sg_kinds.specs.Specification.{has_shape, is_leaf_shape}
use Rattle.sg_kinds.specs.declared.fault.Position.{Position}
use Rattle.sg_ast.specs.Declarations.{Decl, Schemes}
use Rattle.sg_ast.specs.FirstFault.{first}
use Rattle.sg_ast.specs.Parts.{target_place}
use Rattle.sg_ast.specs.declared.decl.Item.{Item}
use Rattle.sg_ast.specs.declared.decl.Item.TheVariants as item
use Rattle.sg_ast.specs.declared.decl.SchemeDecl.{SchemeDecl}
use Rattle.sg_names.specs.declared.table.Table.{Table}
use Rattle.sg_types.specs.Types.{unless}
use Rattle.sg_typing.specs.Bodies.{operator, target_type}

-- the place of what has a type that does not show, or none
abbrev pub hidden : Table → Position → Option ℕ → Option Position
hidden t place None = Some place
hidden t place (Some p) = unless (has_shape t.phyla is_leaf_shape p) place

abbrev pub hidden_item : Table → ℕ → Item → Option Position
hidden_item t op (item.Shows x) = hidden t (target_place x) (target_type t op x)
hidden_item t op (item.Writes s) = None
hidden_item t op (item.Child how) = None
hidden_item t op (item.Separates ss) = None

abbrev pub hidden_scheme : Table → ℕ → SchemeDecl → Option Position
hidden_scheme t op s = first (hidden_item t op) s.items

abbrev pub hidden_at : Table → Decl → Option Position
hidden_at t (Schemes n op view schemes) = first (hidden_scheme t (operator t n op)) schemes
hidden_at t d = None

abbrev pub first_hidden : Table → List Decl → Option Position
first_hidden t ds = first (hidden_at t) ds

-- all attributes and locals that schemes cannot show, each at its first token
abbrev pub hidden_places : Table → Decl → List Position
hidden_places t (Schemes n op view schemes) = flat_map
    (λ (s : SchemeDecl). filter_map (hidden_item t (operator t n op)) s.items) schemes
hidden_places t d = []

abbrev pub all_hidden : Table → List Decl → List Position
all_hidden t ds = flat_map (hidden_places t) ds
