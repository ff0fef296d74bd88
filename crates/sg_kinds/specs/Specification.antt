-- A specification as definitions see it. Each number is a place in one of its lists.
use Rattle.std.specs.Prelude.{ℕ, Bool, true, false, List, [], Option, slice_get, option_map, unwrap_or}
pub use Rattle.sg_kinds.specs.Values.{Bytes}
pub use Rattle.sg_kinds.specs.declared.marks.Shape.{Shape}
pub use Rattle.sg_kinds.specs.declared.marks.Way.{Way}
pub use Rattle.sg_kinds.specs.declared.marks.Group.{Group}
pub use Rattle.sg_kinds.specs.declared.spec.Far.{Far}
pub use Rattle.sg_kinds.specs.declared.spec.Attr.{Attr}
pub use Rattle.sg_kinds.specs.declared.spec.Phylum.{Phylum}
pub use Rattle.sg_kinds.specs.declared.spec.Local.{Local}
pub use Rattle.sg_kinds.specs.declared.spec.Occurrence.{Occurrence}
pub use Rattle.sg_kinds.specs.declared.spec.Piece.{Piece}
pub use Rattle.sg_kinds.specs.declared.spec.Item.{Item}
pub use Rattle.sg_kinds.specs.declared.spec.Scheme.{Scheme}
pub use Rattle.sg_kinds.specs.declared.spec.Operator.{Operator}
pub use Rattle.sg_kinds.specs.declared.spec.Rule.{Rule}
pub use Rattle.sg_kinds.specs.declared.spec.Function.{Function}
pub use Rattle.sg_kinds.specs.declared.spec.Transform.{Transform}
pub use Rattle.sg_kinds.specs.declared.spec.Symbol.{Symbol}
pub use Rattle.sg_kinds.specs.declared.spec.Production.{Production}
pub use Rattle.sg_kinds.specs.declared.spec.Entry.{Entry}
pub use Rattle.sg_kinds.specs.declared.spec.LevelLine.{LevelLine}
pub use Rattle.sg_kinds.specs.declared.views.Views.{Views}
pub use Rattle.sg_kinds.specs.declared.spec.Spec.{Spec}
pub use Rattle.sg_kinds.specs.declared.spec.Rules.{Rules}
use Rattle.sg_kinds.specs.declared.marks.Shape.TheVariants.{Truths, Numbers, Texts, Lexemes, Listed, OptionalListed}
use Rattle.sg_kinds.specs.declared.marks.Way.TheVariants.{Synthesized, Inherited}

-- the first three phyla of every specification: BOOL, INT and STR
abbrev pub truths : ℕ
truths = 0

abbrev pub numbers : ℕ
numbers = 1

abbrev pub texts : ℕ
texts = 2

-- the attributes of a phylum, and the arguments and locals of an operator; none for a number out of range
abbrev pub attrs_of : List Phylum → ℕ → List Attr
attrs_of phyla p = unwrap_or (option_map (λ (x : Phylum). x.attrs) (slice_get phyla p)) []

abbrev pub args_of : List Operator → ℕ → List ℕ
args_of ops op = unwrap_or (option_map (λ (x : Operator). x.args) (slice_get ops op)) []

abbrev pub locals_of : List Operator → ℕ → List Local
locals_of ops op = unwrap_or (option_map (λ (x : Operator). x.locals) (slice_get ops op)) []

-- the phylum to which an operator belongs
abbrev pub phylum_of : List Operator → ℕ → Option ℕ
phylum_of ops op = option_map (λ (x : Operator). x.phylum) (slice_get ops op)

-- the name of a phylum
abbrev pub phylum_name : List Phylum → ℕ → Bytes
phylum_name phyla p = unwrap_or (option_map (λ (x : Phylum). x.name) (slice_get phyla p)) []

-- whether a phylum has a shape that passes the test
abbrev pub has_shape : List Phylum → (Shape → Bool) → ℕ → Bool
has_shape phyla test p = unwrap_or (option_map (λ (x : Phylum). test x.shape) (slice_get phyla p)) false

-- a lexeme phylum; the operators of a list; a base or lexeme phylum, whose terms are leaves
abbrev pub is_lexical_shape : Shape → Bool
is_lexical_shape (Lexemes l) = true
is_lexical_shape shape = false

abbrev pub is_list_shape : Shape → Bool
is_list_shape Listed = true
is_list_shape OptionalListed = true
is_list_shape shape = false

abbrev pub is_leaf_shape : Shape → Bool
is_leaf_shape Truths = true
is_leaf_shape Numbers = true
is_leaf_shape Texts = true
is_leaf_shape (Lexemes l) = true
is_leaf_shape shape = false

-- whether a slot of a phylum is an inherited attribute
abbrev pub is_way_inherited : Way → Bool
is_way_inherited Synthesized = false
is_way_inherited Inherited = true

abbrev pub is_inherited : List Phylum → ℕ → ℕ → Bool
is_inherited phyla p slot = unwrap_or (option_map (λ (a : Attr). is_way_inherited a.way)
    (slice_get (attrs_of phyla p) slot)) false

-- what the attribute equations need of a specification
abbrev pub rules_of : Spec → Rules
rules_of spec = record { phyla = spec.phyla; ops = spec.ops; exprs = spec.exprs; rules = spec.rules }
