-- What is defined, and which definitions clash.
use Rattle.std.specs.Prelude.{ℕ, Bool, true, false, not, ◌&&◌, nat_eq, bytes_eq, Option, Some, None, option_map}
use Rattle.sg_kinds.specs.Values.{Bytes}
use Rattle.sg_ast.specs.declared.name.Name.{Name}
use Rattle.sg_counts.specs.declared.definitions.Form.{Form}
use Rattle.sg_counts.specs.declared.definitions.Form.TheVariants as form
use Rattle.sg_counts.specs.declared.definitions.Definition.{Definition}

-- the spaces of names: phyla, lexeme phyla and nonterminals; operators, functions and builtins; what `list` and
-- `optional` speak of; the attributes of an owner; the locals of an operator of a phylum; the operators of a phylum
-- that have schemes, in the ordinary view or in that with a name; the literals of precedence lines; the phyla that an
-- atom lists, by the number of its `{`
pub data Space : Type 0 where
  Phyla : Space
  Callables : Space
  Listings : Space
  Attributes : Bytes → Space
  Locals : Bytes → Bytes → Space
  Schemes : Bytes → Option Bytes → Space
  Literals : Space
  Remotes : ℕ → Space

abbrev pub view_name : Option Name → Option Bytes
view_name view = option_map (λ (n : Name). n.text) view

abbrev pub is_same_view : Option Bytes → Option Bytes → Bool
is_same_view None None = true
is_same_view (Some a) (Some b) = bytes_eq a b
is_same_view a b = false

abbrev pub is_same_space : Space → Space → Bool
is_same_space Phyla Phyla = true
is_same_space Callables Callables = true
is_same_space Listings Listings = true
is_same_space (Attributes p) (Attributes q) = bytes_eq p q
is_same_space (Locals p o) (Locals q r) = bytes_eq p q && bytes_eq o r
is_same_space (Schemes p v) (Schemes q w) = bytes_eq p q && is_same_view v w
is_same_space Literals Literals = true
is_same_space (Remotes a) (Remotes b) = nat_eq a b
is_same_space s t = false

-- a name of a space
pub record Key : Type 0 where
  pub space : Space
  pub name : Bytes

abbrev pub is_same_key : Key → Key → Bool
is_same_key a b = is_same_space a.space b.space && bytes_eq a.name b.name

-- the operators of a phylum add up over declarations, and so do the productions of a nonterminal; nothing else does
abbrev pub adds_up : Form → Form → Bool
adds_up form.Operators form.Operators = true
adds_up form.Productions form.Productions = true
adds_up f g = false

-- two definitions of one name clash, unless they add up
abbrev pub clashes : {K : Type 0} → (K → K → Bool) → Definition K → Definition K → Bool
clashes same d e = same d.key e.key && not (adds_up d.form e.form)

-- whether it clashes with the form of the last definition of its name, if there is one
abbrev pub is_clash : Option Form → Form → Bool
is_clash None g = false
is_clash (Some f) g = not (adds_up f g)
