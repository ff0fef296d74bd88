-- What is told of the names of declarations.
use Rattle.std.specs.Prelude.{ℕ, Bool, true, false, not, ◌&&◌, ◌||◌, if◌then◌else◌, nat_eq, nat_le, bytes_eq, List, [], ◌∷◌, ◌++◌, take, filter, flat_map, codes}
use Rattle.std.specs.Fmt.{decimal}
use Rattle.std.specs.List.{list_any}
use Rattle.sg_kinds.specs.Sound.{base_names, builtin_names}
use Rattle.sg_kinds.specs.Values.{Bytes}
use Rattle.sg_kinds.specs.declared.fault.Position.{Position}
use Rattle.sg_ast.specs.Declarations.{Decl}
use Rattle.sg_known.specs.declared.things.Kind.{Kind}
use Rattle.sg_known.specs.declared.things.Kind.TheVariants.{Phylum, Lexeme, Nonterminal, Operator, Function, Parameter, Attribute, Local, Listing, Schemes, Literal, Entry}
use Rattle.sg_known.specs.declared.things.Thing.{Thing}
use Rattle.sg_known.specs.Things.{things}

-- the number of the space in which a name of this kind stands once
abbrev pub space_of : Kind → ℕ
space_of Phylum = 0
space_of Lexeme = 0
space_of Nonterminal = 0
space_of Operator = 1
space_of Function = 1
space_of Parameter = 2
space_of Attribute = 3
space_of Local = 4
space_of Listing = 5
space_of Schemes = 6
space_of Literal = 7
space_of Entry = 8

abbrev pub kind_words : Kind → Bytes
kind_words Phylum = codes " is a phylum"
kind_words Lexeme = codes " is a lexeme"
kind_words Nonterminal = codes " is a nonterminal"
kind_words Operator = codes " is an operator of "
kind_words Function = codes " is a function"
kind_words Parameter = codes " is a parameter of "
kind_words Attribute = codes " is an attribute of "
kind_words Local = codes " is a local of "
kind_words Listing = codes " is said to be a list or optional"
kind_words Schemes = codes " has schemes as an operator of "
kind_words Literal = codes " has a level"
kind_words Entry = codes " has an entry"

-- a name, a literal between quotes
abbrev pub name_text : Thing → Bytes
name_text t = if is_literal t.kind then 39 ∷ t.name ++ 39 ∷ [] else t.name
  where
    is_literal : Kind → Bool
    is_literal Literal = true
    is_literal k = false

-- as what a name is declared, and on which line
abbrev pub thing_text : Thing → Bytes
thing_text t = codes "  " ++ (name_text t ++ (kind_words t.kind
    ++ (t.owner ++ (codes ", line " ++ (decimal t.place.line ++ 10 ∷ [])))))

-- a name means nothing by being declared so
abbrev pub is_aside : Kind → Bool
is_aside Listing = true
is_aside Schemes = true
is_aside Literal = true
is_aside Entry = true
is_aside k = false

-- the name is declared so and means it
abbrev pub is_meaning : Bytes → Thing → Bool
is_meaning name t = bytes_eq name t.name && not (is_aside t.kind)

-- a line for each thing that is declared under a name, the first eight
abbrev pub meaning_lines : List Decl → Bytes → Bytes
meaning_lines ds name = flat_map thing_text (take 8 (filter (is_meaning name) (things ds)))

abbrev pub is_there : Position → Thing → Bool
is_there place t = nat_eq t.place.token place.token

-- two of a space, with one name; but for phyla and nonterminals, and for operators and functions, of one owner
abbrev pub is_alike : Thing → Thing → Bool
is_alike a b = nat_eq (space_of a.kind) (space_of b.kind) && (bytes_eq a.name b.name
    && (nat_le (space_of a.kind) 1 || (bytes_eq a.owner b.owner && bytes_eq a.within b.within)))

-- a name that is there before each text
abbrev pub is_base : Bytes → Bool
is_base name = list_any (bytes_eq name) base_names

abbrev pub is_builtin : Bytes → Bool
is_builtin name = list_any (bytes_eq name) builtin_names

abbrev pub is_given : Thing → Bool
is_given t = (nat_eq (space_of t.kind) 0 && is_base t.name) || (nat_eq (space_of t.kind) 1 && is_builtin t.name)

abbrev pub given_text : Bytes → Bytes
given_text name = codes "  " ++ (name ++ (codes " is there before each text" ++ 10 ∷ []))

-- what stood first where this thing may not be
abbrev pub head_text : List Thing → Bytes
head_text [] = []
head_text (t ∷ ts) = thing_text t

unfoldable pub before_text : List Thing → Thing → Bytes
before_text ts t = if is_given t then given_text t.name else head_text (filter (is_alike t) ts)

-- that of the thing that is declared at a place
abbrev pub first_text : List Thing → List Thing → Bytes
first_text ts [] = []
first_text ts (t ∷ there) = before_text ts t

abbrev pub first_lines : List Decl → Position → Bytes
first_lines ds place = first_text (things ds) (filter (is_there place) (things ds))
