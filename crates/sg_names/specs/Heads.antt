-- First definitions of names.
use Rattle.std.specs.Prelude.{ℕ, Bool, false, if◌then◌else◌, List, [], ◌∷◌, ◌++◌, map, bytes_eq, codes}
use Rattle.std.specs.List.{list_any, position_or_len}
use Rattle.sg_kinds.specs.Values.{Bytes}
use Rattle.sg_ast.specs.declared.name.Name.{Name}
use Rattle.sg_names.specs.declared.heads.Head.{Head}

-- the first definitions of names, one more where its name is new
abbrev pub is_head : Bytes → Head → Bool
is_head n h = bytes_eq n h.name

abbrev pub with_head : List Head → Head → List Head
with_head heads h = if list_any (is_head h.name) heads then heads else heads ++ h ∷ []

abbrev pub number_in : List Head → Bytes → ℕ
number_in heads n = position_or_len (is_head n) heads

-- the numbers of names
abbrev pub numbers_in : List Head → List Name → List ℕ
numbers_in heads names = map (λ (n : Name). number_in heads n.text) names

-- a definition of a name
abbrev pub head_of : Name → Bool → Head
head_of n lexical = record { name = n.text; place = n.place; lexical = lexical }

-- BOOL, INT and STR are defined before the text
abbrev pub base_head : Bytes → Head
base_head n = record { name = n; place = record { token = 0; line = 0 }; lexical = false }

abbrev pub base_heads : List Head
base_heads = base_head (codes "BOOL") ∷ base_head (codes "INT") ∷ base_head (codes "STR") ∷ []
