-- What a note speaks of, in words that tell one part of a record from another.
use Rattle.std.specs.Prelude.{ℕ, [], ◌∷◌, ◌++◌, List, slice_get, option_map, unwrap_or, codes}
use Rattle.sg_kinds.specs.Values.{Bytes}
use Rattle.sg_kinds.specs.Specification.{attrs_of, locals_of, phylum_name}
use Rattle.sg_kinds.specs.declared.spec.Attr.{Attr}
use Rattle.sg_kinds.specs.declared.spec.Function.{Function}
use Rattle.sg_kinds.specs.declared.spec.LevelLine.{LevelLine}
use Rattle.sg_kinds.specs.declared.spec.Local.{Local}
use Rattle.sg_kinds.specs.declared.spec.Operator.{Operator}
use Rattle.sg_kinds.specs.declared.spec.Spec.{Spec}
use Rattle.sg_printed.specs.Printed.{nonterminal_name}
use Rattle.sg_useless.specs.declared.part.Part.{Part}
use Rattle.sg_useless.specs.declared.part.Part.TheVariants as part

-- the words of a thing by its name, and by that of its owner too
abbrev pub function_word : Bytes → Bytes
function_word name = codes "function " ++ name

abbrev pub attribute_word : Bytes → Bytes → Bytes
attribute_word owner name = codes "attribute " ++ (owner ++ 46 ∷ name)

abbrev pub local_word : Bytes → Bytes → Bytes
local_word owner name = codes "local " ++ (owner ++ 46 ∷ name)

abbrev pub phylum_word : Bytes → Bytes
phylum_word name = codes "phylum " ++ name

abbrev pub nonterminal_word : Bytes → Bytes
nonterminal_word name = codes "nonterminal " ++ name

abbrev pub schemes_word : Bytes → Bytes
schemes_word name = codes "schemes of " ++ name

abbrev pub literal_word : Bytes → Bytes
literal_word text = codes "literal " ++ (39 ∷ (text ++ 39 ∷ []))

-- names of a record, empty for a number out of range
abbrev pub function_name : Spec → ℕ → Bytes
function_name spec f = unwrap_or (option_map (λ (x : Function). x.name) (slice_get spec.functions f)) []

abbrev pub attribute_name : Spec → ℕ → ℕ → Bytes
attribute_name spec p slot = unwrap_or (option_map (λ (x : Attr). x.name) (slice_get (attrs_of spec.phyla p) slot)) []

abbrev pub operator_name : Spec → ℕ → Bytes
operator_name spec op = unwrap_or (option_map (λ (x : Operator). x.name) (slice_get spec.ops op)) []

abbrev pub local_name : Spec → ℕ → ℕ → Bytes
local_name spec op k = unwrap_or (option_map (λ (x : Local). x.name) (slice_get (locals_of spec.ops op) k)) []

abbrev pub line_literals : Spec → ℕ → List Bytes
line_literals spec line = unwrap_or (option_map (λ (l : LevelLine). l.literals) (slice_get spec.levels line)) []

abbrev pub literal_text : Spec → ℕ → ℕ → Bytes
literal_text spec line k = unwrap_or (slice_get (line_literals spec line) k) []

-- what a note on a part speaks of
abbrev pub subject : Spec → Part → Bytes
subject spec (part.Function f) = function_word (function_name spec f)
subject spec (part.Attribute p slot) = attribute_word (phylum_name spec.phyla p) (attribute_name spec p slot)
subject spec (part.Local op k) = local_word (operator_name spec op) (local_name spec op k)
subject spec (part.Phylum p) = phylum_word (phylum_name spec.phyla p)
subject spec (part.Nonterminal n) = nonterminal_word (nonterminal_name spec.productions n)
subject spec (part.Schemes op) = schemes_word (operator_name spec op)
subject spec (part.Entry p) = phylum_word (phylum_name spec.phyla p)
subject spec (part.Literal line k) = literal_word (literal_text spec line k)
