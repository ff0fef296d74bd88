-- What a name means by a table: look-ups in its lists by position.
use Rattle.std.specs.Prelude.{ℕ, suc, ◌-◌, Bool, false, ◌&&◌, if◌then◌else◌, List, [], ◌∷◌, length, map, find, nat_eq, bytes_eq, codes, Option, Some, None, slice_get, option_map, option_and_then, unwrap_or}
use Rattle.std.specs.List.{list_all, position}
use Rattle.sg_kinds.specs.Values.{Bytes}
use Rattle.sg_kinds.specs.declared.spec.Phylum.{Phylum}
use Rattle.sg_kinds.specs.declared.spec.Attr.{Attr}
use Rattle.sg_kinds.specs.declared.spec.Far.{Far}
use Rattle.sg_kinds.specs.declared.spec.Operator.{Operator}
use Rattle.sg_kinds.specs.declared.spec.Local.{Local}
use Rattle.sg_kinds.specs.declared.spec.Occurrence.{Occurrence}
use Rattle.sg_kinds.specs.Specification.{texts, numbers, attrs_of, args_of, locals_of, phylum_of, has_shape, is_lexical_shape}
use Rattle.sg_kinds.specs.Dependencies.{phylum_there}
use Rattle.sg_kinds.specs.Far.{slot_of_far}
use Rattle.sg_kinds.specs.Typing.{whitespace}
use Rattle.sg_kinds.specs.declared.marks.Unary.{Unary}
use Rattle.sg_kinds.specs.declared.marks.Unary.TheVariants.{TextToNumber, NumberToText, TextLength}
use Rattle.sg_ast.specs.declared.name.Name.{Name}
use Rattle.sg_ast.specs.declared.name.Occurrence.{Occurrence as Written}
use Rattle.sg_ast.specs.declared.name.Occurrence.TheVariants.{Own, Named}
use Rattle.sg_ast.specs.declared.name.Pair.{Pair}
use Rattle.sg_ast.specs.declared.name.Reference.{Reference}
use Rattle.sg_ast.specs.declared.name.Remote.{Remote}
use Rattle.sg_ast.specs.declared.decl.Part.{Part}
use Rattle.sg_ast.specs.declared.decl.Part.TheVariants as part
use Rattle.sg_ast.specs.FirstFault.{or_else}
use Rattle.sg_names.specs.declared.table.Signature.{Signature}
use Rattle.sg_names.specs.declared.table.Nonterminal.{Nonterminal}
use Rattle.sg_names.specs.declared.table.Table.{Table}
use Rattle.sg_names.specs.declared.table.Callable.{Callable}
use Rattle.sg_names.specs.declared.table.Callable.TheVariants as callables
use Rattle.sg_names.specs.declared.table.Operand.{Operand}
use Rattle.sg_names.specs.Names.{op_named, operator_of}

-- a phylum, a nonterminal
abbrev pub phylum_named : Table → Bytes → Option ℕ
phylum_named t n = position (λ (x : Phylum). bytes_eq n x.name) t.phyla

abbrev pub nonterminal_named : Table → Bytes → Option ℕ
nonterminal_named t n = position (λ (x : Nonterminal). bytes_eq n x.name) t.nonterminals

-- the lexeme phylum WHITESPACE, which nothing uses
abbrev pub is_whitespace : Table → ℕ → Bytes → Bool
is_whitespace t p n = bytes_eq n whitespace && has_shape t.phyla is_lexical_shape p

-- a phylum that may be used
abbrev pub usable_named : Table → Bytes → Option ℕ
usable_named t n = option_and_then (λ p. if is_whitespace t p n then None else Some p) (phylum_named t n)

-- `STRtoINT`, `INTtoSTR`, `STRlen`
abbrev pub builtin_named : Bytes → Option Unary
builtin_named n =
    if bytes_eq n (codes "STRtoINT") then Some TextToNumber
    else if bytes_eq n (codes "INTtoSTR") then Some NumberToText
    else if bytes_eq n (codes "STRlen") then Some TextLength
    else None

-- what a name before parentheses means; an operator of a phylum
abbrev pub function_named : List Signature → Bytes → Option ℕ
function_named functions n = position (λ (f : Signature). bytes_eq n f.name) functions

abbrev pub callable_in : List Operator → List Signature → Bytes → Option Callable
callable_in ops functions n =
    or_else (or_else (option_map callables.Operator (op_named ops n))
    (option_map callables.Function (function_named functions n)))
    (option_map callables.Builtin (builtin_named n))

abbrev pub callable : Table → Bytes → Option Callable
callable t n = callable_in t.ops t.functions n

abbrev pub operator_named : Table → ℕ → Bytes → Option ℕ
operator_named t p n = operator_of t.ops p n

-- an operator and its phylum, both by name
abbrev pub operator_at : Table → Name → Name → Option ℕ
operator_at t n op = option_and_then (λ p. operator_named t p op.text) (phylum_named t n.text)

-- the phyla of its parameters, and of its result
abbrev pub builtin_param : Unary → ℕ
builtin_param NumberToText = numbers
builtin_param f = texts

abbrev pub builtin_result : Unary → ℕ
builtin_result NumberToText = texts
builtin_result f = numbers

abbrev pub params_of : Table → Callable → List ℕ
params_of t (callables.Operator op) = args_of t.ops op
params_of t (callables.Function f) = unwrap_or (option_map (λ (g : Signature). g.params) (slice_get t.functions f)) []
params_of t (callables.Builtin f) = builtin_param f ∷ []

abbrev pub result_of : Table → Callable → Option ℕ
result_of t (callables.Operator op) = phylum_of t.ops op
result_of t (callables.Function f) = option_map (λ (g : Signature). g.result) (slice_get t.functions f)
result_of t (callables.Builtin f) = Some (builtin_result f)

-- the slot of an attribute; a local's place among the locals of its operator
abbrev pub slot_named : List Attr → Bytes → Option ℕ
slot_named attrs n = position (λ (a : Attr). bytes_eq n a.name) attrs

abbrev pub attribute : Table → ℕ → Bytes → Option ℕ
attribute t p n = slot_named (attrs_of t.phyla p) n

abbrev pub local : Table → ℕ → Bytes → Option ℕ
local t op n = position (λ (l : Local). bytes_eq n l.name) (locals_of t.ops op)

-- the places from `at` on whose element passes, and before them 0 where the left side passes
abbrev pub places_from : {A : Type 0} → (A → Bool) → ℕ → List A → List ℕ
places_from test at [] = []
places_from test at (x ∷ xs) = if test x then at ∷ places_from test (suc at) xs else places_from test (suc at) xs

abbrev pub places : {A : Type 0} → (A → Bool) → Bool → List A → List ℕ
places test left xs = if left then 0 ∷ places_from test 1 xs else places_from test 1 xs

-- the one of these places with a number counted from 1, or the only one
abbrev pub chosen : Option ℕ → List ℕ → Option ℕ
chosen (Some k) ats = if nat_eq k 0 then None else slice_get ats (k - 1)
chosen None (at ∷ []) = Some at
chosen None ats = None

-- an occurrence of an operator: 0 for the left side, k + 1 for argument k; naming one is a use of its phylum
abbrev pub occurrence_of : Operator → Option ℕ → ℕ → Option ℕ
occurrence_of o k p = chosen k (places (nat_eq p) (nat_eq p o.phylum) o.args)

abbrev pub occurrence : Table → ℕ → Written → Option ℕ
occurrence t op (Own place) = Some 0
occurrence t op (Named q k) = option_and_then (λ p. option_and_then (λ o. occurrence_of o k p) (slice_get t.ops op))
    (usable_named t q.text)

-- an attribute of an occurrence of an operator
abbrev pub attribute_at : Table → ℕ → ℕ → Bytes → Option Occurrence
attribute_at t op at a = option_and_then (λ p. option_map (λ s. record { at = at; slot = s }) (attribute t p a))
    (phylum_there t.ops op at)

abbrev pub reference : Table → ℕ → Reference → Option Occurrence
reference t op r = option_and_then (λ at. attribute_at t op at r.attr.text) (occurrence t op r.of)

-- an occurrence of an input production: 0 for the left side, which has no name in it, k + 1 for symbol k; a literal
-- is none
abbrev pub is_part : Bytes → Part → Bool
is_part n (part.Named m) = bytes_eq n m.text
is_part n (part.Literal s) = false

abbrev pub not_left : ℕ → Option ℕ
not_left at = if nat_eq at 0 then None else Some at

abbrev pub symbol : Bytes → List Part → Written → Option ℕ
symbol left parts (Own place) = None
symbol left parts (Named q k) = option_and_then not_left
    (chosen k (places (is_part q.text) (bytes_eq q.text left) parts))

-- the type of the first attribute of a name
abbrev pub attr_type : List Attr → Bytes → Option ℕ
attr_type attrs n = option_map (λ (a : Attr). a.of) (find (λ (a : Attr). bytes_eq n a.name) attrs)

-- the attributes of the nonterminal, or else of the phylum, of a name
abbrev pub symbol_attrs : Table → Bytes → List Attr
symbol_attrs t q = unwrap_or
    (or_else (option_and_then (λ k. option_map (λ (x : Nonterminal). x.attrs) (slice_get t.nonterminals k))
    (nonterminal_named t q))
    (option_map (attrs_of t.phyla) (phylum_named t q))) []

abbrev pub symbol_type : Table → Bytes → Bytes → Option ℕ
symbol_type t q a = attr_type (symbol_attrs t q) a

abbrev pub name_of : Written → Bytes
name_of (Own place) = []
name_of (Named q k) = q.text

-- a symbol's result or text in an input production
abbrev pub operand : Table → Bytes → List Part → Reference → Option Operand
operand t left parts r = option_and_then (λ at. option_map (λ p. record { at = at; of = p })
    (symbol_type t (name_of r.of) r.attr.text)) (symbol left parts r.of)

-- what a pair of a reference to enclosing nodes lists: the number past the last where its phylum is unknown, and the
-- slot 0 where its attribute is
abbrev pub far_at : Table → ℕ → Bytes → Far
far_at t p a = record { phylum = p; slot = unwrap_or (attribute t p a) 0 }

abbrev pub far_of : Table → Pair → Far
far_of t q = far_at t (unwrap_or (phylum_named t q.phylum.text) (length t.phyla)) q.attr.text

abbrev pub far_list : Table → Remote → List Far
far_list t r = map (far_of t) r.pairs

-- the slot that the phylum of an operator has for the same list
abbrev pub far_slot : Table → ℕ → Remote → Option ℕ
far_slot t op r = option_and_then (λ p. slot_of_far (attrs_of t.phyla p) (far_list t r)) (phylum_of t.ops op)

-- the type of the attribute that a pair lists
abbrev pub pair_type : Table → Pair → Option ℕ
pair_type t q = option_and_then (λ p. attr_type (attrs_of t.phyla p) q.attr.text) (phylum_named t q.phylum.text)

-- whether a pair lists an attribute of this type, and whether all pairs of a reference list attributes of one type
abbrev pub lists_type : Table → ℕ → Pair → Bool
lists_type t p q = unwrap_or (option_map (nat_eq p) (pair_type t q)) false

abbrev pub first_type : Table → List Pair → Option ℕ
first_type t [] = None
first_type t (q ∷ qs) = pair_type t q

abbrev pub are_alike : Table → Remote → Bool
are_alike t r = unwrap_or (option_map (λ p. list_all (lists_type t p) r.pairs) (first_type t r.pairs)) false
