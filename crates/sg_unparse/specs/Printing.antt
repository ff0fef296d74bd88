-- Values as they are shown, and the scheme in which a node is shown.
use Rattle.std.specs.Prelude.{ℕ, ◌%◌, List, true, false, if◌then◌else◌, [], ◌∷◌, ◌++◌, length, codes, slice_get, Option, None, option_map, option_and_then, unwrap_or}
use Rattle.std.specs.Fmt.{signed_decimal}
use Rattle.sg_kinds.specs.Values.{Bytes, Value, Truth, Number, Chars, Tree, Fault}
use Rattle.sg_kinds.specs.Terms.{Term, Leaf, Node}
use Rattle.sg_kinds.specs.Specification.{has_shape, is_lexical_shape, phylum_name}
use Rattle.sg_kinds.specs.declared.spec.Spec.{Spec}
use Rattle.sg_kinds.specs.declared.spec.Operator.{Operator}
use Rattle.sg_kinds.specs.declared.spec.Scheme.{Scheme}
use Rattle.sg_kinds.specs.declared.marks.FaultKind.{FaultKind}
use Rattle.sg_kinds.specs.declared.marks.FaultKind.TheVariants.{Fuel, Depth, Size, Divide, Overflow, NoMatch, Convert}

-- a fault
abbrev pub fault_text : FaultKind → Bytes
fault_text Fuel = codes "<fuel>"
fault_text Depth = codes "<depth>"
fault_text Size = codes "<size>"
fault_text Divide = codes "<divide>"
fault_text Overflow = codes "<overflow>"
fault_text NoMatch = codes "<nomatch>"
fault_text Convert = codes "<convert>"

-- a text of a phylum: the empty text of a lexeme phylum is shown as the phylum's name in angle brackets
abbrev pub text_shown : Spec → ℕ → Bytes → Bytes
text_shown spec p [] =
    if has_shape spec.phyla is_lexical_shape p then codes "<" ++ phylum_name spec.phyla p ++ codes ">" else []
text_shown spec p (b ∷ s) = b ∷ s

-- a value of a phylum; a tree shows nothing
abbrev pub value_text : Spec → ℕ → Value → Bytes
value_text spec p (Truth true) = codes "true"
value_text spec p (Truth false) = codes "false"
value_text spec p (Number z) = signed_decimal z
value_text spec p (Chars s) = text_shown spec p s
value_text spec p (Tree op vs) = []
value_text spec p (Fault kind) = fault_text kind

-- the schemes of an operator
abbrev pub schemes_of : Spec → ℕ → List Scheme
schemes_of spec op = unwrap_or (option_map (λ (o : Operator). o.schemes) (slice_get spec.ops op)) []

-- the scheme of a number, which stands for its remainder by how many the operator has
abbrev pub scheme_of : Spec → ℕ → ℕ → Option Scheme
scheme_of spec op n =
    option_and_then (λ (o : Operator). slice_get o.schemes (n % length o.schemes)) (slice_get spec.ops op)

-- the scheme in which the root of a term is shown, and how many schemes its operator has; none of a leaf
abbrev pub current_scheme : Spec → Term → Option Scheme
current_scheme spec (Leaf p v) = None
current_scheme spec (Node op n elided ts) = scheme_of spec op n

abbrev pub count_of : Spec → ℕ → ℕ
count_of spec op = unwrap_or (option_map (λ (o : Operator). length o.schemes) (slice_get spec.ops op)) 0

abbrev pub scheme_count : Spec → Term → ℕ
scheme_count spec (Leaf p v) = 0
scheme_count spec (Node op n elided ts) = count_of spec op
