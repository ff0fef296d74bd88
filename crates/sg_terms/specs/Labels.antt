-- What the readers of a node tell of its term.
use Rattle.std.specs.Prelude.{ℕ, Bool, false, Option, Some, None}
use Rattle.sg_kinds.specs.Terms.{Term, Leaf, Node}

-- the operator at the root of a term, none of a leaf
abbrev pub op_of : Term → Option ℕ
op_of (Leaf p v) = None
op_of (Node op scheme elided ts) = Some op

-- the scheme number and the mark at the root of a term; a leaf has 0 and no mark
abbrev pub scheme_of : Term → ℕ
scheme_of (Leaf p v) = 0
scheme_of (Node op scheme elided ts) = scheme

abbrev pub elided_of : Term → Bool
elided_of (Leaf p v) = false
elided_of (Node op scheme elided ts) = elided

-- the term with another scheme number, or another mark, at its root
abbrev pub with_scheme : ℕ → Term → Term
with_scheme k (Leaf p v) = Leaf p v
with_scheme k (Node op scheme elided ts) = Node op k elided ts

abbrev pub with_elided : Bool → Term → Term
with_elided on (Leaf p v) = Leaf p v
with_elided on (Node op scheme elided ts) = Node op scheme on ts
