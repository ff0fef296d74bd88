-- The node at the top of a term.
use Rattle.std.specs.Prelude.{Option, option_map}
use Rattle.sg_kinds.specs.Terms.{Term, Leaf, Node, NoTerm}
use Rattle.sg_kinds.specs.Places.{Place, sub}

-- a term without its children
abbrev pub bare : Term → Term
bare (Leaf p v) = Leaf p v
bare (Node op scheme elided ts) = Node op scheme elided NoTerm

-- the node at a place of a term: its operator, its scheme number and its mark, or its leaf
abbrev pub node_in : Term → Place → Option Term
node_in t u = option_map bare (sub t u)
