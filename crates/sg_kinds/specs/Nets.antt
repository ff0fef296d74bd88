-- A net of nodes: what the attribute equations read of a tree, be it a term or a tree in a forest.
use Rattle.std.specs.Prelude.{ℕ, zero, suc, List, [], ◌∷◌, Option, Some, None}
use Rattle.sg_kinds.specs.Values.{Value}
use Rattle.sg_kinds.specs.Terms.{Term, Leaf, Node}
use Rattle.sg_kinds.specs.Specification.{Operator, Occurrence, phylum_of}
use Rattle.sg_kinds.specs.Places.{Place, sub}

-- a node is one of an operator, or a leaf of a phylum
pub data NodeLabel : Type 0 where
  Operation : ℕ → NodeLabel
  Holding : ℕ → Value → NodeLabel
  Missing : NodeLabel

-- what a node is, its k-th child, and the node above it with its own child number
pub record Net (N : Type 0) : Type 0 where
  pub label : N → NodeLabel
  pub kid : N → ℕ → N
  pub up : N → Option (N × ℕ)

-- a slot of a node: an attribute of its phylum or, past these, a local of its operator
pub record Reference (N : Type 0) : Type 0 where
  pub node : N
  pub slot : ℕ

-- the phylum of a node
abbrev pub phylum_at : List Operator → NodeLabel → Option ℕ
phylum_at ops (Operation op) = phylum_of ops op
phylum_at ops (Holding p v) = Some p
phylum_at ops Missing = None

-- an occurrence of a node's operator, as a slot of the node or of one of its children
abbrev pub node_there : {N : Type 0} → Net N → N → ℕ → N
node_there net n zero = n
node_there net n (suc k) = net.kid n k

abbrev pub referred : {N : Type 0} → Net N → N → Occurrence → Reference N
referred net n o = record { node = node_there net n o.at; slot = o.slot }

-- a term as a net of its places
abbrev pub label_of : Option Term → NodeLabel
label_of None = Missing
label_of (Some (Leaf p v)) = Holding p v
label_of (Some (Node op scheme elided ts)) = Operation op

abbrev pub above : Place → Option (Place × ℕ)
above [] = None
above (k ∷ u) = Some (u, k)

abbrev pub net_of : Term → Net Place
net_of t = record { label = λ u. label_of (sub t u); kid = λ u k. k ∷ u; up = above }
