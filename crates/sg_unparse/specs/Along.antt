-- The nodes at the places of a term that a node holds, and what is shown and typed there.
use Rattle.std.specs.Prelude.{◌≡◌, ℕ, Bool, false, ◌==◌, if◌then◌else◌, List, [], ◌∷◌, Option, Some, None, option_and_then, unwrap_or, slice_get}
use Rattle.sg_kinds.specs.Values.{Bytes, Value}
use Rattle.sg_kinds.specs.Terms.{Term, Terms, Leaf, Node}
use Rattle.sg_kinds.specs.Places.{Place}
use Rattle.sg_kinds.specs.Nets.{Reference}
use Rattle.sg_kinds.specs.declared.spec.Item.{Item}
use Rattle.sg_kinds.specs.declared.spec.Occurrence.{Occurrence}
use Rattle.sg_forest.specs.declared.node_id.NodeId.{NodeId}
use Rattle.sg_groves.specs.Grove.{Grove, nodes, spec_shown}
use Rattle.sg_groves.specs.Holds.{Holds}
use Rattle.sg_groves.specs.Stored.{value_there}
use Rattle.sg_terms.specs.Labels.{elided_of}
use Rattle.sg_unparse.specs.Cells.{Writing, plain, content, items, items_of, goes_on, shows, unparsed, unparsed_among}
use Rattle.sg_unparse.specs.Printing.{value_text}

-- the k-th child of a node, and of a node that has none the node itself
abbrev pub kid_of : Grove → NodeId → ℕ → Option NodeId
kid_of g n k = option_and_then (λ x. slice_get x.kids k) (nodes g n)

-- whether a node is the captured one
abbrev pub is_captured : Option NodeId → NodeId → Bool
is_captured None n = false
is_captured (Some m) n = n.key == m.key

module _ (g : Grove) (root : NodeId) where
  -- the node along a place below another; where there is none, that one
  abbrev pub node_along : Place → NodeId
  node_along [] = root
  node_along (k ∷ u) = unwrap_or (kid_of g (node_along u) k) root

  -- the values that are stored
  abbrev pub stored : Reference Place → Value
  stored r = value_there g (node_along r.node) r.slot

  -- the text that is typed in the place of a captured node
  abbrev pub typed_in : Option NodeId → Bytes → Place → Option Bytes
  typed_in captured text u = if is_captured captured (node_along u) then Some text else None

  -- a node stands at a place and holds a term
  pub record IsAlong (u : Place) (n : NodeId) (t : Term) : Type 0 where
    pub along : node_along u ≡ n
    pub holds : Holds g n t

  module _ (captured : Option NodeId) (text : Bytes) where
    -- what is written for a node, without its end and with it
    abbrev pub items_in : Place → ℕ → Bool → List Item → List Writing → Writing
    items_in u op more is kids = items (spec_shown g) stored (typed_in captured text) u op more is kids

    abbrev pub shows_in : Place → ℕ → Occurrence → Writing
    shows_in u op o = shows (spec_shown g) stored (typed_in captured text) u op o

    abbrev pub kids_in : Place → Terms → List Writing
    kids_in u ts = unparsed_among (spec_shown g) stored (typed_in captured text) u 0 ts

    abbrev pub own_in : Place → Term → Writing
    own_in u (Leaf p v) = plain u (value_text (spec_shown g) p v)
    own_in u (Node op n elided ts) = items_in u op (goes_on ts) (items_of (spec_shown g) op n) (kids_in u ts)

    abbrev pub content_in : Place → Term → Writing
    content_in u t =
        content (spec_shown g) stored (typed_in captured text) u (typed_in captured text u) (elided_of t) (own_in u t)

    abbrev pub unparsed_in : Place → Term → Writing
    unparsed_in u t = unparsed (spec_shown g) stored (typed_in captured text) u t
