-- The counts of a term, and of the whole one around a node.
use Rattle.std.specs.Prelude.{◌≡◌, ◌-◌, ◌^◌, min}
use Rattle.sg_kinds.specs.Places.{Place, put}
use Rattle.sg_kinds.specs.Terms.{Term, nodes_of, height_of}
use Rattle.sg_forest.specs.declared.node_id.NodeId.{NodeId}
use Rattle.sg_groves.specs.Grove.{Grove}
use Rattle.sg_groves.specs.Holds.{IsPlaced}
use Rattle.sg_build.specs.declared.limits.Counts.{Counts}

-- how many nodes it has and how deep it is, each as far as the greatest usize
pub record AreCounts (t : Term) (c : Counts) : Type 0 where
  pub nodes : c.nodes ≡ min (nodes_of t) (2 ^ 64 - 1)
  pub depth : c.depth ≡ min (height_of t) (2 ^ 64 - 1)

-- this holds of the whole term in which a node stands
abbrev pub OfWhole : Grove → NodeId → (Term → Type 0) → Type 0
OfWhole g n P = (root : NodeId) (whole : Term) (u : Place) → IsPlaced g root whole u n → P whole

-- and this of the whole term with another one, of these counts, in the node's place
abbrev pub OfReplaced : Grove → NodeId → Counts → (Term → Type 0) → Type 0
OfReplaced g n c P = (root : NodeId) (whole s : Term) (u : Place) → IsPlaced g root whole u n → AreCounts s c
    → P (put whole u s)
