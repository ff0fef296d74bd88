-- What a contract sees of a forest, and how its nodes hang.
use Rattle.std.specs.Prelude.{◌≡◌, ◌-◌, ℕ, zero, suc, List, [], ◌∷◌, length, Option, Some, None, slice_get, refl}
use Rattle.std.specs.Option.{option_map_or}
use Rattle.std.specs.Coded.{Coded, code_by, coded×, coded_ℕ}
use Rattle.std.specs.FinMap as map
use Rattle.std.specs.Ordering.{nat_cmp}
use Rattle.slab.specs.Slab.{Slab, get, entries, slab_len}
use Rattle.sg_forest.specs.declared.node_id.NodeId.{NodeId}
use Rattle.sg_forest.specs.Node.{Node, node_code}

-- the node under each number, and how many more nodes have their memory
pub record Trees (L D : Type 0) : Type 0 where
  pub nodes : map.FinMap nat_cmp (Node L D)
  pub spare : ℕ

-- a forest is stored as the pair of its fields
abbrev pub trees_code : {L D : Type 0} → Coded L → Coded D → Coded (Trees L D)
trees_code {L} {D} label part =
    code_by
    (map.FinMap nat_cmp (Node L D) × ℕ)
    (coded× (map.code coded_ℕ (node_code label part)) coded_ℕ)
    (λ t. (t.nodes, t.spare))
    (λ p. record { nodes = p.0; spare = p.1 })
    (λ _. refl)

module _ {L D : Type 0} where
  -- the node under a number
  abbrev pub node_at : Trees L D → NodeId → Option (Node L D)
  node_at t n = map.get t.nodes n.key

  -- the node that a slab has under a number
  abbrev pub node_in : Slab (Node L D) → NodeId → Option (Node L D)
  node_in s n = get s n.key

  -- the forest that a slab stands for
  abbrev pub trees_of : Slab (Node L D) → Trees L D
  trees_of s = record { nodes = map.from_sorted (entries s); spare = s.capacity - slab_len s }

-- facts about nodes, wherever they are found
module _ {L D : Type 0} (at : NodeId → Option (Node L D)) where
  -- a node is there
  pub record IsLive (n : NodeId) : Type 0 where
    pub node : Node L D
    pub found : at n ≡ Some node

  -- a node is there, and hangs under no other
  pub record IsRoot (n : NodeId) : Type 0 where
    pub node : Node L D
    pub found : at n ≡ Some node
    pub top : node.up ≡ None

  -- a node is there, and hangs as this child of that parent
  pub record IsChild (n p : NodeId) (k : ℕ) : Type 0 where
    pub node : Node L D
    pub found : at n ≡ Some node
    pub hangs : node.up ≡ Some (p, k)

  -- the parent is there, and lists the node as this child
  pub record Lists (p : NodeId) (k : ℕ) (n : NodeId) : Type 0 where
    pub node : Node L D
    pub found : at p ≡ Some node
    pub lists : slice_get node.kids k ≡ Some n

  -- the way up from the first node to the second, by the child numbers on it
  abbrev pub Climbs : List ℕ → NodeId → NodeId → Type 0
  Climbs [] n m = n ≡ m
  Climbs (k ∷ path) n m = (p : NodeId) × IsChild n p k × Climbs path p m

  -- the first node is the second or stands below it
  pub record IsInside (n m : NodeId) : Type 0 where
    pub path : List ℕ
    pub climbs : Climbs path n m

  -- the first node stands below the second
  pub record IsBelow (n m : NodeId) : Type 0 where
    pub place : ℕ
    pub path : List ℕ
    pub climbs : Climbs (place ∷ path) n m

  -- the root of a node's tree
  pub record HasRoot (n : NodeId) : Type 0 where
    pub root : NodeId
    pub is_root : IsRoot root
    pub path : List ℕ
    pub climbs : Climbs path n root

  -- parents and children agree, and each node hangs under a root
  pub record IsLinked : Type 0 where
    pub down : (p : NodeId) (k : ℕ) (n : NodeId) → Lists p k n → IsChild n p k
    pub upward : (p : NodeId) (k : ℕ) (n : NodeId) → IsChild n p k → Lists p k n
    pub rooted : (n : NodeId) → IsLive n → HasRoot n

module _ {L D : Type 0} (arity sort : L → ℕ) (kid_sort : L → ℕ → ℕ) (at : NodeId → Option (Node L D)) where
  -- trees whose nodes have as many children as their labels say, of the sorts that these name
  pub record IsForest : Type 0 where
    pub linked : IsLinked at
    pub arities : (n : NodeId) (x : Node L D) → at n ≡ Some x → length x.kids ≡ arity x.label
    pub sorts : (p : NodeId) (k : ℕ) (n : NodeId) (x y : Node L D) → at p ≡ Some x → slice_get x.kids k ≡ Some n → at n ≡ Some y → sort y.label ≡ kid_sort x.label k

-- how deep nodes hang
module _ {L D : Type 0} (at : NodeId → Option (Node L D)) where
  -- how many steps lead up to a root, where so many are enough
  abbrev pub depth_within : ℕ → NodeId → ℕ
  depth_within zero n = 0
  depth_within (suc most) n = option_map_or (λ x. option_map_or (λ u. suc (depth_within most u.0)) x.up 0) (at n) 0

module _ {L D : Type 0} where
  -- how many nodes there are beyond those above a node: it falls on each step down a tree
  abbrev pub room_below : Trees L D → NodeId → ℕ
  room_below t n = map.len t.nodes - depth_within (node_at t) (map.len t.nodes) n
