-- What each call does to the nodes of a forest.
use Rattle.std.specs.Prelude.{◌≡◌, ◌≢◌, ℕ, List, Option, Some, None, slice_get, slice_set}
use Rattle.sg_forest.specs.declared.node_id.NodeId.{NodeId}
use Rattle.sg_forest.specs.Node.{Node}
use Rattle.sg_forest.specs.Trees.{IsRoot, IsInside}

-- no node stands twice among these
abbrev pub AreDistinct : List NodeId → Type 0
AreDistinct ids = (j k : ℕ) (id : NodeId) → slice_get ids j ≡ Some id → slice_get ids k ≡ Some id → j ≡ k

module _ {L D : Type 0} (sort : L → ℕ) (at : NodeId → Option (Node L D)) where
  -- the nodes are of one sort
  abbrev pub SameSort : NodeId → NodeId → Type 0
  SameSort n m = (x y : Node L D) → at n ≡ Some x → at m ≡ Some y → sort x.label ≡ sort y.label

  -- each is a root, of the sort that the label names for its place
  abbrev pub AreRoots : (ℕ → ℕ) → List NodeId → Type 0
  AreRoots kid_sort ids = (k : ℕ) (id : NodeId) → slice_get ids k ≡ Some id → (root : IsRoot at id) × (sort root.node.label ≡ kid_sort k)

module _ {L D : Type 0} (old new : NodeId → Option (Node L D)) where
  -- each node is still there, with its label and its part
  pub record KeepsParts : Type 0 where
    pub kept : (n : NodeId) (x : Node L D) → old n ≡ Some x → (y : Node L D) × (new n ≡ Some y) × (y.label ≡ x.label) × (y.part ≡ x.part)

  -- each node is still there, with its label, its part and its children
  pub record KeepsKids : Type 0 where
    pub kept : (n : NodeId) (x : Node L D) → old n ≡ Some x → (y : Node L D) × (new n ≡ Some y) × (y.label ≡ x.label) × (y.part ≡ x.part) × (y.kids ≡ x.kids)

  -- only parts differ
  pub record KeepsShape : Type 0 where
    pub kept : (n : NodeId) (x : Node L D) → old n ≡ Some x → (y : Node L D) × (new n ≡ Some y) × (y.label ≡ x.label) × (y.up ≡ x.up) × (y.kids ≡ x.kids)
    pub dead : (n : NodeId) → old n ≡ None → new n ≡ None

  -- one node has this part, and nothing else changed
  pub record IsPartSet (n : NodeId) (part : D) : Type 0 where
    pub changed : (x : Node L D) → old n ≡ Some x → new n ≡ Some (record x { part = part })
    pub others : (m : NodeId) → m ≢ n → new m ≡ old m

  -- the root d hangs in the place of a, which is a root, and nothing else changed
  pub record IsSwapped (a d p : NodeId) (k : ℕ) : Type 0 where
    pub freed : (x : Node L D) → old a ≡ Some x → new a ≡ Some (record x { up = None })
    pub placed : (x : Node L D) → old d ≡ Some x → new d ≡ Some (record x { up = Some (p, k) })
    pub listed : (x : Node L D) → old p ≡ Some x → new p ≡ Some (record x { kids = slice_set x.kids k d })
    pub others : (n : NodeId) → n ≢ a → n ≢ d → n ≢ p → new n ≡ old n

  -- the roots hang under a new root, in this order, and nothing else changed
  pub record IsRootMade (label : L) (part : D) (kids : List NodeId) (id : NodeId) : Type 0 where
    pub was_free : old id ≡ None
    pub root : new id ≡ Some (record { label = label; part = part; up = None; kids = kids })
    pub hung : (k : ℕ) (kid : NodeId) (x : Node L D) → slice_get kids k ≡ Some kid → old kid ≡ Some x → new kid ≡ Some (record x { up = Some (id, k) })
    pub others : (n : NodeId) → n ≢ id → ((k : ℕ) → slice_get kids k ≢ Some n) → new n ≡ old n

  -- the tree is gone, and nothing else changed
  pub record IsDropped (root : NodeId) : Type 0 where
    pub gone : (n : NodeId) → IsInside old n root → new n ≡ None
    pub others : (n : NodeId) → (IsInside old n root → ⊥) → new n ≡ old n
