-- Trees as values, and the tree that stands under a node.
use Rattle.std.specs.Prelude.{◌≡◌, ℕ, zero, suc, List, [], ◌∷◌, Option, Some, None}
use Rattle.sg_forest.specs.declared.node_id.NodeId.{NodeId}
use Rattle.sg_forest.specs.Node.{Node}
use Rattle.sg_forest.specs.Trees.{IsInside, IsBelow, Climbs}

-- a tree is a label, a part and a row of trees
mutual
  pub data Tree (L D : Type 0) : Type 0 where
    node : L → D → Row L D → Tree L D

  pub data Row (L D : Type 0) : Type 0 where
    end : Row L D
    beside : Tree L D → Row L D → Row L D

module _ {L D : Type 0} where
  -- the tree at one place of a row
  abbrev pub tree_at : Row L D → ℕ → Option (Tree L D)
  tree_at end k = None
  tree_at (beside t ts) zero = Some t
  tree_at (beside t ts) (suc k) = tree_at ts k

  -- the row with the tree at one place changed
  abbrev pub changed_at : ℕ → (Tree L D → Tree L D) → Row L D → Row L D
  changed_at k f end = end
  changed_at zero f (beside t ts) = beside (f t) ts
  changed_at (suc k) f (beside t ts) = beside t (changed_at k f ts)

  -- the tree with one child changed
  abbrev pub changed_kid : ℕ → (Tree L D → Tree L D) → Tree L D → Tree L D
  changed_kid k f (node label part ts) = node label part (changed_at k f ts)

  -- the tree with another part at its root
  abbrev pub with_part : D → Tree L D → Tree L D
  with_part new (node label part ts) = node label new ts

  -- the tree with what stands at a place changed, where the place is read upward: the innermost
  -- child number comes first
  abbrev pub changed : List ℕ → (Tree L D → Tree L D) → Tree L D → Tree L D
  changed [] f t = f t
  changed (k ∷ path) f t = changed path (changed_kid k f) t

  -- the tree with another in that place
  abbrev pub replaced : List ℕ → Tree L D → Tree L D → Tree L D
  replaced path new t = changed path (λ _. new) t

module _ {L D : Type 0} (Fits : D → D → Type 0) where
  -- the trees differ in parts alone, and each part fits the other's in its place
  abbrev mutual
    pub IsAlike : Tree L D → Tree L D → Type 0
    IsAlike (node label part ts) (node other new us) = (label ≡ other) × Fits part new × AreAlike ts us

    pub AreAlike : Row L D → Row L D → Type 0
    AreAlike end end = Unit {0}
    AreAlike end (beside u us) = ⊥
    AreAlike (beside t ts) end = ⊥
    AreAlike (beside t ts) (beside u us) = IsAlike t u × AreAlike ts us

module _ {L D : Type 0} (at : NodeId → Option (Node L D)) where
  -- the node is there with this label, this part and these children
  pub record Shows (n : NodeId) (label : L) (part : D) (kids : List NodeId) : Type 0 where
    pub node : Node L D
    pub found : at n ≡ Some node
    pub has_label : node.label ≡ label
    pub has_part : node.part ≡ part
    pub has_kids : node.kids ≡ kids

  -- the tree stands under the node; the row of trees stands under the nodes, in order
  abbrev mutual
    pub Stands : NodeId → Tree L D → Type 0
    Stands n (node label part ts) = (kids : List NodeId) × Shows n label part kids × StandAll kids ts

    pub StandAll : List NodeId → Row L D → Type 0
    StandAll ids end = ids ≡ []
    StandAll ids (beside t ts) = (id : NodeId) × (rest : List NodeId) × (ids ≡ id ∷ rest) × Stands id t × StandAll rest ts

-- what a step does to the trees that stand under nodes, and to the ways up
module _ {L D : Type 0} (old new : NodeId → Option (Node L D)) where
  -- each tree stays
  abbrev pub KeepsTrees : Type 0
  KeepsTrees = (m : NodeId) (t : Tree L D) → Stands old m t → Stands new m t

  -- a tree that the node is not in stays
  abbrev pub KeepsTreesWithout : NodeId → Type 0
  KeepsTreesWithout n = (m : NodeId) (t : Tree L D) → (IsInside old n m → ⊥) → Stands old m t → Stands new m t

  -- a tree that the node is not below the top of stays
  abbrev pub KeepsTreesNotOver : NodeId → Type 0
  KeepsTreesNotOver n = (m : NodeId) (t : Tree L D) → (IsBelow old n m → ⊥) → Stands old m t → Stands new m t

  -- a tree whose top is outside the other tree stays
  abbrev pub KeepsTreesOutside : NodeId → Type 0
  KeepsTreesOutside r = (m : NodeId) (t : Tree L D) → (IsInside old m r → ⊥) → Stands old m t → Stands new m t

  -- each tree that the node is in is changed at that place
  abbrev pub ChangesTrees : NodeId → (Tree L D → Tree L D) → Type 0
  ChangesTrees n f = (path : List ℕ) (m : NodeId) (t : Tree L D) → Climbs old path n m → Stands old m t → Stands new m (changed path f t)

  -- each tree that the node is below the top of has the other node's tree in that place
  abbrev pub ReplacesTrees : NodeId → NodeId → Type 0
  ReplacesTrees n d = (k : ℕ) (path : List ℕ) (m : NodeId) (t u : Tree L D) → Climbs old (k ∷ path) n m → Stands old m t → Stands old d u → Stands new m (replaced (k ∷ path) u t)

  -- the new node's tree is made of those of its children
  abbrev pub GrowsTree : L → D → List NodeId → NodeId → Type 0
  GrowsTree label part kids id = (ts : Row L D) → StandAll old kids ts → Stands new id (node label part ts)

  -- each way up stays
  abbrev pub KeepsWays : Type 0
  KeepsWays = (path : List ℕ) (n m : NodeId) → Climbs old path n m → Climbs new path n m

  -- a way up that does not lead out of the tree stays
  abbrev pub KeepsWaysWithin : NodeId → Type 0
  KeepsWaysWithin a = (path : List ℕ) (n m : NodeId) → (IsInside old n a → IsInside old m a) → Climbs old path n m → Climbs new path n m

  -- a way up to the node stays
  abbrev pub KeepsWaysTo : NodeId → Type 0
  KeepsWaysTo d = (path : List ℕ) (n : NodeId) → Climbs old path n d → Climbs new path n d

  -- a way up from the node is one from the other now
  abbrev pub MovesWays : NodeId → NodeId → Type 0
  MovesWays a d = (k : ℕ) (path : List ℕ) (m : NodeId) → Climbs old (k ∷ path) a m → Climbs new (k ∷ path) d m

  -- a way up from outside the tree stays
  abbrev pub KeepsWaysOutside : NodeId → Type 0
  KeepsWaysOutside r = (path : List ℕ) (n m : NodeId) → (IsInside old n r → ⊥) → Climbs old path n m → Climbs new path n m
