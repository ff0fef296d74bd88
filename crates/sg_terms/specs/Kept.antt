-- What calls do to the terms that nodes hold.
use Rattle.std.specs.Prelude.{◌≡◌, ℕ, List, [], ◌∷◌, Some, slice_get, ⊤}
use Rattle.sg_kinds.specs.Terms.{Term, Terms, NoTerm, AndTerm}
use Rattle.sg_kinds.specs.Places.{Place, sub, put}
use Rattle.sg_pool.specs.Pools.{IsGrown}
use Rattle.sg_forest.specs.declared.node_id.NodeId.{NodeId}
use Rattle.sg_forest.specs.Trees.{IsRoot, IsInside, IsBelow, Climbs}
use Rattle.sg_forest.specs.Tree.{KeepsWays}
use Rattle.sg_forest.specs.Steps.{KeepsKids}
use Rattle.sg_groves.specs.Grove.{Grove, nodes}
use Rattle.sg_groves.specs.Holds.{Holds}

-- the nodes hold the terms, in order
abbrev pub AllHold : Grove → List NodeId → Terms → Type 0
AllHold g [] NoTerm = ⊤
AllHold g (id ∷ ids) (AndTerm t ts) = Holds g id t × AllHold g ids ts
AllHold g ids ts = ⊥

-- each node is a root, of the phylum for its place
abbrev pub AreRootsOf : Grove → List ℕ → List NodeId → Type 0
AreRootsOf g phyla ids = (k : ℕ) (id : NodeId) → slice_get ids k ≡ Some id
    → (root : IsRoot (nodes g) id) × (slice_get phyla k ≡ Some root.node.label.phylum)

module _ (old new : Grove) where
  -- nodes were added over roots at most: each node is and keeps what it did, and has the same below it
  pub record IsAdded : Type 0 where
    pub spec : new.spec ≡ old.spec
    pub view : new.view ≡ old.view
    pub pool : IsGrown old.pool new.pool
    pub kids : KeepsKids (nodes old) (nodes new)
    pub ways : KeepsWays (nodes old) (nodes new)

  -- each node holds its term still
  abbrev pub KeepsTerms : Type 0
  KeepsTerms = (m : NodeId) (t : Term) → Holds old m t → Holds new m t

  -- a term that the node is not in stays
  abbrev pub KeepsTermsWithout : NodeId → Type 0
  KeepsTermsWithout n = (m : NodeId) (t : Term) → (IsInside (nodes old) n m → ⊥) → Holds old m t → Holds new m t

  -- a term that the node is not below the top of stays
  abbrev pub KeepsTermsNotOver : NodeId → Type 0
  KeepsTermsNotOver n = (m : NodeId) (t : Term) → (IsBelow (nodes old) n m → ⊥) → Holds old m t → Holds new m t

  -- a term whose top is outside the tree stays
  abbrev pub KeepsTermsOutside : NodeId → Type 0
  KeepsTermsOutside root = (m : NodeId) (t : Term) → (IsInside (nodes old) m root → ⊥) → Holds old m t → Holds new m t

  -- each term that the node is in is changed at that place
  abbrev pub ChangesTerms : NodeId → (Term → Term) → Type 0
  ChangesTerms n f = (u : Place) (m : NodeId) (t s : Term) → Climbs (nodes old) u n m → Holds old m t
      → sub t u ≡ Some s → Holds new m (put t u (f s))

  -- each term that the node is below the top of has the other node's term in that place
  abbrev pub ReplacesTerms : NodeId → NodeId → Type 0
  ReplacesTerms n d = (k : ℕ) (u : Place) (m : NodeId) (t s : Term) → Climbs (nodes old) (k ∷ u) n m → Holds old m t
      → Holds old d s → Holds new m (put t (k ∷ u) s)
