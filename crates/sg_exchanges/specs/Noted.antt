-- What a refused call notes.
use Rattle.std.specs.Prelude.{◌≡◌, ◌≢◌, ◌⊎◌, List, ◌++◌, Option, Some, None}
use Rattle.sg_kinds.specs.Terms.{Term}
use Rattle.sg_kinds.specs.Places.{Place, put}
use Rattle.sg_kinds.specs.Nets.{Reference}
use Rattle.sg_kinds.specs.declared.spec.Spec.{Spec}
use Rattle.sg_eval.specs.declared.journal.Instance.{Instance}
use Rattle.sg_forest.specs.declared.node_id.NodeId.{NodeId}
use Rattle.sg_forest.specs.Trees.{Climbs, IsRoot}
use Rattle.sg_groves.specs.Evaluated.{IsAtOrBelow, IsEvaluated}
use Rattle.sg_groves.specs.Grove.{Grove, nodes, IsGrove}
use Rattle.sg_groves.specs.Holds.{Holds}
use Rattle.sg_terms.specs.Entries.{Gained}

-- a journal's list gained the entries of some of these instances of a term, none twice, at the nodes of a tree that
-- holds the term
pub record NotedSome (spec : Spec) (t : Term) (IsAmong : Reference Place → Type 0) (old new : List Instance) : Type 0 where
  pub grove : Grove
  pub is : IsGrove grove
  pub same : grove.spec ≡ spec
  pub root : NodeId
  pub holds : Holds grove root t
  pub gained : Gained grove root t IsAmong old new

-- or nothing
abbrev pub Noted : Spec → Term → (Reference Place → Type 0) → List Instance → List Instance → Type 0
Noted spec t IsAmong old new = (new ≡ old) ⊎ NotedSome spec t IsAmong old new

-- a node of the tree that comes, at a place of it: of the tree that hangs from this root, or else a new one
abbrev pub Comes : Grove → NodeId → Option NodeId → Place → NodeId → Type 0
Comes old top (Some d) v n = IsRoot (nodes old) d × (d ≢ top) × Climbs (nodes old) v n d
Comes old top None v n = nodes old n ≡ None

-- a tree has the nodes of the tree under `top` outside a place, and in it those of the tree that comes there
pub record IsTreeThen (old : Grove) (top : NodeId) (u : Place) (from : Option NodeId) (new : Grove) (root : NodeId)
    : Type 0 where
  pub outside : (v : Place) (n : NodeId) → (IsAtOrBelow v u → ⊥) → Climbs (nodes new) v n root
      → Climbs (nodes old) v n top
  pub inside : (v : Place) (n : NodeId) → Climbs (nodes new) (v ++ u) n root → Comes old top from v n

-- the entries are at the nodes of that tree
pub record NotedSomeAt (spec : Spec) (old : Grove) (top : NodeId) (u : Place) (from : Option NodeId) (t : Term)
    (IsAmong : Reference Place → Type 0) (was now : List Instance) : Type 0 where
  pub some : NotedSome spec t IsAmong was now
  pub tree : IsTreeThen old top u from some.grove some.root

-- nothing is noted, or some of what is evaluated where a subterm comes to a place of the term under `top`
abbrev pub NotedPut : Grove → NodeId → Option NodeId → Term → Place → Term → List Instance → List Instance → Type 0
NotedPut old top from t u s was now =
    (now ≡ was) ⊎ NotedSomeAt old.spec old top u from (put t u s) (IsEvaluated old.spec t u s) was now
