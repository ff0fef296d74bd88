-- What it is to put a term in the place of a node.
use Rattle.std.specs.Prelude.{◌≡◌, ◌≢◌, ℕ, List, ◌∷◌, Some}
use Rattle.sg_kinds.specs.Terms.{Term}
use Rattle.sg_kinds.specs.Fits.{Fits}
use Rattle.sg_kinds.specs.Places.{Place, put, sub}
use Rattle.sg_forest.specs.declared.node_id.NodeId.{NodeId}
use Rattle.sg_forest.specs.Trees.{Climbs, IsRoot}
use Rattle.sg_groves.specs.Grove.{Grove, nodes}
use Rattle.sg_groves.specs.Holds.{Holds}
use Rattle.sg_changes.specs.Changes.{part_of}
use Rattle.sg_changes.specs.declared.spot.Selection.{Selection}
use Rattle.sg_states.specs.Seen.{settled_spot}
use Rattle.sg_states.specs.Paged.{IsWhole, IsLook}
use Rattle.sg_exchanges.specs.Roots.{AreTheRoots}
use Rattle.sg_exchanges.specs.declared.turns.Turned.{Turned}

-- a node stands at a place of the edited term, and another term fits the phylum of what it holds
pub record MayPut (g : Grove) (root at : NodeId) (t : Term) (u : Place) (s : Term) : Type 0 where
  pub whole : IsWhole g root t
  pub fits : Fits g.spec t g.spec.root
  pub way : Climbs (nodes g) u at root
  pub phylum : ℕ
  pub stood : (x : Term) → sub t u ≡ Some x → Fits g.spec x phylum
  pub fit : Fits g.spec s phylum

-- the term has the other one in that place, is right, and is seen; what stood there hangs, and all other roots stay
pub record IsPut (old new : Grove) (root at : NodeId) (t : Term) (u : Place) (s : Term) (height : ℕ) (select : Selection) (top : ℕ) (r : Turned) : Type 0 where
  pub whole : IsWhole new r.root (put t u s)
  pub fits : Fits old.spec (put t u s) old.spec.root
  pub look : IsLook new r.root (put t u s) (settled_spot old.spec height old.view (put t u s) select top) r.look
  pub hanging : (n : NodeId) (x : Term) → IsRoot (nodes old) n → n ≢ root → Holds old n x → Holds new n x
  pub out : Holds new at (part_of t u)
  pub roots : (rest : List NodeId) → AreTheRoots old (root ∷ rest) → AreTheRoots new (r.root ∷ (at ∷ rest))
