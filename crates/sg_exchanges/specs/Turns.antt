-- What a turn of a term does: another tree comes into the place of a node, or other marks.
use Rattle.std.specs.Prelude.{◌≡◌, ◌≢◌, ◌<◌, ℕ, List, [], ◌∷◌, ◌++◌, None, Some, ⊤}
use Rattle.sg_kinds.specs.Terms.{Term}
use Rattle.sg_kinds.specs.Fits.{Fits}
use Rattle.sg_kinds.specs.Places.{Place, put}
use Rattle.sg_eval.specs.declared.journal.Instance.{Instance}
use Rattle.sg_forest.specs.declared.node_id.NodeId.{NodeId}
use Rattle.sg_forest.specs.Node as forest
use Rattle.sg_forest.specs.Trees.{Climbs, IsRoot}
use Rattle.sg_forest.specs.Steps.{SameSort}
use Rattle.sg_groves.specs.declared.kind.Kind.{Kind}
use Rattle.sg_groves.specs.declared.part.Part.{Part}
use Rattle.sg_groves.specs.Evaluated.{IsEvaluated}
use Rattle.sg_groves.specs.Grove.{Grove, nodes}
use Rattle.sg_groves.specs.Holds.{Holds}
use Rattle.sg_groves.specs.TermAt.{term_at}
use Rattle.sg_terms.specs.Entries.{GainedAll}
use Rattle.sg_changes.specs.Changes.{part_of, marked}
use Rattle.sg_changes.specs.declared.spot.Selection.{Selection}
use Rattle.sg_states.specs.Seen.{settled_spot}
use Rattle.sg_states.specs.Paged.{IsWhole, IsLook}
use Rattle.sg_exchanges.specs.Noted.{NotedPut}
use Rattle.sg_exchanges.specs.Roots.{AreTheRoots}
use Rattle.sg_exchanges.specs.declared.turns.What.{What}
use Rattle.sg_exchanges.specs.declared.turns.What.TheVariants.{Tree, Shown}
use Rattle.sg_exchanges.specs.declared.turns.Turned.{Turned}

-- the term then, where a function tells what each root holds
abbrev pub made : (NodeId → Term) → Term → Place → What → Term
made tree t u (Tree d) = put t u (tree d)
made tree t u (Shown m) = marked t u m

-- the detached root that goes in, and the one that comes out
abbrev pub goes_in : What → List NodeId
goes_in (Tree d) = d ∷ []
goes_in (Shown m) = []

abbrev pub comes_out : What → NodeId → List NodeId
comes_out (Tree d) at = at ∷ []
comes_out (Shown m) at = []

-- the node that stands in the place then
abbrev pub stands_there : What → NodeId → NodeId
stands_there (Tree d) at = d
stands_there (Shown m) at = at

-- a detached tree of the node's phylum, or marks of a node of an operator
abbrev pub MayStand : Grove → NodeId → NodeId → What → Type 0
MayStand g root at (Tree d) = IsRoot (nodes g) d × (d ≢ root) × SameSort (λ (k : Kind). k.phylum) (nodes g) at d
MayStand g root at (Shown m) = ((x : forest.Node Kind Part) → nodes g at ≡ Some x → x.label.op ≢ None) × (m.scheme < 16)

pub record MayTurn (g : Grove) (root at : NodeId) (what : What) (t : Term) (u : Place) : Type 0 where
  pub whole : IsWhole g root t
  pub fits : Fits g.spec t g.spec.root
  pub way : Climbs (nodes g) u at root
  pub may : MayStand g root at what

-- a root is not the one that goes in, and what comes out holds what stood there
abbrev pub IsOther : What → NodeId → Type 0
IsOther (Tree d) n = n ≢ d
IsOther (Shown m) n = ⊤

abbrev pub ComesOut : Grove → NodeId → What → Term → Type 0
ComesOut g at (Tree d) s = Holds g at s
ComesOut g at (Shown m) s = ⊤

-- what hangs elsewhere holds what it did
abbrev pub KeepsHanging : Grove → Grove → NodeId → What → Type 0
KeepsHanging old new root what = (n : NodeId) (s : Term) → IsRoot (nodes old) n → n ≢ root → IsOther what n → Holds old n s → Holds new n s

-- the term is that of the definition, and right; what came out hangs, and all other roots stay
pub record IsTurned (old new : Grove) (root at : NodeId) (what : What) (t : Term) (u : Place) (now : NodeId) : Type 0 where
  pub whole : IsWhole new now (made (term_at old) t u what)
  pub fits : Fits old.spec (made (term_at old) t u what) old.spec.root
  pub hanging : KeepsHanging old new root what
  pub out : ComesOut new at what (part_of t u)
  pub roots : (rest : List NodeId) → AreTheRoots old (root ∷ goes_in what ++ rest) → AreTheRoots new (now ∷ comes_out what at ++ rest)

-- and it is looked at
pub record IsSeen (old new : Grove) (root at : NodeId) (what : What) (t : Term) (u : Place) (height : ℕ) (select : Selection) (top : ℕ) (r : Turned) : Type 0 where
  pub turned : IsTurned old new root at what t u r.root
  pub look : IsLook new r.root (made (term_at old) t u what)
      (settled_spot old.spec height old.view (made (term_at old) t u what) select top) r.look

-- the journal gained just what the exchange evaluates, and nothing for marks
abbrev pub Notes : Grove → Grove → NodeId → Term → Place → What → List Instance → List Instance → Type 0
Notes old new root t u (Tree d) was now =
    GainedAll new root (put t u (term_at old d)) (IsEvaluated old.spec t u (term_at old d)) was now
Notes old new root t u (Shown m) was now = now ≡ was

-- or some of it
abbrev pub NotesSome : Grove → NodeId → Term → Place → What → List Instance → List Instance → Type 0
NotesSome old root t u (Tree d) was now = NotedPut old root (Some d) t u (term_at old d) was now
NotesSome old root t u (Shown m) was now = now ≡ was
