-- What it is to go along a step.
use Rattle.std.specs.Prelude.{◌≡◌, ℕ, true, List, IfSome}
use Rattle.sg_kinds.specs.Terms.{Term, nodes_of}
use Rattle.sg_kinds.specs.Sound.{IsSmall}
use Rattle.sg_kinds.specs.Places.{Place, place_of}
use Rattle.sg_forest.specs.declared.node_id.NodeId.{NodeId}
use Rattle.sg_forest.specs.Trees.{Climbs}
use Rattle.sg_groves.specs.Grove.{Grove, nodes}
use Rattle.sg_groves.specs.TermAt.{term_at}
use Rattle.sg_changes.specs.Changes.{chosen}
use Rattle.sg_changes.specs.declared.direction.Direction.{Direction}
use Rattle.sg_changes.specs.declared.spot.Spot.{Spot}
use Rattle.sg_changes.specs.declared.step.Step.{Step}
use Rattle.sg_changes.specs.declared.step.Step.TheVariants.{Replaced, Marked}
use Rattle.sg_states.specs.Beginnings.{Begins}
use Rattle.sg_states.specs.Paged.{page_seen}
use Rattle.sg_states.specs.Seen.{is_spot, nothing_typed, respotted}
use Rattle.sg_states.specs.Selections.{place_in}
use Rattle.sg_exchanges.specs.Turns.{MayTurn, IsTurned, made}
use Rattle.sg_exchanges.specs.declared.turns.What.{What}
use Rattle.sg_exchanges.specs.declared.turns.What.TheVariants.{Tree, Shown}
use Rattle.sg_exchanges.specs.declared.stepped.Stepped.{Stepped}

-- the path and the place of a step
abbrev pub step_path : Step → List ℕ
step_path (Replaced path hangs before after) = path
step_path (Marked path old new before after) = path

abbrev pub step_place : Step → Place
step_place s = place_of (step_path s)

-- what comes there where a way goes along it
abbrev pub coming : Direction → Step → What
coming d (Replaced path hangs before after) = Tree hangs
coming d (Marked path old new before after) = Shown (chosen d old new)

-- what was selected and seen where the way leads
abbrev pub seen_along : Direction → Step → Spot
seen_along d (Replaced path hangs before after) = chosen d before after
seen_along d (Marked path old new before after) = chosen d before after

-- it may come into that place of the edited term, whose nodes are counted; the term then is in the limits, and has this
-- spot, in the spot's own view
pub record MayStep (g : Grove) (root : NodeId) (t : Term) (u : Place) (what : What) (height : ℕ) (spot : Spot)
    (count : ℕ) : Type 0 where
  pub at : NodeId
  pub may : MayTurn g root at what t u
  pub counted : count ≡ nodes_of t
  pub small : IsSmall t
  pub after : IsSmall (made (term_at g) t u what)
  pub rests : is_spot g.spec height (made (term_at g) t u what) spot ≡ true

-- a way may go along a step
abbrev pub MayGo : Grove → NodeId → Term → Direction → Step → ℕ → ℕ → Type 0
MayGo g root t d s height count = MayStep g root t (step_place s) (coming d s) height (seen_along d s) count

-- a spot settled in the term then, in the present view
abbrev pub settled_then : Grove → Term → Place → What → ℕ → Spot → Spot
settled_then g t u what height spot = respotted g.spec height g.view (made (term_at g) t u what) spot

-- what a way leads to along a step
abbrev pub spot_then : Grove → Term → Direction → Step → ℕ → Spot
spot_then g t d s height = settled_then g t (step_place s) (coming d s) height (seen_along d s)

-- it came there, the nodes are counted again, and this spot is selected, by its path, and seen; where the page was made
-- and where it is told where the selected node begins, these are right
pub record IsStepped (old new : Grove) (root : NodeId) (t : Term) (u : Place) (what : What) (spot : Spot) (r : Stepped)
    : Type 0 where
  pub way : Climbs (nodes old) u r.out root
  pub turned : IsTurned old new root r.out what t u r.root
  pub counted : r.nodes ≡ nodes_of (made (term_at old) t u what)
  pub selected : Climbs (nodes new) (place_in spot.selection) r.selected r.root
  pub path : r.way ≡ spot.selection.path
  pub count : r.count ≡ spot.selection.count
  pub top : r.top ≡ spot.top
  pub page : IfSome r.page (λ p. p ≡ page_seen new r.root (made (term_at old) t u what) nothing_typed)
  pub begins : IfSome r.begins (Begins new.spec new.view (made (term_at old) t u what) (place_in spot.selection))
