-- The changes that steps stand for, told from the present term and what the hanging tops hold.
use Rattle.std.specs.Prelude.{◌≡◌, List, [], ◌∷◌, ◌++◌, Contains, ⊤}
use Rattle.sg_kinds.specs.Terms.{Term}
use Rattle.sg_kinds.specs.Places.{place_of}
use Rattle.sg_kinds.specs.declared.spec.Spec.{Spec}
use Rattle.sg_forest.specs.declared.node_id.NodeId.{NodeId}
use Rattle.sg_changes.specs.declared.direction.Direction.{Direction}
use Rattle.sg_changes.specs.declared.direction.Direction.TheVariants.{Back, Forth}
use Rattle.sg_changes.specs.declared.spot.Spot.{Spot}
use Rattle.sg_changes.specs.declared.step.Step.{Step}
use Rattle.sg_changes.specs.declared.step.Step.TheVariants.{Replaced, Marked}
use Rattle.sg_changes.specs.Changes.{Change, Put, Mark, part_of, term_along}
use Rattle.sg_changes.specs.Chain.{AllGo}

-- the top that a step keeps, in a list
abbrev pub hanging : Step → List NodeId
hanging (Replaced path hangs before after) = hangs ∷ []
hanging (Marked path old new before after) = []

-- a step with another top hanging
abbrev pub hung : Step → NodeId → Step
hung (Replaced path hangs before after) top = Replaced path top before after
hung (Marked path old new before after) top = Marked path old new before after

-- the tops that steps keep
abbrev pub tops_of : List Step → List NodeId
tops_of [] = []
tops_of (s ∷ ss) = hanging s ++ tops_of ss

abbrev pub tops : List Step → List Step → List NodeId
tops past future = tops_of past ++ tops_of future

-- what each root holds
module _ (tree : NodeId → Term) where
  -- the change of the newest past step
  abbrev pub past_change : Term → Step → Change
  past_change t (Replaced path hangs before after) = Put (place_of path) (tree hangs)
      (part_of t (place_of path)) before after
  past_change t (Marked path old new before after) = Mark (place_of path) old new before after

  -- the change of the next future step
  abbrev pub future_change : Term → Step → Change
  future_change t (Replaced path hangs before after) =
      Put (place_of path) (part_of t (place_of path)) (tree hangs) before after
  future_change t (Marked path old new before after) = Mark (place_of path) old new before after

  -- the change of the nearest step that way
  abbrev pub change_along : Direction → Term → Step → Change
  change_along Back = past_change
  change_along Forth = future_change

  -- the changes of the steps that way, the nearest first
  abbrev pub told_along : Direction → Term → List Step → List Change
  told_along d t [] = []
  told_along d t (s ∷ ss) = change_along d t s ∷ told_along d (term_along d t (change_along d t s)) ss

  -- those of past steps, the newest first, and of future steps, the next one first
  abbrev pub told_past : Term → List Step → List Change
  told_past = told_along Back

  abbrev pub told_future : Term → List Step → List Change
  told_future = told_along Forth

-- the way goes along the steps one after another
abbrev pub Goes : Direction → Spec → (Term → Spot → Type 0) → (NodeId → Term) → Term → List Step → Type 0
Goes d spec IsSpotOf tree t steps = AllGo spec IsSpotOf d t (told_along tree d t steps)

-- some roots hold the same as before
abbrev pub Agree : (old new : NodeId → Term) → List NodeId → Type 0
Agree old new roots = (n : NodeId) → Contains roots n → new n ≡ old n

-- a root holds what stood at a step's place
abbrev pub HoldsPart : (new : NodeId → Term) → Term → Step → NodeId → Type 0
HoldsPart new t (Replaced path hangs before after) x = new x ≡ part_of t (place_of path)
HoldsPart new t (Marked path old made before after) x = ⊤

-- after a step the subtree that stood at its place hangs; those of the steps ahead and behind hang as before
pub record Exchanged (old new : NodeId → Term) (t : Term) (s : Step) (x : NodeId)
    (ahead behind : List Step) : Type 0 where
  pub top : HoldsPart new t s x
  pub others : Agree old new (tops ahead behind)
