-- What becomes of a buffer, and what a journal gains, where a way goes along a change.
use Rattle.std.specs.Prelude.{◌≡◌, ◌↔◌, Bool, true, false, List, [], ◌∷◌, Some, ⊤}
use Rattle.sg_kinds.specs.Terms.{Term}
use Rattle.sg_kinds.specs.Places.{put}
use Rattle.sg_kinds.specs.declared.spec.Spec.{Spec}
use Rattle.sg_eval.specs.declared.journal.Instance.{Instance}
use Rattle.sg_forest.specs.declared.node_id.NodeId.{NodeId}
use Rattle.sg_groves.specs.Evaluated.{IsEvaluated}
use Rattle.sg_groves.specs.Grove.{Grove}
use Rattle.sg_terms.specs.Entries.{GainedAll}
use Rattle.sg_changes.specs.Changes.{Change, Put, Mark, chosen}
use Rattle.sg_changes.specs.declared.direction.Direction.{Direction}
use Rattle.sg_states.specs.States.{ahead, gone}
use Rattle.sg_exchanges.specs.Noted.{NotedPut}
use Rattle.sg_buffer.specs.Held.{Held, state_of}

-- this holds of the first change of a list
abbrev pub OfFirst : List Change → (Change → Type 0) → Type 0
OfFirst [] P = ⊤
OfFirst (c ∷ cs) P = P c

module _ (d : Direction) where
  -- where a way goes along it: just what the subterm that comes in its place evaluates, and nothing for marks
  abbrev pub Gained : Spec → Term → List Instance → List Instance → Grove → NodeId → Change → Type 0
  Gained spec t was now g root (Put u old new before after) =
      GainedAll g root (put t u (chosen d old new)) (IsEvaluated spec t u (chosen d old new)) was now
  Gained spec t was now g root (Mark u old new before after) = now ≡ was

  -- some of it, where a tree comes that hangs
  abbrev pub NotedAlong : Grove → NodeId → Term → List Instance → List Instance → Change → Type 0
  NotedAlong g root t was now (Put u old new before after) =
      (h : NodeId) × NotedPut g root (Some h) t u (chosen d old new) was now
  NotedAlong g root t was now (Mark u old new before after) = now ≡ was

-- a buffer went along the nearest change that way, and noted just what that evaluates; or there is none, and nothing
-- changed
pub record Went (d : Direction) (old new : Held) (was now : List Instance) (r : Bool) : Type 0 where
  pub nothing : (r ≡ false) ↔ (ahead d (state_of old) ≡ [])
  pub refused : r ≡ false → (new ≡ old) × (now ≡ was)
  pub done : r ≡ true → state_of new ≡ gone old.grove.spec old.height d (state_of old)
  pub evaluated : r ≡ true → OfFirst (ahead d (state_of old))
      (Gained d old.grove.spec (state_of old).term was now new.grove new.root)
