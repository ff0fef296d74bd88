-- What a call of a command did to the buffer, to what was copied and to the journal.
use Rattle.std.specs.Prelude.{◌≡◌, ◌⊎◌, List, ◌∷◌, take, Contains, Option, Some, None}
use Rattle.sg_kinds.specs.Places.{Place}
use Rattle.sg_kinds.specs.Nets.{Reference}
use Rattle.sg_kinds.specs.declared.spec.Spec.{Spec}
use Rattle.sg_eval.specs.declared.journal.Instance.{Instance}
use Rattle.sg_forest.specs.declared.node_id.NodeId.{NodeId}
use Rattle.sg_terms.specs.Entries.{GainedAll}
use Rattle.sg_changes.specs.Changes.{Change, Put, Mark}
use Rattle.sg_states.specs.States.{State}
use Rattle.sg_exchanges.specs.Noted.{NotedSomeAt}
use Rattle.sg_buffer.specs.Held.{Held, state_of}
use Rattle.sg_script.specs.declared.message.Message.{Message}
use Rattle.sg_script.specs.declared.command.Command.{Command}
use Rattle.sg_edits.specs.declared.clip.Clip.{Clip}
use Rattle.sg_commands.specs.Turn.{Turn, Reads}
use Rattle.sg_commands.specs.Turns.{turn}

-- the turn of a buffer
abbrev pub turn_of : Held → Reads → Option Clip → Command → Turn
turn_of b reads clip command = turn b.grove.spec b.height reads clip (state_of b) command

-- it did the turn and said its message, and noted just what the turn evaluates, each instance once
pub record Did (turn : Turn) (m : Message) (buffer : Held) (clip : Option Clip) (was now : List Instance)
    : Type 0 where
  pub message : m ≡ turn.message
  pub state : state_of buffer ≡ turn.state
  pub copied : clip ≡ turn.clip
  pub evaluated : GainedAll buffer.grove buffer.root turn.state.term (Contains turn.set) was now

-- a change puts another subterm at a place
abbrev pub PutsAt : Place → Change → Type 0
PutsAt u (Put at x s before after) = u ≡ at
PutsAt u (Mark at was now before after) = ⊥

-- where the subterm goes that comes between two states: a new one by a new change; one that hung, by the newest change
-- undone or the next one done again
abbrev pub PutsBetween : State → State → Place → Option NodeId → Type 0
PutsBetween old new u None = (c : Change) × PutsAt u c × (new.past ≡ take 256 (c ∷ old.past))
PutsBetween old new u (Some d) = (c : Change) × PutsAt u c
    × ((old.past ≡ c ∷ new.past) ⊎ ((old.future ≡ c ∷ new.future) × (new.past ≡ c ∷ old.past)))

-- some of a set was noted, no instance twice, at the nodes of the buffer's tree outside the place where a subterm comes,
-- and in it at those of the tree that comes
pub record NotedOf (spec : Spec) (old : Held) (then : State) (set : List (Reference Place)) (was now : List Instance)
    : Type 0 where
  pub place : Place
  pub from : Option NodeId
  pub puts : PutsBetween (state_of old) then place from
  pub entries : NotedSomeAt spec old.grove old.root place from then.term (Contains set) was now

-- without memory it left the state and what was copied, and noted nothing, or some of what the turn evaluates
pub record GaveUp (spec : Spec) (turn : Turn) (old new : Held) (had has : Option Clip) (was now : List Instance)
    : Type 0 where
  pub state : state_of new ≡ state_of old
  pub copied : has ≡ had
  pub noted : (now ≡ was) ⊎ NotedOf spec old turn.state turn.set was now
