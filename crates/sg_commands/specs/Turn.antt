-- What a command makes of the current buffer.
use Rattle.std.specs.Prelude.{ℕ, ◌<◌, Bool, if◌then◌else◌, List, [], length, Option, None, Some}
use Rattle.sg_kinds.specs.Values.{Bytes}
use Rattle.sg_kinds.specs.Places.{Place}
use Rattle.sg_kinds.specs.Nets.{Reference}
use Rattle.sg_kinds.specs.declared.spec.Spec.{Spec}
use Rattle.sg_script.specs.declared.message.Message.{Message}
use Rattle.sg_script.specs.declared.message.Message.TheVariants as message
use Rattle.sg_states.specs.States.{State}
use Rattle.sg_edits.specs.declared.clip.Clip.{Clip}
use Rattle.sg_input.specs.Entered.{Entered, IsEntered}

-- what is left of the buffer and of what was copied, what is said, and what is evaluated, each reference once
pub record Turn : Type 0 where
  pub state : State
  pub clip : Option Clip
  pub message : Message
  pub set : List (Reference Place)

-- how the entries of a language read texts, and that they read them right
abbrev pub Reads : Type 0
Reads = ℕ → Bytes → Entered

abbrev pub AreReads : Spec → Reads → Type 0
AreReads spec reads = (entry : ℕ) (text : Bytes) → entry < length spec.entries
    → IsEntered spec entry text (reads entry text)

module _ (clip : Option Clip) where
  -- the buffer in this state; nothing is evaluated
  abbrev pub says : Message → State → Turn
  says m st = record { state = st; clip = clip; message = m; set = [] }

  abbrev pub becomes : State → Turn
  becomes st = says message.Fine st

  module _ (st : State) where
    -- a refusal, where a test is true
    abbrev pub refused_if : Bool → Message → Turn → Turn
    refused_if test m turn = if test then says m st else turn

    -- what is there, or a refusal
    abbrev pub found_or : {A : Type 0} → Message → (A → Turn) → Option A → Turn
    found_or m found None = says m st
    found_or m found (Some x) = found x
