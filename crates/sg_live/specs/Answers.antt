-- What is written for a line, as events
use Rattle.std.specs.Prelude.{◌≡◌, ◌≢◌, ◌⊎◌, ℕ, ◌+◌, List, [], ◌∷◌}
use Rattle.sg_console.specs.Console.{Event}
use Rattle.sg_console.specs.Console.Event.{Put}
use Rattle.sg_outside.specs.Shelf.{ShelfState}
use Rattle.sg_script.specs.declared.fault.ScriptFault.{ScriptFault}
use Rattle.sg_script.specs.declared.fault.ScriptFault.TheVariants.{NoMemory}
use Rattle.sg_editor.specs.Session.{Session}
use Rattle.sg_output.specs.Session.{Desk}
use Rattle.sg_live.specs.declared.answers.Answer.{Answer}
use Rattle.sg_live.specs.declared.answers.Answer.TheVariants.{Nothing, Text, Bytes}
use Rattle.sg_live.specs.Texts.{no_command_text, no_memory_text, offers_text}
use Rattle.sg_live.specs.Turns.{IsTurn}

abbrev pub events_of : Answer → List Event
events_of Nothing = []
events_of (Text text) = Put text.now ∷ []
events_of (Bytes bytes) = Put bytes.items ∷ []

-- it is written by one put
abbrev pub IsPut : Answer → Type 0
IsPut answer = (piece : List ℕ) × (events_of answer ≡ Put piece ∷ [])

-- the names are told, or memory was wanting
abbrev pub IsOffer : List (List ℕ) → List Event → Type 0
IsOffer names events = (events ≡ (Put (offers_text names)) ∷ []) ⊎ (events ≡ (Put no_memory_text) ∷ [])

-- the line is told to be no command, or memory was wanting
abbrev pub IsRefusal : ScriptFault → List Event → Type 0
IsRefusal f events = ((f ≢ NoMemory) × (events ≡ (Put no_command_text) ∷ [])) ⊎ (events ≡ (Put no_memory_text) ∷ [])

-- a line was answered, and the journal's count went from n to m
pub record Answered (d : Desk) (s : Session) (at : ShelfState) (e : Event) (t : Session) (to : ShelfState)
    (said : List Event) (n m : ℕ) : Type 0 where
  pub evaluated : ℕ
  pub turn : IsTurn d s at e t to said evaluated
  pub counted : m ≡ n + evaluated
