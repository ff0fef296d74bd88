-- One line of a session, and its end, as what they leave outside
use Rattle.std.specs.Prelude.{◌≡◌, ◌≤◌, ℕ, ◌+◌, List, ◌∷◌}
use Rattle.sg_output.specs.declared.status.Status.{Status}
use Rattle.sg_output.specs.Session.{Desk}
use Rattle.sg_editor.specs.Session.{Session}
use Rattle.sg_console.specs.Console.{Event}
use Rattle.sg_live.specs.Outside.{Outside, IsRead, WasRead, all_noted}
use Rattle.sg_live.specs.Turns.{IsTurn, IsEnding, IsEndOrFault}

-- a line was read and answered
pub record Turned (d : Desk) (s t : Session) (old new : Outside) : Type 0 where
  pub event : Event
  pub said : List Event
  pub evaluated : ℕ
  pub turn : IsTurn d s old.shelf event t new.shelf said evaluated
  pub history : new.console.history ≡ all_noted (event ∷ said) old.console.history
  pub counted : new.counted ≡ old.counted + evaluated
  pub input : IsRead old.console.left (event ∷ said) new.console.left
  pub later : old.console.faults ≤ new.console.faults

-- the session ended behind so many lines
pub record Over (d : Desk) (s : Session) (lines : ℕ) (status : Status) (old new : Outside) : Type 0 where
  pub ending : List Event
  pub evaluated : ℕ
  pub over : IsEnding d s old.shelf lines ending new.shelf evaluated status
  pub history : new.console.history ≡ all_noted ending old.console.history
  pub counted : new.counted ≡ old.counted + evaluated
  pub input : WasRead old.console.left ending
  pub cause : IsEndOrFault status old new
