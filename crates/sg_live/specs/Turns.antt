-- What each line does to a session, and what is written for it
use Rattle.std.specs.Prelude.{◌≡◌, ◌≤◌, ◌⊎◌, ℕ, ◌+◌, ◌-◌, ◌^◌, suc, false, true, List, [], ◌∷◌, ◌++◌, length, Ok, Err}
use Rattle.sg_outside.specs.Count.{Rose}
use Rattle.sg_eval.specs.declared.journal.Instance.{Instance}
use Rattle.sg_replies.specs.declared.reply.Reply.{Reply}
use Rattle.sg_outside.specs.Shelf.{ShelfState}
use Rattle.sg_replies.specs.Calls.{Served, ServedOrOneMore}
use Rattle.sg_script.specs.declared.command.Command.{Command}
use Rattle.sg_script.specs.declared.fault.ScriptFault.{ScriptFault}
use Rattle.sg_script.specs.Script.{script_of}
use Rattle.sg_editor.specs.Ask.{Step}
use Rattle.sg_live.specs.Offers.{offers}
use Rattle.sg_editor.specs.Session.{Session}
use Rattle.sg_editor.specs.Steps.{Comes, IsCutShort, requests_of}
use Rattle.sg_editor.specs.Screen.{screen}
use Rattle.sg_output.specs.declared.status.Status.{Status}
use Rattle.sg_output.specs.declared.status.Status.TheVariants.{Done, Memory, ReadFault, SinkFault}
use Rattle.sg_output.specs.Session.{Desk, asks}
use Rattle.sg_console.specs.Console.{Event}
use Rattle.sg_console.specs.Console.Event.{Took, Passed, Ended, Put}
use Rattle.sg_live.specs.Outside.{Outside, IsRead, WasRead, all_noted}
use Rattle.sg_live.specs.Texts.{is_question, offers_text, no_command_text, long_line_text, no_memory_text, not_shown_text, read_fault_input_text}

-- the block of a command
abbrev pub block_of : Desk → Step → List ℕ
block_of d step = screen d.spec d.width d.height step.session step.message (length step.set)

-- what a line does to a session and to a shelf, what is written for it, and how many equations are evaluated: it says
-- nothing; it is no command; it is too long; it asks which transformations apply; its command is done, and the block
-- written, or memory was wanting for the block; memory was wanting before it was done, or while it was
pub data IsTurn (d : Desk) (s : Session) (at : ShelfState) : Event → Session → ShelfState → List Event → ℕ → Type 0 where
  silent : (line : List ℕ) → script_of line ≡ Ok [] → IsTurn d s at (Took line) s at [] 0
  refused : (line : List ℕ) (f : ScriptFault) → is_question line ≡ false → script_of line ≡ Err f
      → IsTurn d s at (Took line) s at (Put no_command_text ∷ []) 0
  passed : IsTurn d s at Passed s at (Put long_line_text ∷ []) 0
  offered : (line : List ℕ) → is_question line ≡ true
      → IsTurn d s at (Took line) s at (Put (offers_text (offers d.spec s)) ∷ []) 0
  done : (line : List ℕ) (c : Command) (got : List Reply) (step : Step) (to : ShelfState)
      → script_of line ≡ Ok (c ∷ []) → Comes (asks d s c) got step → Served at (requests_of (asks d s c)) got to
      → IsTurn d s at (Took line) step.session to (Put (block_of d step) ∷ []) (length step.set)
  unseen : (line : List ℕ) (c : Command) (got : List Reply) (step : Step) (to : ShelfState)
      → script_of line ≡ Ok (c ∷ []) → Comes (asks d s c) got step → Served at (requests_of (asks d s c)) got to
      → IsTurn d s at (Took line) step.session to (Put not_shown_text ∷ []) (length step.set)
  unread : (line : List ℕ) → IsTurn d s at (Took line) s at (Put no_memory_text ∷ []) 0
  undone : (line : List ℕ) (c : Command) (got : List Reply) (now : List Instance) (to : ShelfState)
      → script_of line ≡ Ok (c ∷ []) → IsCutShort d.spec (asks d s c) got now
      → ServedOrOneMore at (requests_of (asks d s c)) got to
      → IsTurn d s at (Took line) s to (Put no_memory_text ∷ []) (length now)

-- so many lines one after another: each that is read stands before what is written for it, and that before the next one
pub data AreTurns (d : Desk) (s : Session) (at : ShelfState) : ℕ → Session → ShelfState → List Event → ℕ → Type 0 where
  none : AreTurns d s at 0 s at [] 0
  more : (k : ℕ) (t u : Session) (by to : ShelfState) (before after : List Event) (e : Event) (n m : ℕ)
      → AreTurns d s at k t by before n → IsTurn d t by e u to after m
      → AreTurns d s at (suc k) u to (before ++ e ∷ after) (n + m)

-- how it ends after so many lines: at the end of the input; by a read that failed, which is said if it can be; by a put
-- that failed, of which nothing is noted; with as many lines as are counted
pub data IsEnding (d : Desk) (s : Session) (at : ShelfState) (lines : ℕ) : List Event → ShelfState → ℕ → Status
    → Type 0 where
  ended : IsEnding d s at lines (Ended ∷ []) at 0 Done
  lost_input : IsEnding d s at lines (Put read_fault_input_text ∷ []) at 0 ReadFault
  lost_both : IsEnding d s at lines [] at 0 SinkFault
  unput : (e : Event) (t : Session) (to : ShelfState) (piece : List ℕ) (n : ℕ) → IsTurn d s at e t to (Put piece ∷ []) n
      → IsEnding d s at lines (e ∷ []) to n SinkFault
  worn : 2 ^ 64 - 1 ≤ lines → IsEnding d s at lines [] at 0 Memory

-- the run came to an end of its own, or the console failed in it
abbrev pub IsEndOrFault : Status → Outside → Outside → Type 0
IsEndOrFault status old new = (status ≡ Done) ⊎ (status ≡ Memory) ⊎ Rose old.console.faults new.console.faults

-- a session went on over so many lines
pub record WentOn (d : Desk) (s : Session) (lines : ℕ) (t : Session) (old new : Outside) : Type 0 where
  pub events : List Event
  pub evaluated : ℕ
  pub turns : AreTurns d s old.shelf lines t new.shelf events evaluated
  pub history : new.console.history ≡ all_noted events old.console.history
  pub counted : new.counted ≡ old.counted + evaluated
  pub input : IsRead old.console.left events new.console.left
  pub later : old.console.faults ≤ new.console.faults

-- a session went on over its lines, and ended; but for the end of the input and as many lines as are counted, because the
-- console failed
pub record Talked (d : Desk) (s : Session) (old : Outside) (status : Status) (new : Outside) : Type 0 where
  pub lines : ℕ
  pub session : Session
  pub shelf : ShelfState
  pub events : List Event
  pub ending : List Event
  pub evaluated : ℕ
  pub evaluated_last : ℕ
  pub turns : AreTurns d s old.shelf lines session shelf events evaluated
  pub over : IsEnding d session shelf lines ending new.shelf evaluated_last status
  pub history : new.console.history ≡ all_noted (events ++ ending) old.console.history
  pub counted : new.counted ≡ old.counted + (evaluated + evaluated_last)
  pub input : WasRead old.console.left (events ++ ending)
  pub cause : IsEndOrFault status old new
