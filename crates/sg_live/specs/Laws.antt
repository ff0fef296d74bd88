-- What laws say of whole sessions
use Rattle.std.specs.Prelude.{◌≡◌, ◌≢◌, ℕ, List, [], ◌∷◌, ◌++◌, Some, slice_index}
use Rattle.sg_replies.specs.declared.reply.Reply.{Reply}
use Rattle.sg_outside.specs.Shelf.{ShelfState}
use Rattle.sg_replies.specs.Calls.{Served}
use Rattle.sg_script.specs.declared.command.Command.{Command}
use Rattle.sg_editor.specs.Session.{Session}
use Rattle.sg_output.specs.declared.status.Status.TheVariants.{Done}
use Rattle.sg_output.specs.Session.{Desk, session}
use Rattle.sg_console.specs.Console.{Event}
use Rattle.sg_console.specs.Console.Event.{Took, Passed, Ended, Put}
use Rattle.sg_live.specs.Turns.{AreTurns}

-- so many lines were answered first, and these events begin with theirs
pub record BeginWith (d : Desk) (s : Session) (at : ShelfState) (lines : ℕ) (events : List Event) : Type 0 where
  pub session : Session
  pub shelf : ShelfState
  pub front : List Event
  pub rest : List Event
  pub evaluated : ℕ
  pub turns : AreTurns d s at lines session shelf front evaluated
  pub is : events ≡ front ++ rest

-- the pieces that were written
abbrev pub pieces_in : List Event → List (List ℕ)
pieces_in [] = []
pieces_in (Took line ∷ events) = pieces_in events
pieces_in (Passed ∷ events) = pieces_in events
pieces_in (Ended ∷ events) = pieces_in events
pieces_in (Put piece ∷ events) = piece ∷ pieces_in events

-- none of them begins with an exclamation mark
abbrev pub AreBlocks : List Event → Type 0
AreBlocks [] = Unit {0}
AreBlocks (Took line ∷ events) = AreBlocks events
AreBlocks (Passed ∷ events) = AreBlocks events
AreBlocks (Ended ∷ events) = AreBlocks events
AreBlocks (Put piece ∷ events) = (slice_index piece 0 ≢ 33) × AreBlocks events

-- they are the blocks of these commands, done to their end by the replies of a shelf
pub record AreBlocksOf (d : Desk) (s : Session) (at : ShelfState) (commands : List Command) (pieces : List (List ℕ))
    (to : ShelfState) : Type 0 where
  pub replies : List Reply
  pub served : Served at (session d s commands replies).requests replies to
  pub blocks : (session d s commands replies).blocks ≡ pieces
  pub status : (session d s commands replies).status ≡ Some Done
