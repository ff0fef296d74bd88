-- What a command leaves that is not done.
use Rattle.std.specs.Prelude.{◌≡◌, ◌⊎◌, ℕ, List, [], ◌∷◌, Some, slice_get}
use Rattle.sg_kinds.specs.Values.{Bytes}
use Rattle.sg_replies.specs.declared.reply.Reply.{Reply}
use Rattle.sg_script.specs.declared.command.Command.{Command}
use Rattle.sg_script.specs.declared.command.Command.TheVariants as command
use Rattle.sg_script.specs.declared.message.Message.{Message}
use Rattle.sg_script.specs.declared.message.Message.TheVariants as message
use Rattle.sg_states.specs.States.{State, pointed}
use Rattle.sg_editor.specs.Ask.{Step}
use Rattle.sg_editor.specs.Session.{Session, with_load, with_state}

-- the point of the text that is typed in the current buffer has gone to where the reading failed
pub record IsPointed (s after : Session) (m : Message) : Type 0 where
  pub point : ℕ
  pub told : (m ≡ message.LexicalAt point) ⊎ (m ≡ message.ParseAt point)
  pub place : ℕ
  pub buffer : Bytes × State
  pub current : s.current ≡ Some place
  pub there : slice_get s.buffers place ≡ Some buffer
  pub pointed : after ≡ with_state place buffer.0 (pointed point buffer.1) s

-- a load that called the shelf is counted
abbrev pub counted_by : List Reply → Session → Session
counted_by [] s = s
counted_by (r ∷ got) s = with_load s

-- the session is as it was, but for these
abbrev pub Leaves : Session → List Reply → Step → Command → Type 0
Leaves s got step (command.Load name file) = step.session ≡ counted_by got s
Leaves s got step c = (step.session ≡ s) ⊎ ((c ≡ command.Enter) × IsPointed s step.session step.message)
