-- What the commands of a session tell
use Rattle.std.specs.Prelude.{ℕ, List, [], ◌∷◌, length, None}
use Rattle.sg_kinds.specs.declared.spec.Spec.{Spec}
use Rattle.sg_replies.specs.declared.reply.Reply.{Reply}
use Rattle.sg_script.specs.declared.command.Command.{Command}
use Rattle.sg_editor.specs.Session as editor
use Rattle.sg_editor.specs.Ask.{Readers, Step, Ask, ask}
use Rattle.sg_editor.specs.Ask.Ask.{Tells, Asks}
use Rattle.sg_editor.specs.Screen.{screen}
use Rattle.sg_output.specs.Output.{Output, before, asked, finished}

-- an editor of this specification, in a window of this width and height, whose texts are read so
pub record Desk : Type 0 where
  pub spec : Spec
  pub width : ℕ
  pub height : ℕ
  pub readers : Readers

abbrev pub desk : Spec → ℕ → ℕ → Readers → Desk
desk spec width height readers = record { spec = spec; width = width; height = height; readers = readers }

-- the block of a command: the screen after it, which ends with the number of the equations that it evaluated
abbrev pub telling : Desk → Step → Output
telling d step = record {
  blocks = screen d.spec d.width d.height step.session step.message (length step.set) ∷ [];
  evs = length step.set ∷ [];
  status = None;
  requests = [];
  taken = 0;
}

-- one command and what follows it: its block, or first its request to the shelf, and the block by the reply
abbrev pub turn : Desk → (editor.Session → List Reply → Output) → Ask → List Reply → Output
turn d next (Tells step) replies = before (telling d step) (next step.session replies)
turn d next (Asks request answer) replies = asked request (λ reply more.
    before (telling d (answer reply)) (next (answer reply).session more)) replies

-- what the editor does with a command
abbrev pub asks : Desk → editor.Session → Command → Ask
asks d s c = ask d.spec d.height d.readers s c

-- the commands in turn
abbrev pub session : Desk → editor.Session → List Command → List Reply → Output
session d s [] replies = finished
session d s (c ∷ commands) replies = turn d (λ after more. session d after commands more) (asks d s c) replies
