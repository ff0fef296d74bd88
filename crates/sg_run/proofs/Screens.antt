-- The block of a command that an editor showed
use Rattle.std.proofs.Common.{◌≡◌, ℕ, List, ◌∷◌, subst, sym, ap, ◌∙◌}
use Rattle.sg_script.specs.declared.message.Message.{Message}
use Rattle.sg_script.specs.declared.command.Command.{Command}
use Rattle.sg_replies.specs.declared.reply.Reply.{Reply}
use Rattle.sg_editor.specs.Session as editor
use Rattle.sg_editor.specs.Screen.{screen}
use Rattle.sg_editor.specs.Ask.{Readers, AreReaders}
use Rattle.sg_editor.specs.Editing.{Editing, Setting, spec_in, width_in, height_in, session_of}
use Rattle.sg_output.specs.declared.status.Status.{Status}
use Rattle.sg_output.specs.Session.{Desk, session}
use Rattle.sg_output.specs.World.{World}
use Rattle.sg_output.specs.Parts.{Passed, Played}

-- what was shown after a step, in the window before it
pub shown_at : (a b : Editing) (said : Message) (ev count : ℕ) (bytes : List ℕ) → bytes ≡ screen (spec_in b) (width_in b) (height_in b) (session_of b) said ev → b.setting ≡ a.setting → ev ≡ count
    → bytes ≡ screen (spec_in a) (width_in a) (height_in a) (session_of b) said count
shown_at a b said ev count bytes is same n =
    is ∙ ap (λ (x : Setting). screen x.contents.spec x.width x.height (session_of b) said ev) same ∙ ap (λ (k : ℕ). screen (spec_in a) (width_in a) (height_in a) (session_of b) said k) n

-- at another desk that is the same
pub passed_at : (d e : Desk) (s t : editor.Session) (c : Command) (commands : List Command) (rb ra : List Reply) (old new : World) → d ≡ e
    → Passed (session d s (c ∷ commands)) (session d t commands) rb ra old new → Passed (session e s (c ∷ commands)) (session e t commands) rb ra old new
passed_at d e s t c commands rb ra old new same p =
    subst (λ (x : Desk). Passed (session x s (c ∷ commands)) (session x t commands) rb ra old new) same p

pub played_at_desk : (d e : Desk) (s : editor.Session) (commands : List Command) (rb ra : List Reply) (status : Status) (old new : World) → d ≡ e
    → Played (session d s commands) rb ra status old new → Played (session e s commands) rb ra status old new
played_at_desk d e s commands rb ra status old new same p = subst (λ (x : Desk). Played (session x s commands) rb ra status old new) same p

pub readers_at : (d e : Desk) (r : Readers) → d ≡ e → AreReaders e.spec r → AreReaders d.spec r
readers_at d e r same right = subst (λ (x : Desk). AreReaders x.spec r) (sym same) right
