use Rattle.std.specs.Prelude.{◌≡◌, IfOk}
use Rattle.std.proofs.Common.{subst}
use Rattle.sg_editor.specs.Editing.{Editing, height_in, session_in, session_of, spec_in, width_in}
use Rattle.sg_editor.specs.Screen.{screen}
use Rattle.sg_editor.proofs.editor.Editor.screen.Goals as goal

pub returns-clause-printed : goal.returns-clause-printed
unfolding session_of
returns-clause-printed c =
    subst (λ (x : Editing). IfOk c.screen.result (λ b. b.items ≡ screen (spec_in x) (width_in x) (height_in x) (session_in x.kept) c.args.message c.args.ev)) c.self.view_is c.screen.ensures.printed
