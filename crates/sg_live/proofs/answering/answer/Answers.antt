use Rattle.std.proofs.Common.{◌≡◌, List, Ok, Some, None, sym, ap, ◌∙◌}
use Rattle.std.specs.Prelude.{slice_get}
use Rattle.sg_eval.specs.Journal.{counted}
use Rattle.sg_script.specs.declared.command.Command.{Command}
use Rattle.sg_editor.specs.Editing.{session_of}
use Rattle.sg_live.specs.DeskView.{desk_in}
use Rattle.sg_live.proofs.OneLine.{answered_silent, answered_refused, answered_offer}
use Rattle.sg_live.proofs.Scripts.{first_command, no_command}
use Rattle.sg_live.proofs.answering.answer.Goals as goal

pub returns-then-is_question-clause-answered : goal.returns-then-is_question-clause-answered
returns-then-is_question-clause-answered g c = λ r right.
    answered_offer (desk_in c.args.editor.now r) (session_of c.args.editor.now) (g.S.Shelf.state c.args.shelf.now) c.args.line.now (counted c.args.journal.now) _ (sym c.if-is_question.ensures) c.offer.ensures

pub returns-in-Some-clause-answered : goal.returns-in-Some-clause-answered
returns-in-Some-clause-answered g c = λ r right.
    let first : slice_get c.in-Ok.commands.items 0 ≡ Some c.in-Some.command.now = ap (λ (cs : List Command). slice_get cs 0) (sym c.deref.ensures.value) ∙ sym c.in-Some.ensures.value in
    c.perform.ensures.answered r right c.args.line.now (first_command c.args.line.now c.in-Ok.commands.items c.in-Some.command.now c.requires.one c.in-Ok.ensures.ok first)

pub returns-in-Ok-clause-answered : goal.returns-in-Ok-clause-answered
returns-in-Ok-clause-answered g c = λ r right.
    let none : slice_get c.in-Ok.commands.items 0 ≡ None = ap (λ (cs : List Command). slice_get cs 0) (sym c.deref.ensures.value) ∙ sym c.in-None.ensures.value in
    answered_silent (desk_in c.args.editor.now r) (session_of c.args.editor.now) (g.S.Shelf.state c.args.shelf.now) c.args.line.now (counted c.args.journal.now)
    (no_command c.args.line.now c.in-Ok.commands.items c.in-Ok.ensures.ok none)

pub returns-clause-answered : goal.returns-clause-answered
returns-clause-answered g c = λ r right.
    answered_refused (desk_in c.args.editor.now r) (session_of c.args.editor.now) (g.S.Shelf.state c.args.shelf.now) c.args.line.now (counted c.args.journal.now) c.in-Err.fault _
    (sym c.if-is_question.ensures) c.in-Err.ensures.fault c.refused.ensures
