use Rattle.std.proofs.Common.{◌≡◌, ◌+◌, List, length, refl, ap, arith}
use Rattle.sg_eval.specs.Journal.{counted, now_of}
use Rattle.sg_eval.specs.declared.journal.Instance.{Instance}
use Rattle.sg_editor.specs.Editing.{session_of}
use Rattle.sg_live.specs.DeskView.{desk_in}
use Rattle.sg_live.proofs.OneLine.{answered_unread, answered_undone, answered_done, answered_unseen, shown_at}
use Rattle.sg_live.proofs.answering.perform.Goals as goal

pub returns-then-not-has_room-clause-answered : goal.returns-then-not-has_room-clause-answered
returns-then-not-has_room-clause-answered g c = λ r right line spelled.
    answered_unread (desk_in c.args.editor.now r) (session_of c.args.editor.now) (g.S.Shelf.state c.args.shelf.now) line (counted c.args.journal.now) _ refl

pub returns-in_default-clause-answered : goal.returns-in_default-clause-answered
returns-in_default-clause-answered g c = λ r right line spelled.
    let counts : counted c.step.new.journal ≡ counted c.args.journal.now + length (now_of c.step.new.journal) = omega (arith, c.step.ensures.total) in
    answered_undone (desk_in c.args.editor.now r) (session_of c.args.editor.now) (g.S.Shelf.state c.args.shelf.now) line (counted c.args.journal.now) c.args.command.now c.step.new.self
    (now_of c.step.new.journal) _ _ (g.S.Shelf.state c.step.new.shelf) (counted c.step.new.journal) _ spelled (c.in_default.ensures.err r right) c.in_default.ensures.same refl counts

pub returns-in-Ok-screen-clause-answered : goal.returns-in-Ok-screen-clause-answered
returns-in-Ok-screen-clause-answered g c =
    rw c.in-Ok-screen.ensures.same
    (λ r right line spelled.
    let counts : counted c.step.new.journal ≡ counted c.args.journal.now + length (now_of c.step.new.journal) = omega (arith, c.step.ensures.total) in
    let block = shown_at c.args.editor.now c.step.new.self _ _ _ _ c.in-Ok-screen.ensures.printed c.step.ensures.setting (ap (λ (es : List Instance). length es) c.now.ensures) in
    answered_done (desk_in c.args.editor.now r) (session_of c.args.editor.now) (g.S.Shelf.state c.args.shelf.now) line (counted c.args.journal.now) c.args.command.now c.step.new.self
    (now_of c.step.new.journal) _ _ (g.S.Shelf.state c.step.new.shelf) (counted c.step.new.journal) c.in-Ok.message _ spelled (c.in-Ok.ensures.ok r right) block counts)

pub returns-clause-answered : goal.returns-clause-answered
returns-clause-answered g c =
    rw c.in-Err.ensures.same
    (λ r right line spelled.
    let counts : counted c.step.new.journal ≡ counted c.args.journal.now + length (now_of c.step.new.journal) = omega (arith, c.step.ensures.total) in
    answered_unseen (desk_in c.args.editor.now r) (session_of c.args.editor.now) (g.S.Shelf.state c.args.shelf.now) line (counted c.args.journal.now) c.args.command.now c.step.new.self
    (now_of c.step.new.journal) _ _ (g.S.Shelf.state c.step.new.shelf) (counted c.step.new.journal) c.in-Ok.message _ spelled (c.in-Ok.ensures.ok r right) refl counts)
