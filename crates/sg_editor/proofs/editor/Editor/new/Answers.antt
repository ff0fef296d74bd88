use Rattle.std.proofs.Common.{ap, subst, sym}
use Rattle.std.proofs.lemmas.List.Elements.{All-nil}
use Rattle.sg_editor.specs.declared.desk.Named.{Named}
use Rattle.sg_editor.specs.Editing.{IsKept, IsOver, session_in, session_of}
use Rattle.sg_editor.proofs.editor.Editor.new.Goals as goal

pub invariant_of-result : goal.invariant_of-result
invariant_of-result c =
    let spec = c.in_ok-new.field-0.contents.spec in
    let height = c.in_ok-new.field-0.height in
    subst (IsKept spec height) (sym c.new-2.ensures)
    (record { over = All-nil (λ (b : Named). IsOver spec height b.buffer); current = tt; clip = tt })

pub returns-clause-session : goal.returns-clause-session
unfolding session_of
returns-clause-session c = ap session_in c.new-2.ensures
