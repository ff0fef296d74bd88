use Rattle.std.specs.Prelude.{Option, MatchOption, ⊤}
use Rattle.std.proofs.Common.{sym, ap, ◌∙◌, subst}
use Rattle.sg_kinds.specs.Sound.{IsSmall}
use Rattle.sg_buffer.specs.Held.{term_in}
use Rattle.sg_editor.specs.declared.desk.Named.{Named}
use Rattle.sg_editor.specs.Editing.{Editing, current_in}
use Rattle.sg_editor.proofs.Taken.{term_of}
use Rattle.sg_editor.proofs.editor.Editor.facts.Goals as goal

pub returns-in-Some-clause-small : goal.returns-in-Some-clause-small
returns-in-Some-clause-small c =
    subst (λ (o : Option Named). MatchOption o ⊤ (λ b. IsSmall (term_in b.buffer)))
    (sym (sym (ap (λ (e : Editing). current_in e.kept) c.self.view_is) ∙ c.in-Some.ensures))
    (subst IsSmall (term_of c.in-Some.named.now.buffer) c.facts.ensures.small)
