use Rattle.std.specs.Prelude.{◌≡◌}
use Rattle.std.proofs.Common.{sym, ap, ◌∙◌, subst}
use Rattle.sg_kinds.specs.Completing.{completing}
use Rattle.sg_kinds.specs.Fits.{Fits}
use Rattle.sg_kinds.specs.Sound.{IsSmall}
use Rattle.sg_kinds.specs.Terms.{Term}
use Rattle.sg_editor.proofs.Telling.{root_fits, root_small}
use Rattle.sg_editor.proofs.desk.Desk.begin.Goals as goal

pub open-requires-clause-fits : goal.open-requires-clause-fits
open-requires-clause-fits c =
    let spec = c.args.base.now.contents.spec in
    let made : c.in_ok-t.t ≡ completing spec spec.root = c.in_ok-t.ensures ∙ ap (λ s. completing s s.root) c.spec-spec.ensures.spec in
    subst (λ (t : Term). Fits spec t spec.root) (sym made) (root_fits spec c.spec-spec.ensures.sound)

pub open-requires-clause-small : goal.open-requires-clause-small
open-requires-clause-small c =
    let spec = c.args.base.now.contents.spec in
    let made : c.in_ok-t.t ≡ completing spec spec.root = c.in_ok-t.ensures ∙ ap (λ s. completing s s.root) c.spec-spec.ensures.spec in
    subst IsSmall (sym made) (root_small spec c.spec-spec.ensures.sound)
