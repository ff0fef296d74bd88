use Rattle.std.specs.Prelude.{◌≤◌, length}
use Rattle.std.proofs.Common.{ap, ◌∙◌, sym, subst}
use Rattle.sg_kinds.specs.declared.spec.Spec.{Spec}
use Rattle.sg_groves.specs.Grove.{Grove}
use Rattle.sg_commands.specs.Turns.{view_named}
use Rattle.sg_commands.proofs.moving.view_here.Goals as goal

pub view_named-requires : goal.view_named-requires
view_named-requires c = subst (λ (sp : Spec). length sp.views.names ≤ 16) (sym c.spec.ensures) c.facts.ensures.sound.counted.views

pub returns : goal.returns
returns c =
    c.view_named.ensures ∙ ap (λ (sp : Spec). view_named sp c.args.name.now) (c.spec.ensures ∙ ap (λ (g : Grove). g.spec) c.terms-terms.ensures)
