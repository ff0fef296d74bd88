use Rattle.std.specs.Prelude.{min}
use Rattle.std.proofs.Common.{ap, ◌∙◌}
use Rattle.sg_kinds.specs.InView.{in_view}
use Rattle.sg_kinds.specs.declared.spec.Spec.{Spec}
use Rattle.sg_unparse.specs.Margins.{ons_of}
use Rattle.sg_states.proofs.forecast.ons_here.Goals as goal

pub returns : goal.returns
returns c =
    c.ons.ensures
    ∙ ap (λ (s : Spec). min (ons_of (in_view s c.view.result)) 18446744073709551615) c.spec.ensures
    ∙ ap (λ v. min (ons_of (in_view c.args.terms.now.spec v)) 18446744073709551615) c.view.ensures
