use Rattle.std.proofs.Common.{ap, ◌∙◌}
use Rattle.sg_kinds.specs.Placeholder.{placeholder}
use Rattle.sg_kinds.specs.declared.spec.Spec.{Spec}
use Rattle.sg_edits.specs.Edits.{paired}
use Rattle.sg_edits.proofs.inserting.longer.Goals as goal

pub returns : goal.returns
returns c = λ x h.
    let made = c.in_ok-first.ensures ∙ ap (λ (s : Spec). placeholder s c.elements_in.result) c.spec.ensures ∙ ap (placeholder c.args.terms.now.spec) (c.elements_in.ensures x h) in
    c.in_ok-paired.ensures x h ∙ ap (λ a. paired x a c.args.rest) made
