use Rattle.std.proofs.Common.{◌≡◌, Some, sym, ap, ◌∙◌}
use Rattle.std.specs.Prelude.{slice_get}
use Rattle.sg_kinds.specs.declared.spec.Spec.{Spec}
use Rattle.sg_matching.specs.Under.{value_under}
use Rattle.sg_matching.specs.MadeUnder.{has_value}
use Rattle.sg_matching.proofs.MadeValues.{placeholder_completing}
use Rattle.sg_matching.proofs.made.is_placeholder.Goals as goal

pub returns-in_default-shape : goal.returns-in_default-shape
returns-in_default-shape c =
    let g = c.args.terms.now in
    let x = c.in-Some.phylum.now in
    let at : slice_get g.spec.phyla c.args.p ≡ Some x = ap (λ (s : Spec). slice_get s.phyla c.args.p) (sym c.spec.ensures) ∙ ap (slice_get c.spec.result.now.phyla) (sym c.p.view_is) ∙ c.in-Some.ensures in
    c.is_completing.ensures ∙ sym (ap (λ o. has_value o (value_under g c.args.n)) (placeholder_completing g.spec c.args.room c.args.p x at c.in_default-shape.not-Optional c.in_default-shape.not-OptionalListed))
