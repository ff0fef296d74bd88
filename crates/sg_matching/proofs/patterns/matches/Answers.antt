use Rattle.std.proofs.Common.{◌≡◌, Some, sym, ap, ◌∙◌, subst}
use Rattle.std.specs.Prelude.{slice_get, is_some}
use Rattle.std.proofs.lemmas.Option.{same_Some}
use Rattle.sg_kinds.specs.Evaluation.{bound_by}
use Rattle.sg_kinds.specs.declared.spec.Spec.{Spec}
use Rattle.sg_kinds.specs.declared.spec.Transform.{Transform}
use Rattle.sg_matching.specs.Under.{value_under}
use Rattle.sg_matching.specs.InRange.{IsInRange}
use Rattle.sg_matching.proofs.NodeValues.{value_told}
use Rattle.sg_matching.proofs.Matched.{transform_in_range}
use Rattle.sg_matching.proofs.patterns.matches.Goals as goal

pub is_match-requires-clause-range : goal.is_match-requires-clause-range
is_match-requires-clause-range c =
    let spec = c.args.terms.now.spec in
    let x = c.item-transform.result.now in
    let at : slice_get spec.transforms c.args.p ≡ Some x = ap (slice_get spec.transforms) (sym c.p.view_is) ∙ ap (λ l. slice_get l c.p.inside.number) (sym (c.as_slice.ensures ∙ ap (λ (s : Spec). s.transforms) c.spec.ensures)) ∙ c.item-transform.ensures in
    subst (IsInRange spec) (sym (ap (λ (y : Transform). y.pattern) c.transform.view_is)) (transform_in_range spec c.facts.ensures.sound c.args.p x at)

pub returns : goal.returns
returns c =
    let g = c.args.terms.now in
    let x = c.item-transform.result.now in
    let at : slice_get g.spec.transforms c.args.p ≡ Some x = ap (slice_get g.spec.transforms) (sym c.p.view_is) ∙ ap (λ l. slice_get l c.p.inside.number) (sym (c.as_slice.ensures ∙ ap (λ (s : Spec). s.transforms) c.spec.ensures)) ∙ c.item-transform.ensures in
    λ y t there holds.
    let same : x ≡ y = same_Some x y (sym at ∙ there) in
    c.is_match.ensures ∙ ap (λ q. is_some (bound_by g.spec q (value_under g c.args.at))) (ap (λ (z : Transform). z.pattern) c.transform.view_is)
    ∙ ap (λ (z : Transform). is_some (bound_by g.spec z.pattern (value_under g c.args.at))) same
    ∙ ap (λ v. is_some (bound_by g.spec y.pattern v)) (value_told g c.facts.ensures c.args.at t holds)
