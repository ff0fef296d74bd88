use Rattle.std.proofs.Common.{◌≡◌, Some, false, sym, ap, ◌∙◌, subst}
use Rattle.std.specs.Prelude.{◌&&◌, nat_eq, slice_get, is_some}
use Rattle.std.specs.Option.{option_map_or}
use Rattle.sg_kinds.specs.Evaluation.{bound_by}
use Rattle.sg_kinds.specs.declared.spec.Spec.{Spec}
use Rattle.sg_kinds.specs.declared.spec.Transform.{Transform}
use Rattle.sg_matching.specs.Under.{value_under}
use Rattle.sg_matching.specs.InRange.{IsInRange}
use Rattle.sg_matching.specs.Transformation.{suits}
use Rattle.sg_matching.proofs.Matched.{transform_in_range}
use Rattle.sg_matching.proofs.named.suits.Goals as goal

pub is_match-requires-clause-range : goal.is_match-requires-clause-range
is_match-requires-clause-range c =
    let spec = c.args.terms.now.spec in
    let x = c.item-transform.result.now in
    let at : slice_get spec.transforms c.args.k ≡ Some x = ap (slice_get spec.transforms) (sym c.k.view_is) ∙ ap (λ l. slice_get l c.k.inside.number) (sym (c.as_slice.ensures ∙ ap (λ (s : Spec). s.transforms) c.spec.ensures)) ∙ c.item-transform.ensures in
    subst (IsInRange spec) (sym (ap (λ (y : Transform). y.pattern) c.transform.view_is)) (transform_in_range spec c.facts.ensures.sound c.args.k x at)

pub returns-then-not-stands_on : goal.returns-then-not-stands_on
returns-then-not-stands_on c =
    let g = c.args.terms.now in
    let v = value_under g c.args.at in
    let x = c.item-transform.result.now in
    let at : slice_get g.spec.transforms c.args.k ≡ Some x = ap (slice_get g.spec.transforms) (sym c.k.view_is) ∙ ap (λ l. slice_get l c.k.inside.number) (sym (c.as_slice.ensures ∙ ap (λ (s : Spec). s.transforms) c.spec.ensures)) ∙ c.item-transform.ensures in
    let stands : nat_eq x.phylum c.args.p ≡ false = sym c.stands_on.ensures ∙ c.if-not-stands_on.true in
    sym (ap (λ o. option_map_or (suits g.spec c.args.p v) o false) at ∙ ap (λ b. b && is_some (bound_by g.spec x.pattern v)) stands)

pub returns : goal.returns
returns c =
    let g = c.args.terms.now in
    let v = value_under g c.args.at in
    let x = c.item-transform.result.now in
    let at : slice_get g.spec.transforms c.args.k ≡ Some x = ap (slice_get g.spec.transforms) (sym c.k.view_is) ∙ ap (λ l. slice_get l c.k.inside.number) (sym (c.as_slice.ensures ∙ ap (λ (s : Spec). s.transforms) c.spec.ensures)) ∙ c.item-transform.ensures in
    let stands = sym c.stands_on.ensures ∙ c.if-not-stands_on.false in
    c.is_match.ensures ∙ ap (λ q. is_some (bound_by g.spec q v)) (ap (λ (y : Transform). y.pattern) c.transform.view_is)
    ∙ sym (ap (λ o. option_map_or (suits g.spec c.args.p v) o false) at ∙ ap (λ b. b && is_some (bound_by g.spec x.pattern v)) stands)
