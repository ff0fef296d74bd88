use Rattle.std.proofs.Common.{◌≡◌, List, Some, sym, ap, ◌∙◌, subst}
use Rattle.std.specs.Prelude.{slice_get, MatchBool}
use Rattle.std.specs.List.{list_any}
use Rattle.sg_kinds.specs.Values.{Value}
use Rattle.sg_kinds.specs.ValueOf.{value_of}
use Rattle.sg_kinds.specs.Expressions.{Pattern}
use Rattle.sg_kinds.specs.Evaluation.{bound_by}
use Rattle.sg_kinds.specs.Outcome.{outcome_of}
use Rattle.sg_kinds.specs.OfType.{IsOfType}
use Rattle.sg_kinds.specs.declared.spec.Spec.{Spec}
use Rattle.sg_kinds.specs.declared.spec.Transform.{Transform}
use Rattle.sg_eval.specs.Applied.{IsApplied}
use Rattle.sg_eval.proofs.AppliedBy.{transform_applied}
use Rattle.sg_matching.specs.Under.{value_under}
use Rattle.sg_matching.specs.Transformation.{Gives, transformation, is_of_name}
use Rattle.sg_matching.specs.declared.named.TransformFault.TheVariants as fault
use Rattle.sg_matching.proofs.NodeValues.{one_phylum}
use Rattle.sg_matching.proofs.FirstFound.{missing_refused}
use Rattle.sg_matching.proofs.Applied.{applied, settled_given, settled_typed}
use Rattle.sg_matching.proofs.named.transform.Goals as goal

pub found_by-requires-clause-named : goal.found_by-requires-clause-named
found_by-requires-clause-named c = (c.args.name.now, c.deref.ensures.value ∙ c.in_ok-numbers.ensures)

pub returns-in_default-clause-given : goal.returns-in_default-clause-given
returns-in_default-clause-given c =
    let spec = c.args.terms.now.spec in
    let name = c.args.name.now in
    let named = c.deref.ensures.value ∙ c.in_ok-numbers.ensures in
    λ p t holds fits.
    let same = one_phylum spec t c.phylum.result p (c.phylum.ensures.term t holds) fits in
    let why = subst (λ q. MatchBool (list_any (is_of_name q name) spec.transforms) (c.missing.result ≡ fault.NoMatch) (c.missing.result ≡ fault.Unknown)) same
    (subst (λ (s : Spec). MatchBool (list_any (is_of_name c.phylum.result name) s.transforms) (c.missing.result ≡ fault.NoMatch) (c.missing.result ≡ fault.Unknown)) c.spec.ensures c.missing.ensures) in
    missing_refused spec p name (value_of t) c.missing.result (sym (c.in_default.ensures.first name p t named holds fits)) why

pub apply-requires : goal.apply-requires
apply-requires c =
    let spec = c.args.terms.now.spec in
    let x = c.item-x.result.now in
    let at : slice_get spec.transforms c.in-Some.first ≡ Some x = ap (slice_get spec.transforms) (sym c.first.view_is) ∙ ap (λ l. slice_get l c.first.inside.number) (sym (c.as_slice.ensures ∙ ap (λ (s : Spec). s.transforms) c.spec-2.ensures)) ∙ c.item-x.ensures in
    let is = subst (λ (s : Spec). IsApplied s x.expr) (sym c.requires.same) (transform_applied spec c.in-Some.first x at) in
    record { applied = subst (IsApplied c.args.ev.now) (sym (ap (λ (y : Transform). y.expr) c.x.view_is)) is }

pub returns-clause-given : goal.returns-clause-given
returns-clause-given c =
    let g = c.args.terms.now in
    let spec = g.spec in
    let x = c.item-x.result.now in
    let at : slice_get spec.transforms c.in-Some.first ≡ Some x = ap (slice_get spec.transforms) (sym c.first.view_is) ∙ ap (λ l. slice_get l c.first.inside.number) (sym (c.as_slice.ensures ∙ ap (λ (s : Spec). s.transforms) c.spec-2.ensures)) ∙ c.item-x.ensures in
    let binds = subst (λ (q : Pattern). (values : List Value) → bound_by spec q (value_under g c.args.at) ≡ Some values → c.in_ok-bound.bound.items ≡ values) (ap (λ (y : Transform). y.pattern) c.x.view_is) c.in_ok-bound.ensures in
    let named = c.deref.ensures.value ∙ c.in_ok-numbers.ensures in
    let outcome = c.in_ok-v.ensures ∙ ap (λ e. outcome_of c.args.ev.now e c.deref-2.result.now) (ap (λ (y : Transform). y.expr) c.x.view_is) ∙ ap (λ s. outcome_of s x.expr c.deref-2.result.now) c.requires.same ∙ ap (outcome_of spec x.expr) c.deref-2.ensures.value in
    λ p t holds fits.
    let given = applied g c.facts.ensures c.args.at c.args.name.now c.in-Some.first x c.in_ok-bound.bound.items c.in_ok-v.v p t holds fits (c.in-Some.ensures.first c.args.name.now p t named holds fits) at binds outcome in
    settled_given c.settled.result (transformation spec p c.args.name.now (value_of t)) c.in_ok-v.v given.gives c.settled.ensures.given

pub returns-clause-typed : goal.returns-clause-typed
returns-clause-typed c =
    let g = c.args.terms.now in
    let spec = g.spec in
    let x = c.item-x.result.now in
    let at : slice_get spec.transforms c.in-Some.first ≡ Some x = ap (slice_get spec.transforms) (sym c.first.view_is) ∙ ap (λ l. slice_get l c.first.inside.number) (sym (c.as_slice.ensures ∙ ap (λ (s : Spec). s.transforms) c.spec-2.ensures)) ∙ c.item-x.ensures in
    let binds = subst (λ (q : Pattern). (values : List Value) → bound_by spec q (value_under g c.args.at) ≡ Some values → c.in_ok-bound.bound.items ≡ values) (ap (λ (y : Transform). y.pattern) c.x.view_is) c.in_ok-bound.ensures in
    let named = c.deref.ensures.value ∙ c.in_ok-numbers.ensures in
    let outcome = c.in_ok-v.ensures ∙ ap (λ e. outcome_of c.args.ev.now e c.deref-2.result.now) (ap (λ (y : Transform). y.expr) c.x.view_is) ∙ ap (λ s. outcome_of s x.expr c.deref-2.result.now) c.requires.same ∙ ap (outcome_of spec x.expr) c.deref-2.ensures.value in
    λ p t holds fits.
    let given = applied g c.facts.ensures c.args.at c.args.name.now c.in-Some.first x c.in_ok-bound.bound.items c.in_ok-v.v p t holds fits (c.in-Some.ensures.first c.args.name.now p t named holds fits) at binds outcome in
    settled_typed c.settled.result (Gives c.in_ok-v.v) c.in_ok-v.v (IsOfType spec p) given.typed c.settled.ensures.given
