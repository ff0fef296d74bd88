use Rattle.std.proofs.Common.{◌≡◌, Some, refl, sym, ap, ◌∙◌, subst}
use Rattle.std.specs.List.{slice_get}
use Rattle.sg_kinds.specs.declared.spec.Rule.{Rule}
use Rattle.sg_terms.specs.Occurrences.{IsBearer}
use Rattle.sg_terms.proofs.Steps.{grove}
use Rattle.sg_terms.proofs.Typed.{bearer_there}
use Rattle.sg_terms.proofs.Written.{op_node}
use Rattle.sg_terms.proofs.terms.Terms.bearer.Goals as goal

pub there-requires-clause-there : goal.there-requires-clause-there
there-requires-clause-there c =
    let operator = rw (← c.self.view_is) at c.requires.operator in
    let r = c.item.result.now in
    let g = grove c.self.inside.spec c.self.inside.view c.self.inside.trees c.self.inside.pool in
    let at : slice_get c.self.inside.spec.rules c.args.rule ≡ Some r = ap (λ l. slice_get l c.args.rule) (sym c.as_slice.ensures) ∙ ap (slice_get c.as_slice.result.now) (sym c.rule.view_is) ∙ c.item.ensures in
    let x = op_node g c.args.n r.op (operator r at) in
    bearer_there g c.self.invariant.0 c.args.n x.0 x.1 c.args.rule r at x.2

pub there-requires-clause-forest : goal.there-requires-clause-forest
there-requires-clause-forest c = c.self.invariant.0.forest

pub returns : goal.returns
returns c =
    let is_at : slice_get c.self.inside.spec.rules c.args.rule ≡ Some c.item.result.now = ap (λ l. slice_get l c.args.rule) (sym c.as_slice.ensures) ∙ ap (slice_get c.as_slice.result.now) (sym c.rule.view_is) ∙ c.item.ensures in
    rw (← c.self.view_is)
    (λ r at. let same : c.item.result.now ≡ r = cc (is_at, at) in
    subst (λ (q : Rule). IsBearer (grove c.self.inside.spec c.self.inside.view c.self.inside.trees c.self.inside.pool) c.args.n q c.there.result c.item.result.now.target.slot) same
    (record { there = c.there.ensures; slot_is = refl }))
