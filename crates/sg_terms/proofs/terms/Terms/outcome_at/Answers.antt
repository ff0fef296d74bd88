use Rattle.std.proofs.Common.{◌≡◌, ◌<◌, map, length, Some, sym, ◌∙◌, ap, refl, subst}
use Rattle.std.specs.List.{slice_get}
use Rattle.std.specs.Prelude.{All, IfOk, IsSome}
use Rattle.sg_kinds.specs.Outcome.{outcome}
use Rattle.sg_kinds.specs.declared.spec.Spec.{Spec}
use Rattle.sg_kinds.specs.declared.spec.Rule.{Rule}
use Rattle.sg_pool.specs.Pools.{StandsFor, value_at}
use Rattle.sg_pool.proofs.Grown.{grown_itself}
use Rattle.sg_eval.specs.MadeTerms.{AreMade}
use Rattle.sg_terms.specs.Occurrences.{number_for, value_for}
use Rattle.sg_terms.proofs.Same.{OnlyStored-none}
use Rattle.sg_terms.proofs.Steps.{grove, IsGrove-same}
use Rattle.sg_terms.proofs.Typed.{ready, storable_result}
use Rattle.sg_terms.proofs.terms.Terms.outcome_at.Goals as goal

pub gather-requires-clause-there : goal.gather-requires-clause-there
gather-requires-clause-there c =
    let operator = rw (← c.self.view_is) at c.requires.operator in
    let r = c.item-equation.result.now in
    let g = grove c.self.inside.spec c.self.inside.view c.self.inside.trees c.self.inside.pool in
    let at : slice_get c.self.inside.spec.rules c.args.rule ≡ Some r = ap (λ l. slice_get l c.args.rule) (sym c.as_slice.ensures) ∙ ap (slice_get c.as_slice.result.now) (sym c.rule.view_is) ∙ c.item-equation.ensures in
    let is = ready g c.self.invariant.0 c.args.n c.args.rule r at (operator r at) in
    subst (All (λ o. IsSome (number_for c.self.inside.trees c.args.n o))) (sym c.as_slice-2.ensures) is.there

pub gather-requires-clause-forest : goal.gather-requires-clause-forest
gather-requires-clause-forest c = c.self.invariant.0.forest

pub returns-in_err-gather-clause-kept : goal.returns-in_err-gather-clause-kept
returns-in_err-gather-clause-kept c =
    rw (← c.self.view_is) (OnlyStored-none c.self.inside.trees c.self.inside.trees refl c.self.inside.spec c.self.inside.view c.self.inside.pool c.self.inside.pool (grown_itself c.self.inside.pool))

pub run-requires-clause-rule : goal.run-requires-clause-rule
run-requires-clause-rule c =
    let same = rw (← c.self.view_is) at c.requires.same in
    let rule = rw (← c.self.view_is) at c.requires.rule in
    subst (λ (s : Spec). c.args.rule < length s.rules) (sym same) rule

pub run-requires-clause-args : goal.run-requires-clause-args
run-requires-clause-args c =
    let operator = rw (← c.self.view_is) at c.requires.operator in
    let r = c.item-equation.result.now in
    let g = grove c.self.inside.spec c.self.inside.view c.self.inside.trees c.self.inside.pool in
    let at : slice_get c.self.inside.spec.rules c.args.rule ≡ Some r = ap (λ l. slice_get l c.args.rule) (sym c.as_slice.ensures) ∙ ap (slice_get c.as_slice.result.now) (sym c.rule.view_is) ∙ c.item-equation.ensures in
    let is = ready g c.self.invariant.0 c.args.n c.args.rule r at (operator r at) in
    let known = is.known c.gather.new.numbers.items (c.in_ok-gather.ensures ∙ ap (map (number_for c.self.inside.trees c.args.n)) c.as_slice-2.ensures) in
    subst (All (λ k. k < length c.self.inside.pool)) (sym c.deref.ensures.value) known.0

pub run-requires-clause-made : goal.run-requires-clause-made
run-requires-clause-made c =
    let same = rw (← c.self.view_is) at c.requires.same in
    subst (λ (s : Spec). AreMade s c.self.inside.made c.self.inside.pool) (sym same) c.self.invariant.1

pub invariant_of-self-2 : goal.invariant_of-self-2
invariant_of-self-2 c =
    let same = rw (← c.self.view_is) at c.requires.same in (
      IsGrove-same c.self.inside.spec c.self.inside.view c.self.inside.trees c.self.inside.trees c.self.inside.pool c.run.new.pool c.run.ensures.grown c.self.invariant.0 refl,
      subst (λ (s : Spec). AreMade s c.run.new.made c.run.new.pool) same c.run.ensures.made,
    )

pub returns-clause-outcome : goal.returns-clause-outcome
returns-clause-outcome c =
    let same = rw (← c.self.view_is) at c.requires.same in
    let operator = rw (← c.self.view_is) at c.requires.operator in
    let r = c.item-equation.result.now in
    let g = grove c.self.inside.spec c.self.inside.view c.self.inside.trees c.self.inside.pool in
    let at : slice_get c.self.inside.spec.rules c.args.rule ≡ Some r = ap (λ l. slice_get l c.args.rule) (sym c.as_slice.ensures) ∙ ap (slice_get c.as_slice.result.now) (sym c.rule.view_is) ∙ c.item-equation.ensures in
    let is = ready g c.self.invariant.0 c.args.n c.args.rule r at (operator r at) in
    let known = is.known c.gather.new.numbers.items (c.in_ok-gather.ensures ∙ ap (map (number_for c.self.inside.trees c.args.n)) c.as_slice-2.ensures) in
    let run = subst (λ (s : Spec). (q : Rule) → slice_get s.rules c.args.rule ≡ Some q → IfOk c.run.result (λ id. StandsFor c.run.new.pool id (outcome s q (map (value_at c.self.inside.pool) c.deref.result.now)))) same c.run.ensures.outcome in
    let here = subst (λ vs. IfOk c.run.result (λ id. StandsFor c.run.new.pool id (outcome c.self.inside.spec r vs))) (ap (map (value_at c.self.inside.pool)) c.deref.ensures.value ∙ known.1) (run r at) in
    rw (← c.self.view_is)
    (λ q at_q. let one : r ≡ q = cc (at, at_q) in
    subst (λ (z : Rule). IfOk c.run.result (λ id. StandsFor c.run.new.pool id (outcome c.self.inside.spec z (map (value_for g c.args.n) z.args)))) one here)

pub returns-clause-storable : goal.returns-clause-storable
returns-clause-storable c =
    let same = rw (← c.self.view_is) at c.requires.same in
    let operator = rw (← c.self.view_is) at c.requires.operator in
    let bearer = rw (← c.self.view_is) at c.requires.bearer in
    let r = c.item-equation.result.now in
    let g = grove c.self.inside.spec c.self.inside.view c.self.inside.trees c.self.inside.pool in
    let later = grove c.self.inside.spec c.self.inside.view c.self.inside.trees c.run.new.pool in
    let at : slice_get c.self.inside.spec.rules c.args.rule ≡ Some r = ap (λ l. slice_get l c.args.rule) (sym c.as_slice.ensures) ∙ ap (slice_get c.as_slice.result.now) (sym c.rule.view_is) ∙ c.item-equation.ensures in
    let is = ready g c.self.invariant.0 c.args.n c.args.rule r at (operator r at) in
    let known = is.known c.gather.new.numbers.items (c.in_ok-gather.ensures ∙ ap (map (number_for c.self.inside.trees c.args.n)) c.as_slice-2.ensures) in
    let run = subst (λ (s : Spec). (q : Rule) → slice_get s.rules c.args.rule ≡ Some q → IfOk c.run.result (λ id. StandsFor c.run.new.pool id (outcome s q (map (value_at c.self.inside.pool) c.deref.result.now)))) same c.run.ensures.outcome in
    let here = subst (λ vs. IfOk c.run.result (λ id. StandsFor c.run.new.pool id (outcome c.self.inside.spec r vs))) (ap (map (value_at c.self.inside.pool)) c.deref.ensures.value ∙ known.1) (run r at) in
    let held = IsGrove-same c.self.inside.spec c.self.inside.view c.self.inside.trees c.self.inside.trees c.self.inside.pool c.run.new.pool c.run.ensures.grown c.self.invariant.0 refl in
    let to = bearer r at in
    storable_result later held c.args.n c.args.rule r at (operator r at) c.args.node c.args.slot (record { there = to.there; slot_is = to.slot_is }) (map (value_for g c.args.n) r.args) is.types is.have is.typed c.run.result here

pub returns-clause-kept : goal.returns-clause-kept
returns-clause-kept c =
    rw (← c.self.view_is) (OnlyStored-none c.self.inside.trees c.self.inside.trees refl c.self.inside.spec c.self.inside.view c.self.inside.pool c.run.new.pool c.run.ensures.grown)
