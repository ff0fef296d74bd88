use Rattle.std.proofs.Common.{◌≡◌, ◌<◌, map, length, Some, sym, refl, subst}
use Rattle.std.specs.List.{slice_get}
use Rattle.std.specs.Prelude.{IfOk}
use Rattle.sg_kinds.specs.Outcome.{outcome}
use Rattle.sg_kinds.specs.declared.spec.Spec.{Spec}
use Rattle.sg_kinds.specs.declared.spec.Rule.{Rule}
use Rattle.sg_pool.specs.Pools.{StandsFor, value_at}
use Rattle.sg_eval.specs.MadeTerms.{AreMade}
use Rattle.sg_terms.proofs.Same.{OnlyStored-none}
use Rattle.sg_terms.proofs.Steps.{IsGrove-same}
use Rattle.sg_terms.proofs.terms.Terms.evaluate.Goals as goal

pub run-requires-clause-rule : goal.run-requires-clause-rule
run-requires-clause-rule c =
    let same = rw (← c.self.view_is) at c.requires.same in
    let rule = rw (← c.self.view_is) at c.requires.rule in
    subst (λ (s : Spec). c.args.rule < length s.rules) (sym same) rule

pub run-requires-clause-args : goal.run-requires-clause-args
run-requires-clause-args c = rw (← c.self.view_is) at c.requires.args

pub run-requires-clause-made : goal.run-requires-clause-made
run-requires-clause-made c =
    let same = rw (← c.self.view_is) at c.requires.same in
    subst (λ (s : Spec). AreMade s c.self.inside.made c.self.inside.pool) (sym same) c.self.invariant.1

pub invariant_of-self : goal.invariant_of-self
invariant_of-self c =
    let same = rw (← c.self.view_is) at c.requires.same in (
      IsGrove-same c.self.inside.spec c.self.inside.view c.self.inside.trees c.self.inside.trees c.self.inside.pool c.run.new.pool c.run.ensures.grown c.self.invariant.0 refl,
      subst (λ (s : Spec). AreMade s c.run.new.made c.run.new.pool) same c.run.ensures.made,
    )

pub returns-clause-outcome : goal.returns-clause-outcome
returns-clause-outcome c =
    let same = rw (← c.self.view_is) at c.requires.same in
    rw (← c.self.view_is)
    (subst (λ (s : Spec). (r : Rule) → slice_get s.rules c.args.rule ≡ Some r → IfOk c.run.result (λ id. StandsFor c.run.new.pool id (outcome s r (map (value_at c.self.inside.pool) c.args.args.now)))) same c.run.ensures.outcome)

pub returns-clause-kept : goal.returns-clause-kept
returns-clause-kept c =
    rw (← c.self.view_is) (OnlyStored-none c.self.inside.trees c.self.inside.trees refl c.self.inside.spec c.self.inside.view c.self.inside.pool c.run.new.pool c.run.ensures.grown)
