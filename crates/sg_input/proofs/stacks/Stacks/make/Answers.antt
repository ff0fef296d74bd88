use Rattle.std.proofs.Common.{[], ◌∷◌, ◌++◌, map, drop, ap, ◌∙◌, subst}
use Rattle.sg_kinds.specs.Outcome.{outcome_of}
use Rattle.sg_pool.specs.Pools.{value_at, StandsFor}
use Rattle.sg_input.proofs.Steps.{outcome-values, same-values, rest-is}
use Rattle.sg_input.proofs.stacks.Stacks.make.Goals as goal

pub returns-in_ok-push-in-Outcome-clause-values : goal.returns-in_ok-push-in-Outcome-clause-values
returns-in_ok-push-in-Outcome-clause-values c =
    let spec = c.args.reading.now.evaluator.now in
    let s = c.args.self.now in
    let id = c.in_ok-id-in-Outcome.id in
    let whole = c.as_slice.result.now in
    let first = subst (λ vs. StandsFor c.apply_in.new.pool id (outcome_of spec c.in-Outcome.e (map (value_at s.pool) vs))) (rest-is whole c.args.from) c.in_ok-id-in-Outcome.ensures.outcome in
    let stands = subst (λ ids. StandsFor c.apply_in.new.pool id (outcome_of spec c.in-Outcome.e (map (value_at s.pool) (drop c.args.from ids)))) c.as_slice.ensures.value first in
    outcome-values spec s.pool c.apply_in.new.pool s.results.items c.push.new.self.items c.args.from id c.in-Outcome.e c.args.made c.in-Outcome.is c.apply_in.ensures.grown c.requires.numbers stands
    (c.in_ok-push-in-Outcome.ensures.items ∙ ap (λ z. z ++ id ∷ []) c.truncate.ensures.items)

pub returns-in-Same-clause-values : goal.returns-in-Same-clause-values
returns-in-Same-clause-values c =
    let s = c.args.self.now in
    same-values c.args.reading.now.evaluator.now s.pool s.results.items c.args.from c.args.made c.in-Same.is
