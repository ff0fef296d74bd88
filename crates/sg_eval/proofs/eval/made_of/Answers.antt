use Rattle.std.proofs.Common.{◌∙◌, subst, sym}
use Rattle.std.proofs.lemmas.Option.{slice_get_within}
use Rattle.sg_kinds.specs.Evaluation.{Gives, limited, made_value}
use Rattle.sg_pool.specs.Pools.{StandsFor}
use Rattle.sg_eval.specs.Lives.{IsReached}
use Rattle.sg_eval.proofs.Bindings.{stands_later}
use Rattle.sg_eval.proofs.eval.made_of.Goals as goal

pub read-requires : goal.read-requires
read-requires c = slice_get_within _ _ _ (c.requires.stands c.args.kind c.args.p c.in-Some.id (sym c.number.ensures ∙ c.in-Some.is))

pub returns-in-Some-clause-value : goal.returns-in-Some-clause-value
returns-in-Some-clause-value c = λ last left g.
    let v = made_value c.args.scope.now.spec.now c.args.kind c.args.p in
    let kept : StandsFor c.args.pool.now c.in-Some.id v = c.requires.stands c.args.kind c.args.p c.in-Some.id (sym c.number.ensures ∙ c.in-Some.is) in
    subst (λ x. IsReached last c.read.result left (limited (Gives x left))) (stands_later c.args.pool.now last c.in-Some.id v kept g) (c.read.ensures last left g)

pub read-requires-2 : goal.read-requires-2
read-requires-2 c = slice_get_within _ _ _ c.in_ok-id.ensures.stands

pub returns-clause-value : goal.returns-clause-value
returns-clause-value c = λ last left g.
    let v = made_value c.args.scope.now.spec.now c.args.kind c.args.p in
    let put : StandsFor c.put.new.self c.in_ok-id.id v = subst (StandsFor c.put.new.self c.in_ok-id.id) c.in_ok-value.ensures c.in_ok-id.ensures.stands in
    subst (λ x. IsReached last c.read-2.result left (limited (Gives x left))) (stands_later c.put.new.self last c.in_ok-id.id v put g) (c.read-2.ensures last left g)
