use Rattle.std.proofs.Common.{sym, ap, ◌∙◌}
use Rattle.std.proofs.lemmas.Result.{err_from_is_err_and}
use Rattle.std.specs.Prelude.{Some}
use Rattle.std.proofs.lemmas.Option.{same_Some, slice_get_within}
use Rattle.sg_kinds.specs.declared.spec.Rule.{Rule}
use Rattle.sg_eval.specs.Journal.{now_of}
use Rattle.sg_attrib.proofs.Evaluated.{evaluated, not_evaluated}
use Rattle.sg_attrib.proofs.visits.evaluate.Goals as goal

pub evaluate_at-requires-clause-rule : goal.evaluate_at-requires-clause-rule
evaluate_at-requires-clause-rule c = let o = c.requires.operator in slice_get_within c.args.terms.now.spec.rules c.args.rule o.0 o.1

pub evaluate_at-requires-clause-operator : goal.evaluate_at-requires-clause-operator
evaluate_at-requires-clause-operator c = let o = c.requires.operator in λ r at. o.2 ∙ ap (λ (q : Rule). Some q.op) (same_Some o.0 r (sym o.1 ∙ at))

pub returns-clause-gives : goal.returns-clause-gives
returns-clause-gives c =
    let o = c.requires.operator in
    let e = c.in_ok-evaluate_at.ensures in
    let it = c.in_ok-evaluate_at.field-0 in
    evaluated c.args.terms.now c.facts.ensures c.args.plans.now c.requires.valid c.args.n c.args.rule o.0 o.1 o.2 c.evaluate_at.new.self (now_of c.args.journal.now) (now_of c.evaluate_at.new.journal) tt it.node it.slot it.after
    (e.bearer o.0 o.1) (e.outcome o.0 o.1) e.after e.kept e.noted

pub returns-in_err-evaluate_at-clause-gives : goal.returns-in_err-evaluate_at-clause-gives
returns-in_err-evaluate_at-clause-gives c =
    let o = c.requires.operator in
    let e = c.in_err-evaluate_at.ensures in
    let p = err_from_is_err_and c.from_residual.result c.from_residual.ensures.1 in
    rw p.1
    (not_evaluated c.args.terms.now c.facts.ensures c.args.plans.now c.requires.valid c.args.n c.args.rule o.0 o.1 o.2 c.evaluate_at.new.self (now_of c.args.journal.now) (now_of c.evaluate_at.new.journal) p.0 e.err (e.noted_err o.0 o.1))
