use Rattle.std.proofs.Common.{sym, ap, ◌∙◌, subst}
use Rattle.std.proofs.lemmas.Bool.{false≢true}
use Rattle.std.proofs.lemmas.Result.{err_from_is_err_and}
use Rattle.std.proofs.lemmas.Option.{same_Some, slice_get_within}
use Rattle.std.specs.Prelude.{Some, [], ◌∷◌, ◌++◌, is_some}
use Rattle.sg_kinds.specs.declared.plans.PlanStep.TheVariants.{Eval}
use Rattle.sg_kinds.specs.declared.spec.Rule.{Rule}
use Rattle.sg_eval.specs.Journal.{now_of}
use Rattle.sg_trail.specs.Trails.{Way}
use Rattle.sg_trail.specs.declared.entry.WasStored.{WasStored}
use Rattle.sg_attrib.specs.Visited.{IsNeeded, IsStepGiven}
use Rattle.sg_attrib.proofs.Evaluated.{evaluated, not_evaluated}
use Rattle.sg_propagate.specs.Moves.{Repairs}
use Rattle.sg_propagate.proofs.Exits.{bearer_storable, repairs_refused, same_entry, update_done, update_failed, update_idle}
use Rattle.sg_propagate.proofs.Updating.{HasOneNumber}
use Rattle.sg_propagate.proofs.update.update.Goals as goal

-- what the equation defines has a number
pub stored-number-requires : goal.stored-number-requires
stored-number-requires c =
    let o = c.requires.operator in
    ap is_some (bearer_storable c.args.terms.now c.facts.ensures c.args.n c.args.rule o.0 o.1 o.2 c.bearer-slot.result.0 c.bearer-slot.result.1 (c.bearer-slot.ensures o.0 o.1)).1

pub evaluate_at-requires-clause-rule : goal.evaluate_at-requires-clause-rule
evaluate_at-requires-clause-rule c = let o = c.requires.operator in slice_get_within c.args.terms.now.spec.rules c.args.rule o.0 o.1

pub evaluate_at-requires-clause-operator : goal.evaluate_at-requires-clause-operator
evaluate_at-requires-clause-operator c = let o = c.requires.operator in λ r at. o.2 ∙ ap (λ (q : Rule). Some q.op) (same_Some o.0 r (sym o.1 ∙ at))

-- no argument shows another value
pub returns-then-not-has_other-clause-repairs : goal.returns-then-not-has_other-clause-repairs
returns-then-not-has_other-clause-repairs c =
    let o = c.requires.operator in
    update_idle c.args.plans.now c.args.terms.now c.facts.ensures c.args.work.now c.args.top c.args.left c.args.n c.args.rule o.0 o.1 o.2 c.args.trail.now (now_of c.args.journal.now) (tt {0})
    (λ has. false≢true (sym c.if-not-has_other.true ∙ (c.has_other.ensures o.0 o.1).1 has))

-- no room for an entry
pub returns-in_err-push-clause-repairs : goal.returns-in_err-push-clause-repairs
returns-in_err-push-clause-repairs c =
    let plans = c.args.plans.now in
    let way = c.args.trail.now in
    let was = now_of c.args.journal.now in
    subst
    (λ (to : Way). Repairs plans (λ rules. IsNeeded rules plans (Eval c.args.rule)) (λ rules. IsStepGiven rules plans (Eval c.args.rule)) (λ rules. IsStepGiven rules plans (Eval c.args.rule)) c.args.top c.args.left c.args.n c.args.terms.now c.args.terms.now c.args.work.now c.args.work.now way to was was
    c.from_residual.result)
    (sym c.in_err-push.ensures.err)
    (let p = err_from_is_err_and c.from_residual.result c.from_residual.ensures.1 in
    rw p.1
    (repairs_refused plans (λ rules. IsNeeded rules plans (Eval c.args.rule)) (λ rules. IsStepGiven rules plans (Eval c.args.rule)) (λ rules. IsStepGiven rules plans (Eval c.args.rule)) c.args.top c.args.left c.args.n c.args.terms.now c.args.work.now way was p.0))

-- the evaluation was refused
pub returns-in_err-it-clause-repairs : goal.returns-in_err-it-clause-repairs
returns-in_err-it-clause-repairs c =
    let old = c.args.terms.now in
    let new = c.evaluate_at.new.self in
    let plans = c.args.plans.now in
    let o = c.requires.operator in
    let e = c.in_err-it.ensures in
    let was = now_of c.args.journal.now in
    let now = now_of c.evaluate_at.new.journal in
    let p = err_from_is_err_and c.from_residual-in_err-it.result c.from_residual-in_err-it.ensures.1 in
    let shows = (c.has_other.ensures o.0 o.1).0 c.if-not-has_other.false in
    rw p.1
    (update_failed plans old c.facts.ensures c.args.work.now c.args.top c.args.left c.args.n c.args.rule o.0 o.1 o.2 shows c.args.trail.now c.push.new.self c.bearer-slot.result.0 c.bearer-slot.result.1 c.stored-number.result (c.bearer-slot.ensures o.0 o.1) c.stored-number.ensures.number c.in_ok-push.ensures.at
    c.in_ok-push.ensures.detached c.in_ok-push.ensures.pushed new was now p.0 e.err
    (not_evaluated old c.facts.ensures plans c.requires.valid c.args.n c.args.rule o.0 o.1 o.2 new was now p.0 e.err (e.noted_err o.0 o.1)))

-- it was evaluated
pub returns-clause-repairs : goal.returns-clause-repairs
returns-clause-repairs c =
    let old = c.args.terms.now in
    let new = c.evaluate_at.new.self in
    let plans = c.args.plans.now in
    let o = c.requires.operator in
    let e = c.in_ok-it.ensures in
    let it = c.in_ok-it.it in
    let was = now_of c.args.journal.now in
    let now = now_of c.evaluate_at.new.journal in
    let shows = (c.has_other.ensures o.0 o.1).0 c.if-not-has_other.false in
    let one = subst HasOneNumber c.pool.ensures c.sound.ensures.one_number in
    let entry = same_entry old c.args.n o.0 c.bearer-slot.result.0 it.node c.bearer-slot.result.1 it.slot (c.bearer-slot.ensures o.0 o.1) (e.bearer o.0 o.1) c.stored-number.result it.before c.stored-number.ensures.number e.before in
    let pushed = c.in_ok-push.ensures.pushed ∙ ap (λ (x : WasStored). c.args.trail.now.entries ++ x ∷ []) entry in
    update_done plans old c.facts.ensures c.args.work.now c.args.top c.args.left c.args.n c.args.rule o.0 o.1 o.2 shows c.args.trail.now c.push.new.self it.node it.slot it.before (e.bearer o.0 o.1) e.before c.in_ok-push.ensures.at c.in_ok-push.ensures.detached pushed new was now c.facts-2.ensures it.after e.after
    e.kept one c.announce.new.work {A = Unit {0}} tt
    (evaluated old c.facts.ensures plans c.requires.valid c.args.n c.args.rule o.0 o.1 o.2 new was now tt it.node it.slot it.after (e.bearer o.0 o.1) (e.outcome o.0 o.1) e.after e.kept e.noted)
    c.announce.result c.announce.ensures
