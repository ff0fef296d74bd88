use Rattle.std.proofs.Common.{◌≡◌, ◌≢◌, sym, subst}
use Rattle.std.proofs.lemmas.Result.{err_from_is_err_and, IfOk-weaker, IfErr-weaker}
use Rattle.sg_kinds.specs.Sound.{IsSound}
use Rattle.sg_kinds.specs.declared.fault.SpecFault.TheVariants.{NoMemory}
use Rattle.sg_ast.specs.View.{trees_of}
use Rattle.sg_load.specs.FirstFault.{late_phases}
use Rattle.sg_load.specs.Only.{IsTheFault, IsTheJudgement}
use Rattle.sg_load.specs.Verdict.Verdict.{Refused, Accepted}
use Rattle.sg_load.proofs.FirstLaws.{refused}
use Rattle.sg_load.proofs.Judging.{if_ok_where, late_refused, all_accepted}
use Rattle.sg_load.proofs.loading.judge.Goals as goal

pub returns-in_err-spec-clause-refused : goal.returns-in_err-spec-clause-refused
returns-in_err-spec-clause-refused c =
    let p = err_from_is_err_and c.from_residual.result c.from_residual.ensures.1 in
    rw (p.1, p.2) (λ some. refused (trees_of c.args.decls.now) c.in_err-spec.field-0.0 (c.in_err-spec.ensures.fault some))

pub returns-clause-accepted : goal.returns-clause-accepted
returns-clause-accepted c =
    if_ok_where (λ l. l.spec ≡ c.in_ok-spec.spec) (λ l. IsTheJudgement (trees_of c.args.decls.now) (Accepted l.spec)) c.complete.result
    (λ l same late. all_accepted (trees_of c.args.decls.now) c.in_ok-spec.spec l.spec c.in_ok-spec.ensures.none c.in_ok-spec.ensures.the same late) c.complete.ensures.same c.complete.ensures.none

pub returns-clause-sound : goal.returns-clause-sound
returns-clause-sound c =
    IfOk-weaker c.complete.result (λ l. l.spec ≡ c.in_ok-spec.spec) (λ l. IsSound l.spec)
    (λ l same. subst IsSound (sym same) c.in_ok-spec.ensures.sound) c.complete.ensures.same

pub returns-clause-refused : goal.returns-clause-refused
returns-clause-refused c =
    IfErr-weaker c.complete.result (λ f. f ≢ NoMemory → IsTheFault (trees_of c.args.decls.now) late_phases f) (λ f. f ≢ NoMemory → IsTheJudgement (trees_of c.args.decls.now) (Refused f))
    (λ f the some. late_refused (trees_of c.args.decls.now) f c.in_ok-spec.ensures.none (the some)) c.complete.ensures.fault
