use Rattle.std.proofs.Common.{◌≡◌, ◌≢◌, Ok, ap, sym, ◌∙◌}
use Rattle.std.proofs.lemmas.Result.{IfOk-weaker, IfErr-weaker}
use Rattle.sg_kinds.specs.declared.fault.SpecFault.TheVariants.{NoMemory}
use Rattle.sg_ast.specs.View.{trees_of}
use Rattle.sg_load.specs.Trees.{trees_in}
use Rattle.sg_load.specs.Only.{IsTheJudgement, IsTheVerdict}
use Rattle.sg_load.specs.Verdict.Verdict.{Refused, Accepted}
use Rattle.sg_load.proofs.FirstLaws.{with_trees}
use Rattle.sg_load.proofs.loading.load.Goals as goal

pub returns-clause-accepted : goal.returns-clause-accepted
returns-clause-accepted c =
    let trees : trees_in c.args.bytes.now ≡ Ok (trees_of c.deref.result.now) = c.in_ok-decls.ensures.trees ∙ ap (λ ds. Ok (trees_of ds)) (sym c.deref.ensures.value) in
    IfOk-weaker c.judge.result (λ l. IsTheJudgement (trees_of c.deref.result.now) (Accepted l.spec)) (λ l. IsTheVerdict c.args.bytes.now (Accepted l.spec))
    (λ l the. with_trees c.args.bytes.now (trees_of c.deref.result.now) (Accepted l.spec) trees the) c.judge.ensures.accepted

pub returns-clause-refused : goal.returns-clause-refused
returns-clause-refused c =
    let trees : trees_in c.args.bytes.now ≡ Ok (trees_of c.deref.result.now) = c.in_ok-decls.ensures.trees ∙ ap (λ ds. Ok (trees_of ds)) (sym c.deref.ensures.value) in
    IfErr-weaker c.judge.result (λ f. f ≢ NoMemory → IsTheJudgement (trees_of c.deref.result.now) (Refused f)) (λ f. f ≢ NoMemory → IsTheVerdict c.args.bytes.now (Refused f))
    (λ f the some. with_trees c.args.bytes.now (trees_of c.deref.result.now) (Refused f) trees (the some)) c.judge.ensures.refused
