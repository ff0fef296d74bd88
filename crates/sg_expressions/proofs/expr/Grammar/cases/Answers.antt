use Rattle.std.proofs.Common.{sym, ◌∙◌}
use Rattle.std.proofs.lemmas.Result.{err_from_is_err_and}
use Rattle.sg_ast.specs.ReadingNames.{another}
use Rattle.sg_ast.specs.ReadingExpressions.{case, sees_case, expr_within}
use Rattle.sg_ast.specs.View.{pattern_of}
use Rattle.sg_expressions.specs.ExprNests.{node_of, cases_in}
use Rattle.sg_cursor.specs.Left.{left_of}
use Rattle.sg_cursor.proofs.Turns.{goes_on, fails, stops, ends}
use Rattle.sg_expressions.proofs.expr.Grammar.cases.Goals as goal

pub returns-then-not-sees_case : goal.returns-then-not-sees_case
returns-then-not-sees_case g c =
    stops sees_case (another (case (expr_within c.args.self.now.depth))) c.len-turn-end.result c.loop-turn._turn (cases_in c.loop-turn.found) (left_of c.loop-turn.tokens) c.loop-turn-test.true (sym c.sees_case.ensures ∙ c.if-not-sees_case.true) c.loop-turn.invariant

pub returns-in_err-case : goal.returns-in_err-case
returns-in_err-case g c =
    let p = err_from_is_err_and c.from_residual.result c.from_residual.ensures.1 in
    rw (p.1, p.2) (λ no. fails sees_case (another (case (expr_within c.args.self.now.depth))) c.len-turn-end.result c.loop-turn._turn (cases_in c.loop-turn.found) (left_of c.loop-turn.tokens) c.loop-turn-test.true (sym c.sees_case.ensures ∙ c.if-not-sees_case.false) (c.in_err-case.ensures no) c.loop-turn.invariant)

pub loop-turn-preserved : goal.loop-turn-preserved
loop-turn-preserved g c =
    rw c.in_ok-found.ensures
    (goes_on sees_case (another (case (expr_within c.args.self.now.depth))) c.len-turn-end.result c.loop-turn._turn (cases_in c.loop-turn.found) (left_of c.loop-turn.tokens) _ (pattern_of c.in_ok-case.case.0, node_of c.in_ok-case.case.1) c.loop-turn-test.true (sym c.sees_case.ensures ∙ c.if-not-sees_case.false) c.in_ok-case.ensures c.loop-turn.invariant)

pub returns : goal.returns
returns g c = ends sees_case (another (case (expr_within c.args.self.now.depth))) c.len-turn-end.result c.loop-turn._turn (cases_in c.loop-turn.found) (left_of c.loop-turn.tokens) c.loop-turn-test.false c.loop-turn.invariant
