use Rattle.std.proofs.Common.{sym, ◌∙◌}
use Rattle.std.proofs.lemmas.Result.{err_from_is_err_and}
use Rattle.sg_text.specs.declared.symbols.Symbol.TheVariants as sign
use Rattle.sg_ast.specs.Levels.{choice_level}
use Rattle.sg_ast.specs.Readers.{is_sign, sees}
use Rattle.sg_ast.specs.ReadingNames.{another}
use Rattle.sg_ast.specs.ReadingExpressions.{expr_within}
use Rattle.sg_expressions.specs.ExprNests.{node_of, nodes_of}
use Rattle.sg_cursor.specs.Left.{left_of}
use Rattle.sg_cursor.proofs.Turns.{goes_on, fails, stops, ends}
use Rattle.sg_expressions.proofs.expr.Grammar.others.Goals as goal

pub returns-then-not-sees_sign : goal.returns-then-not-sees_sign
returns-then-not-sees_sign g c =
    stops (sees (is_sign sign.Comma)) (another (expr_within c.args.self.now.depth choice_level)) c.len-turn-end.result c.loop-turn._turn (nodes_of c.loop-turn.found) (left_of c.loop-turn.tokens) c.loop-turn-test.true (sym c.sees_sign.ensures ∙ c.if-not-sees_sign.true) c.loop-turn.invariant

pub returns-in_err-expr : goal.returns-in_err-expr
returns-in_err-expr g c =
    let p = err_from_is_err_and c.from_residual.result c.from_residual.ensures.1 in
    rw (p.1, p.2) (λ no. fails (sees (is_sign sign.Comma)) (another (expr_within c.args.self.now.depth choice_level)) c.len-turn-end.result c.loop-turn._turn (nodes_of c.loop-turn.found) (left_of c.loop-turn.tokens) c.loop-turn-test.true (sym c.sees_sign.ensures ∙ c.if-not-sees_sign.false) (c.in_err-expr.ensures no) c.loop-turn.invariant)

pub loop-turn-preserved : goal.loop-turn-preserved
loop-turn-preserved g c =
    rw c.in_ok-found.ensures
    (goes_on (sees (is_sign sign.Comma)) (another (expr_within c.args.self.now.depth choice_level)) c.len-turn-end.result c.loop-turn._turn (nodes_of c.loop-turn.found) (left_of c.loop-turn.tokens) _ (node_of c.in_ok-expr.expr) c.loop-turn-test.true (sym c.sees_sign.ensures ∙ c.if-not-sees_sign.false) c.in_ok-expr.ensures c.loop-turn.invariant)

pub returns : goal.returns
returns g c = ends (sees (is_sign sign.Comma)) (another (expr_within c.args.self.now.depth choice_level)) c.len-turn-end.result c.loop-turn._turn (nodes_of c.loop-turn.found) (left_of c.loop-turn.tokens) c.loop-turn-test.false c.loop-turn.invariant
