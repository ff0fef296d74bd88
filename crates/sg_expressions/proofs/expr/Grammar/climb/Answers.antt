use Rattle.std.proofs.Common.{◌≡◌, ◌+◌, sym, ap, ◌∙◌}
use Rattle.std.proofs.lemmas.Result.{err_from_is_err_and}
use Rattle.sg_ast.specs.Levels.{level, next_by}
use Rattle.sg_ast.specs.ReadingExpressions.{expr_within}
use Rattle.sg_expressions.specs.ExprNests.{node_of}
use Rattle.sg_cursor.specs.Left.{left_of}
use Rattle.sg_expressions.proofs.Climbs.{stops, fails, goes_on, ends}
use Rattle.sg_expressions.proofs.expr.Grammar.climb.Goals as goal

pub returns-in_default : goal.returns-in_default
returns-in_default g c =
    stops (expr_within c.args.self.now.depth) (c.args.self.now.depth + 1) (c.args.self.now.depth + 1) c.loop-turn._turn c.args.least c.loop-turn.most
    (node_of c.loop-turn.left) (left_of c.loop-turn.tokens) c.loop-turn-test.true (sym c.next_infix.ensures ∙ c.in_default.is) c.loop-turn.invariant

pub returns-in_err-left : goal.returns-in_err-left
returns-in_err-left g c =
    let p = err_from_is_err_and c.from_residual.result c.from_residual.ensures.1 in
    rw (p.1, p.2) (λ no.
    fails (expr_within c.args.self.now.depth) (c.args.self.now.depth + 1) (c.args.self.now.depth + 1) c.loop-turn._turn c.args.least c.loop-turn.most
    (node_of c.loop-turn.left) (left_of c.loop-turn.tokens) c.in-Some.operator c.loop-turn-test.true (sym c.next_infix.ensures ∙ c.in-Some.is)
    (rw c.skip.ensures at (c.in_err-left.ensures no)) c.loop-turn.invariant)

pub loop-turn-preserved : goal.loop-turn-preserved
loop-turn-preserved g c =
    let most : c.next_by-most.result ≡ next_by (level c.in-Some.operator) = c.next_by-most.ensures ∙ ap next_by c.level-level.ensures.value in
    rw most
    (goes_on (expr_within c.args.self.now.depth) (c.args.self.now.depth + 1) (c.args.self.now.depth + 1) c.loop-turn._turn c.args.least c.loop-turn.most
    (node_of c.loop-turn.left) (left_of c.loop-turn.tokens) (left_of c.joined.new.tokens) c.in-Some.operator (node_of c.in_ok-left.left)
    c.loop-turn-test.true (sym c.next_infix.ensures ∙ c.in-Some.is)
    (rw c.skip.ensures at c.in_ok-left.ensures) c.loop-turn.invariant)

pub returns : goal.returns
returns g c = λ no.
    ends (expr_within c.args.self.now.depth) (c.args.self.now.depth + 1) (c.args.self.now.depth + 1) c.loop-turn._turn c.args.least c.loop-turn.most
    (node_of c.loop-turn.left) (left_of c.loop-turn.tokens) c.loop-turn-test.false c.loop-turn.invariant
