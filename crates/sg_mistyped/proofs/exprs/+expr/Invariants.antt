use Rattle.std.proofs.Common.{◌≡◌, ◌≤◌, ◌+◌, ◌*◌, ◌++◌, max}
use Rattle.sg_ast.specs.View.{cases_of}
use Rattle.sg_ast.specs.declared.expr.Expr.{size-Expr}
use Rattle.sg_ast.specs.declared.expr.Exprs.{size-Exprs}
use Rattle.sg_ast.specs.declared.expr.Cases.{size-Cases}
use Rattle.sg_types.specs.OwnersView.{owner_of}
use Rattle.sg_mistyped.specs.Mistyped.{of_cases}
use Rattle.sg_mistyped.proofs.exprs.+expr.Given as goal

abbrev pub decreases-expr : goal.decreases-expr
decreases-expr l = 4 * size-Expr l.e.now

abbrev pub decreases-where_wanted : goal.decreases-where_wanted
decreases-where_wanted l = 4 * size-Expr l.e.now + 1

abbrev pub decreases-binary : goal.decreases-binary
decreases-binary l = 4 * max (size-Expr l.left.now) (size-Expr l.right.now) + 3

abbrev pub decreases-equal : goal.decreases-equal
decreases-equal l = 4 * max (size-Expr l.left.now) (size-Expr l.right.now) + 2

abbrev pub decreases-cons : goal.decreases-cons
decreases-cons l = 4 * max (size-Expr l.left.now) (size-Expr l.right.now) + 2

abbrev pub decreases-choice : goal.decreases-choice
decreases-choice l = 4 * max (size-Expr l.condition.now) (max (size-Expr l.first.now) (size-Expr l.second.now)) + 2

abbrev pub decreases-call : goal.decreases-call
decreases-call l = 4 * size-Exprs l.args.now + 3

abbrev pub decreases-all : goal.decreases-all
decreases-all l = 4 * size-Exprs l.args.now + 1

abbrev pub decreases-arguments : goal.decreases-arguments
decreases-arguments l = 4 * size-Exprs l.args.now + 2

abbrev pub decreases-only : goal.decreases-only
decreases-only l = 4 * size-Exprs l.args.now + 1

abbrev pub decreases-bind : goal.decreases-bind
decreases-bind l = 4 * max (size-Expr l.bound.now) (size-Expr l.body.now) + 1

abbrev pub decreases-with : goal.decreases-with
decreases-with l = 4 * max (size-Expr l.subject.now) (max (size-Expr l.body.now) (size-Cases l.rest.now)) + 3

abbrev pub decreases-case : goal.decreases-case
decreases-case l = 4 * size-Expr l.body.now + 2

abbrev pub decreases-cases : goal.decreases-cases
decreases-cases l = 4 * size-Cases l.cases.now + 2

-- what was found in the cases so far, with what is left, is that of all
abbrev pub invariant-cases-loop-rest : goal.invariant-cases-loop-rest
invariant-cases-loop-rest l = record {
  same : l.scope ≡ l.initial.scope;
  smaller : size-Cases l.rest ≤ size-Cases l.fn.cases;
  found : l.found.items ++ of_cases l.walk.names.now (owner_of l.walk.owner) l.initial.scope l.subject l.wanted (cases_of l.rest)
      ≡ l.initial.found.items ++ of_cases l.walk.names.now (owner_of l.walk.owner) l.initial.scope l.subject l.wanted (cases_of l.fn.cases);
}
