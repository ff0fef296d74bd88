use Rattle.std.proofs.Common.{◌≡◌, ◌≤◌, ◌+◌, ◌*◌}
use Rattle.sg_ast.specs.View.{exprs_of, cases_of}
use Rattle.sg_ast.specs.declared.expr.Expr.{size-Expr}
use Rattle.sg_ast.specs.declared.expr.Exprs.{size-Exprs}
use Rattle.sg_ast.specs.declared.expr.Cases.{size-Cases}
use Rattle.sg_uses.specs.Noted.{noted}
use Rattle.sg_uses.specs.SiteView.{site_of}
use Rattle.sg_names.specs.Uses as uses
use Rattle.sg_uses.proofs.walk.+exprs.Given as goal

-- a case goes to its body, which is no smaller
abbrev pub decreases-case : goal.decreases-case
decreases-case l = 2 * size-Expr l.body.now + 1

abbrev pub decreases-cases : goal.decreases-cases
decreases-cases l = 2 * goal.size-cases l

abbrev pub decreases-expr : goal.decreases-expr
decreases-expr l = 2 * goal.size-expr l

abbrev pub decreases-exprs : goal.decreases-exprs
decreases-exprs l = 2 * goal.size-exprs l

abbrev pub invariant-cases-loop-left : goal.invariant-cases-loop-left
invariant-cases-loop-left l = record {
  scope : l.scope ≡ l.fn.scope;
  found : noted l.context.names.now l.found (uses.cases_uses (site_of l.context.site) l.scope (cases_of l.left)) ≡ noted l.fn.context.names.now l.fn.found (uses.cases_uses (site_of l.fn.context.site) l.fn.scope (cases_of l.fn.cases));
  same : l.context ≡ l.fn.context;
  small : size-Cases l.left ≤ size-Cases l.fn.cases;
}

abbrev pub invariant-exprs-loop-left : goal.invariant-exprs-loop-left
invariant-exprs-loop-left l = record {
  scope : l.scope ≡ l.fn.scope;
  found : noted l.context.names.now l.found (uses.exprs_uses (site_of l.context.site) l.scope (exprs_of l.left)) ≡ noted l.fn.context.names.now l.fn.found (uses.exprs_uses (site_of l.fn.context.site) l.fn.scope (exprs_of l.fn.exprs));
  small : size-Exprs l.left ≤ size-Exprs l.fn.exprs;
}
