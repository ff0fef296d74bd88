-- What is left of a chain is no larger than the chain.
use Rattle.std.proofs.Common.{◌≤◌}
use Rattle.sg_ast.specs.declared.expr.Cases.{size-Cases}
use Rattle.sg_ast.specs.declared.expr.Exprs.{size-Exprs}
use Rattle.sg_ast.proofs.+ast.Given as goal

abbrev pub invariant-expr::Cases::drop-loop-self : goal.invariant-expr::Cases::drop-loop-self
invariant-expr::Cases::drop-loop-self l = size-Cases l.self ≤ size-Cases l.fn.self

abbrev pub invariant-expr::Exprs::drop-loop-self : goal.invariant-expr::Exprs::drop-loop-self
invariant-expr::Exprs::drop-loop-self l = size-Exprs l.self ≤ size-Exprs l.fn.self
