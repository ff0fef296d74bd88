use Rattle.sg_expressions.proofs.expr.+expr_within.Given as goal

abbrev pub decreases-expr_within : goal.decreases-expr_within
decreases-expr_within l = l.depth
