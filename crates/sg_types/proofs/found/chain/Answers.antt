use Rattle.sg_kinds.specs.ExprView.{cases_of}
use Rattle.sg_types.specs.ExpressionsView.{case_of}
use Rattle.sg_types.proofs.CaseLemmas.{case_moves}
use Rattle.sg_types.proofs.found.chain.Goals as goal

pub loop-pattern-preserved : goal.loop-pattern-preserved
loop-pattern-preserved c =
    rw (c.in_ok-expr.ensures.ok, c.in_ok-new.ensures.ok, c.pattern.view_is)
    (case_moves case_of c.pop.new.self.items c.loop-pattern.cases.items (c.in-Some.pattern, c.in-Some.expr) (cases_of c.loop-pattern.chain) c.in-Some.ensures.items c.loop-pattern.invariant)
