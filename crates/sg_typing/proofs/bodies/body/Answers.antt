use Rattle.sg_typing.proofs.bodies.body.Goals as goal

pub returns-in-Equations-clause-mismatch : goal.returns-in-Equations-clause-mismatch
returns-in-Equations-clause-mismatch c = rw c.in-Equations.is (rw (c.deref.ensures.value, c.operator-op.ensures) at c.equations.ensures.mismatch)

pub returns-in-Equations-clause-exprs : goal.returns-in-Equations-clause-exprs
returns-in-Equations-clause-exprs c = rw c.in-Equations.is (rw (c.deref.ensures.value, c.operator-op.ensures) at c.equations.ensures.exprs)
