use Rattle.sg_mistyped.proofs.bodies.declaration.Goals as goal

pub returns-in-Equations : goal.returns-in-Equations
returns-in-Equations c = rw c.in-Equations.is (rw (c.deref.ensures.value, c.operator.ensures) at c.equations.ensures)
