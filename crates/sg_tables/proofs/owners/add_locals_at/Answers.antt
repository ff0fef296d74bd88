use Rattle.sg_tables.proofs.owners.add_locals_at.Goals as goal

pub returns-in-Equations : goal.returns-in-Equations
returns-in-Equations c = rw (c.in-Equations.is, ← c.as_slice-locals.ensures) c.add_locals_of.ensures
