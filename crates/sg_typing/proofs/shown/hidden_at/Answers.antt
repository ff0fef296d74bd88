use Rattle.sg_typing.proofs.shown.hidden_at.Goals as goal

pub returns-in-Schemes : goal.returns-in-Schemes
returns-in-Schemes c = rw c.in-Schemes.is (rw (c.as_slice.ensures, c.operator.ensures) at c.hidden_in_schemes.ensures)
