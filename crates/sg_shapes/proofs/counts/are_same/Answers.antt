use Rattle.sg_shapes.proofs.Tables.{same_tables}
use Rattle.sg_shapes.proofs.counts.are_same.Goals as goal

pub returns : goal.returns
returns c = same_tables c.args.a.now c.args.b.now c.eq.result c.eq.ensures
