use Rattle.sg_tables.proofs.HeadLaws.{number_missing}
use Rattle.sg_tables.proofs.heads.Heads.number.Goals as goal

pub returns-in-None : goal.returns-in-None
returns-in-None c = number_missing c.self.inside.list.items c.args.self.now c.args.name.now c.as_slice.result.now c.self.inside.count c.self.inside.index c.self.invariant c.self.view_is c.as_slice.ensures c.in-None.ensures
