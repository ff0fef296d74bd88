use Rattle.sg_remote.proofs.Flags.{same_flags}
use Rattle.sg_remote.proofs.reach.are_same.Goals as goal

pub returns : goal.returns
returns c = same_flags c.args.a.now c.args.b.now c.eq.result c.eq.ensures
