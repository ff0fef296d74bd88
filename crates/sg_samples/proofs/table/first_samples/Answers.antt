use Rattle.std.proofs.Common.{◌≡◌, min, length, subst, arith}
use Rattle.sg_samples.proofs.Known.{AreFirst, first_known}
use Rattle.sg_samples.proofs.table.first_samples.Goals as goal

pub returns : goal.returns
returns c =
    let count : length c.loop-x.samples.items ≡ c.args.g.now.symbols = omega arith in
    let bound : min c.loop-x.x c.args.g.now.terminals ≡ c.args.g.now.terminals = omega arith in
    first_known c.args.g.now c.loop-x.samples.items count (subst (AreFirst c.loop-x.samples.items) bound c.loop-x.invariant.1)
