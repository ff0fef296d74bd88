use Rattle.std.proofs.Common.{arith}
use Rattle.sg_lalr.proofs.PlaceLemmas.{move-only}
use Rattle.sg_lalr.proofs.places.place_of_move.Goals as goal

pub returns : goal.returns
returns c = move-only c.args.row.now c.args.x c.halves.low c.halves.high c.requires (omega arith) c.halves.invariant
