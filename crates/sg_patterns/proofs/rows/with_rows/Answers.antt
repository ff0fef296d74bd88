use Rattle.std.proofs.Common.{refl}
use Rattle.sg_patterns.proofs.Barring.{program-same}
use Rattle.sg_patterns.proofs.rows.with_rows.Goals as goal

pub returns : goal.returns
returns c p h = program-same c.args.program _ p h refl refl refl refl h.barred c.in_ok-rows.ensures
