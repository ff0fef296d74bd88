use Rattle.std.proofs.Common.{refl}
use Rattle.sg_patterns.proofs.Barring.{program-same}
use Rattle.sg_patterns.proofs.marks.with_barred.Goals as goal

pub returns : goal.returns
returns c p h = program-same c.args.program _ p h refl refl refl refl (c.in_ok-barred.ensures p h) h.ordered.rows
