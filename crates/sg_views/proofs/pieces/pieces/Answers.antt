use Rattle.std.proofs.Common.{false, refl}
use Rattle.sg_views.specs.declared.pieces.Last.TheVariants.{Nothing}
use Rattle.sg_views.proofs.PiecesMade.{begins}
use Rattle.sg_views.proofs.pieces.pieces.Goals as goal

pub loop-byte-init : goal.loop-byte-init
loop-byte-init c = begins (record { pieces = c.new.result; last = Nothing; percent = false }) c.args.bytes.now c.new.ensures.items refl refl
