use Rattle.std.proofs.Common.{refl}
use Rattle.sg_outside.proofs.Untold.{on_ok, CutShort-none}
use Rattle.sg_outside.proofs.out_sink.OutSinkSink.TheImpl.Goals as goal

pub put-tells : goal.put-tells
put-tells g c = record {
  ok = on_ok c.result refl;
  failed = λ _. CutShort-none c.args.piece.now;
  memory = λ _. refl;
  later = c.ensures.later;
  cause = c.ensures.cause;
  counted = refl;
}
