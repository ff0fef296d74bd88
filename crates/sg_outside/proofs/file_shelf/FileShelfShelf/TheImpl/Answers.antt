use Rattle.std.proofs.Common.{refl}
use Rattle.sg_outside.proofs.Untold.{on_ok, on_err}
use Rattle.sg_outside.proofs.file_shelf.FileShelfShelf.TheImpl.Goals as goal

pub keep-tells : goal.keep-tells
keep-tells g c = record {
  ok = on_ok c.result refl;
  err = on_err c.result refl;
  later = c.ensures.later;
  cause = c.ensures.cause;
  answered = λ _. refl;
  unanswered = λ _. refl;
}
