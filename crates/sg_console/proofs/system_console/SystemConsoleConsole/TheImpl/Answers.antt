use Rattle.std.proofs.Common.{refl, Result, Ok, Err, IfOk}
use Rattle.sg_outside.proofs.Untold.{on_ok, on_err}
use Rattle.sg_console.proofs.system_console.SystemConsoleConsole.TheImpl.Goals as goal

-- what holds of each value, holds at `Ok`
if_ok : {T E : Type 0} {P : T → Type 0} (r : Result T E) → ((x : T) → P x) → IfOk r P
if_ok (Ok x) p = p x
if_ok (Err e) p = tt

pub take_line-tells : goal.take_line-tells
take_line-tells g c = record {
  taken = c.ensures.taken;
  ok = if_ok c.result (λ _. refl);
  err = on_err c.result refl;
  capacity = c.ensures.capacity;
  later = c.ensures.later;
  cause = c.ensures.cause;
}

pub put-tells : goal.put-tells
put-tells g c = record {
  ok = on_ok c.result refl;
  err = on_err c.result refl;
  left = refl;
  later = c.ensures.later;
  cause = c.ensures.cause;
}
