-- What a shelf or a sink that tells nothing keeps
use Rattle.std.proofs.Common.{ℕ, ◌≤◌, List, length, refl, None, Result, Ok, Err, OnOk, OnErr, arith}
use Rattle.sg_outside.specs.Sink.{CutShort}

-- what always holds, holds at `Ok`
pub on_ok : {T E P : Type 0} (r : Result T E) → P → OnOk r P
on_ok (Ok x) p = p
on_ok (Err e) p = tt

-- what always holds, holds at `Err`
pub on_err : {T E P : Type 0} (r : Result T E) → P → OnErr r P
on_err (Ok x) p = tt
on_err (Err e) p = p

pub CutShort-none : (piece : List ℕ) → CutShort None None piece
CutShort-none piece =
    let none : 0 ≤ length piece = omega arith in
    (0, none, refl)
