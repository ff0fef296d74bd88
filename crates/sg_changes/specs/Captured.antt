-- What a contract sees of a capture.
use Rattle.std.specs.Prelude.{ℕ, ◌+◌, ◌-◌, ◌++◌, length, take, drop}
use Rattle.sg_kinds.specs.Values.{Bytes}

-- a text, and how many of its bytes stand before the point
pub record Captured : Type 0 where
  pub text : Bytes
  pub point : ℕ

abbrev pub captured : Bytes → ℕ → Captured
captured text point = record { text = text; point = point }

-- with bytes put at the point, and the point past them
abbrev pub put_in : Captured → Bytes → Captured
put_in c bytes = captured (take c.point c.text ++ bytes ++ drop c.point c.text) (c.point + length bytes)

-- without the byte before the point
abbrev pub taken_out : Captured → Captured
taken_out c = captured (take (c.point - 1) c.text ++ drop c.point c.text) (c.point - 1)
