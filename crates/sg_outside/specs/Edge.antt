-- A shelf or a sink of the system
use Rattle.std.specs.Prelude.{ℕ}

pub record SystemEdge : Type 0 where
  -- how many of its calls failed
  pub faults : ℕ
