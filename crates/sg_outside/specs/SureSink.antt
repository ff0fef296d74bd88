-- A sink in memory that never fails
use Rattle.std.specs.Prelude.{ℕ, List}

pub record UnfailingSink : Type 0 where
  pub written : List ℕ
  -- how many puts there were
  pub puts : ℕ
