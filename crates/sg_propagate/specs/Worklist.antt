-- Changed slots and active nodes.
use Rattle.std.specs.Prelude.{ℕ, List}

-- the slots by node and number, and the nodes; the order of both lists says nothing
pub record Worklist : Type 0 where
  pub changed : List (ℕ × ℕ)
  pub active : List ℕ
