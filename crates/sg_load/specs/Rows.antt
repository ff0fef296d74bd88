-- The first fault of a row, where what has the fault is no computed test.
use Rattle.std.specs.Prelude.{◌≡◌, ℕ, ◌<◌, List, Some, slice_get}

-- x is the first element of which P holds
pub record IsFirst {X : Type 0} (P : X → Type 0) (xs : List X) (x : X) : Type 0 where
  pub place : ℕ
  pub there : slice_get xs place ≡ Some x
  pub holds : P x
  pub before : (k : ℕ) (y : X) → k < place → slice_get xs k ≡ Some y → P y → ⊥

-- P holds of none
abbrev pub HasNone : {X : Type 0} → (X → Type 0) → List X → Type 0
HasNone {X} P xs = (k : ℕ) (x : X) → slice_get xs k ≡ Some x → P x → ⊥
