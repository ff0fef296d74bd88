-- What a contract sees of a `History`.
use Rattle.std.specs.Prelude.{◌≡◌, ℕ, List, ◌∷◌}

-- the past steps, newest first, the future steps, the next one first, and how many steps are kept
pub record Timeline (S : Type 0) : Type 0 where
  pub past : List S
  pub future : List S
  pub room : ℕ

module _ {S : Type 0} where
  abbrev pub timeline : List S → List S → ℕ → Timeline S
  timeline past future room = record { past = past; future = future; room = room }

  -- one step goes from the front of a list to the front of another
  pub record Moves (from from' to to' : List S) : Type 0 where
    pub step : S
    pub left : from ≡ step ∷ from'
    pub put : to' ≡ step ∷ to
