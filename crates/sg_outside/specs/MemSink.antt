-- A sink in memory whose puts fail at given numbers
use Rattle.std.specs.Prelude.{ℕ, List, Option, find, ◌==◌}
use Rattle.std.specs.Option.{option_map}

-- its puts are numbered from 1
pub record NumberedSink : Type 0 where
  pub written : List ℕ
  -- the numbers of the puts that fail, each with how many bytes of its piece are written
  pub fails : List (ℕ × ℕ)
  -- how many puts there were
  pub puts : ℕ
  -- how many of them failed
  pub faults : ℕ

-- after how many bytes the put of that number fails, by the first pair that names it
abbrev pub cut_of : List (ℕ × ℕ) → ℕ → Option ℕ
cut_of fails number = option_map (λ p. p.1) (find (λ p. p.0 == number) fails)
