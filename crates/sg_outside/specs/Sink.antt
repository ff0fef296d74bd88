-- What a sink of bytes is
use Rattle.std.specs.Prelude.{◌≡◌, ℕ, ◌≤◌, List, ◌++◌, length, take, Option}
use Rattle.std.specs.Option.{option_map}

-- what is known of a sink: its bytes, its count of failures, and how many puts there were
pub record SinkState : Type 0 where
  pub written : Option (List ℕ)
  pub faults : ℕ
  pub puts : Option ℕ

-- what was written after one piece more, where it is told
abbrev pub appended : Option (List ℕ) → List ℕ → Option (List ℕ)
appended written piece = option_map (λ w. w ++ piece) written

-- a front of the piece was appended, which may be empty or whole
abbrev pub CutShort : Option (List ℕ) → Option (List ℕ) → List ℕ → Type 0
CutShort old new piece = (m : ℕ) × (m ≤ length piece) × (new ≡ appended old (take m piece))
