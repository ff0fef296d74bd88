-- Lines, which end at the byte 10 alone.
use Rattle.std.specs.Prelude.{ℕ, ◌+◌, ◌==◌, List, take, count_by}
use Rattle.sg_text.specs.Bytes.{newline}

-- the line of a place, from 1
abbrev pub line_at : List ℕ → ℕ → ℕ
line_at bytes place = 1 + count_by (λ b. b == newline) (take place bytes)
