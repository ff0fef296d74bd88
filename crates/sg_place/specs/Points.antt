-- Points of a text: places with their lines and columns.
use Rattle.std.specs.Prelude.{◌≡◌, ◌≤◌, ◌+◌, length}
use Rattle.sg_kinds.specs.Values.{Bytes}
use Rattle.sg_text.specs.Lines.{line_at}
use Rattle.sg_place.specs.declared.points.Point.{Point}
use Rattle.sg_place.specs.Shown.{left_len}

-- a place of the text, its line, and how many bytes stand on this line before it
pub record IsPoint (bytes : Bytes) (p : Point) : Type 0 where
  pub within : p.at ≤ length bytes
  pub line : p.line ≡ line_at bytes p.at
  pub left : p.left ≡ left_len bytes p.at
  pub few : p.line ≤ p.at + 1
  pub short : p.left ≤ p.at
