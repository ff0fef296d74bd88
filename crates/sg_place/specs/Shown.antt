-- A place of a text as it is shown: its line and column, and below the bytes of the line with a caret.
use Rattle.std.specs.Prelude.{ℕ, ◌+◌, ◌-◌, ◌==◌, ◌&&◌, not, nat_le, nat_lt, min, if◌then◌else◌, [], ◌∷◌, ◌++◌, length, map, take, drop, reverse, replicate, Option, Some, None, codes}
use Rattle.std.specs.List.{prefix_len}
use Rattle.std.specs.Fmt.{decimal}
use Rattle.sg_text.specs.Bytes.{newline}
use Rattle.sg_text.specs.Lines.{line_at}
use Rattle.sg_kinds.specs.Values.{Bytes}

-- how many of these bytes stand before the first newline
abbrev pub line_len : Bytes → ℕ
line_len bs = prefix_len (λ b. not (b == newline)) bs

-- how many bytes stand on the line of a place before it, and from it on
abbrev pub left_len : Bytes → ℕ → ℕ
left_len bytes at = line_len (reverse (take at bytes))

abbrev pub right_len : Bytes → ℕ → ℕ
right_len bytes at = line_len (drop at bytes)

-- the column of a place, in bytes from 1
abbrev pub column_at : Bytes → ℕ → ℕ
column_at bytes at = 1 + left_len bytes at

-- the file, and line and column of the place in it, if there is one
abbrev pub where_text : Bytes → Bytes → Option ℕ → Bytes
where_text file bytes None = file
where_text file bytes (Some at) =
    file ++ (58 ∷ (decimal (line_at bytes at) ++ 58 ∷ decimal (column_at bytes at)))

-- a byte as it is shown: one that is no sign of ASCII is a blank
abbrev pub shown_byte : ℕ → ℕ
shown_byte b = if nat_le 32 b && nat_le b 126 then b else 32

-- two dots where so many bytes are over 60
abbrev pub dots : ℕ → Bytes
dots n = if nat_lt 60 n then codes ".." else []

-- the line before the place, at most its last 60 bytes; from it on, at most the first 60
abbrev pub left_shown : Bytes → ℕ → Bytes
left_shown bytes at = let n = left_len bytes at in dots n ++ map shown_byte (drop (at - min n 60) (take at bytes))

abbrev pub right_shown : Bytes → ℕ → Bytes
right_shown bytes at = let n = right_len bytes at in map shown_byte (take (min n 60) (drop at bytes)) ++ dots n

abbrev pub blanks : ℕ → Bytes
blanks n = replicate n 32

-- a number with blanks before it, in five columns or more
abbrev pub margin : ℕ → Bytes
margin n = blanks (5 - length (decimal n)) ++ decimal n

-- behind a margin the two parts of a line; behind one of so many columns, and as many as are given, a caret
abbrev pub line_text : Bytes → Bytes → Bytes → Bytes
line_text number left right = number ++ (codes " | " ++ (left ++ (right ++ 10 ∷ [])))

abbrev pub caret_text : ℕ → ℕ → Bytes
caret_text number columns = blanks number ++ (codes " | " ++ (blanks columns ++ (codes "^" ++ 10 ∷ [])))

-- the line of the place with a caret below it
abbrev pub shown_at : Bytes → ℕ → Bytes
shown_at bytes at =
    let number = margin (line_at bytes at) in
    let left = left_shown bytes at in
    line_text number left (right_shown bytes at) ++ caret_text (length number) (length left)

abbrev pub shown : Bytes → Option ℕ → Bytes
shown bytes None = []
shown bytes (Some at) = shown_at bytes at
