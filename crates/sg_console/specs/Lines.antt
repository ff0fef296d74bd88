-- How a line comes off a reader, byte by byte
use Rattle.std.specs.Prelude.{◌≡◌, ◌≢◌, ℕ, ◌≤◌, Bool, true, false, List, [], ◌∷◌, length, All, Option, Some, None, IfSome}
use Rattle.std.specs.Io.{StopsAt}
use Rattle.std.specs.Io.KnownBytes.{Consumes, IsAtEnd}
use Rattle.std.specs.Io.BufRead.{take_through, DropsThrough}

-- the next byte of what a reader has left, or that there is none
abbrev pub IsNext : Option (List ℕ) → Option (List ℕ) → Option ℕ → Type 0
IsNext old new None = Consumes old new [] × IsAtEnd new
IsNext old new (Some byte) = Consumes old new (byte ∷ [])

-- the line is whole, or has all the bytes that it may have and no newline
abbrev pub IsFilled : ℕ → Option (List ℕ) → Option (List ℕ) → List ℕ → Bool → Type 0
IsFilled most old new line true =
    (length line ≤ most) × StopsAt line 10 × IfSome old (λ xs. line ≡ take_through 10 xs) × DropsThrough old new 10
IsFilled most old new line false = (length line ≡ most) × All (λ b. b ≢ 10) line × Consumes old new line
