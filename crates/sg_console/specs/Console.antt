-- What a console is
use Rattle.std.specs.Prelude.{◌≡◌, ℕ, ◌≤◌, ◌<◌, List, [], ◌∷◌, ◌++◌, length, Option, IfSome}
use Rattle.std.specs.Option.{option_map}
use Rattle.std.specs.Io.{StopsAt}
use Rattle.std.specs.Io.BufRead.{take_through, DropsThrough}
use Rattle.sg_console.specs.declared.console.Taken.{Taken}
use Rattle.sg_console.specs.declared.console.Taken.TheVariants.{Line, Long, End}

-- what happens at a console: a line is read, with its newline if it has one; a line that is too long is passed over; the
-- input is found at its end; a piece is written, whole
pub data Event : Type 0 where
  Took : List ℕ → Event
  Passed : Event
  Ended : Event
  Put : List ℕ → Event

pub record ConsoleState : Type 0 where
  -- what was read and written, in order, where the console tells it
  pub history : Option (List Event)
  -- what is still to be read, where the console tells it
  pub left : Option (List ℕ)
  -- how often a call failed, which stays at 2^64 - 1
  pub faults : ℕ

-- a history after one event more, where it is told
abbrev pub noted : Event → Option (List Event) → Option (List Event)
noted e = option_map (λ h. h ++ e ∷ [])

-- the line that was given of what was left, where that is told: all up to the first newline and with it, or to the end
abbrev pub IsLine : ℕ → Option (List ℕ) → List ℕ → Taken → Type 0
IsLine most left line Line =
    (1 ≤ length line) × (length line ≤ most) × StopsAt line 10 × IfSome left (λ xs. line ≡ take_through 10 xs)
IsLine most left line Long = (line ≡ []) × IfSome left (λ xs. most < length (take_through 10 xs))
IsLine most left line End = (line ≡ []) × IfSome left (λ xs. xs ≡ [])

-- a line was asked for: what was given, and what is left then, which is all behind the first newline
pub record IsTaken (most : ℕ) (old new : Option (List ℕ)) (line : List ℕ) (taken : Taken) : Type 0 where
  pub given : IsLine most old line taken
  pub rest : DropsThrough old new 10

abbrev pub event_of : List ℕ → Taken → Event
event_of line Line = Took line
event_of line Long = Passed
event_of line End = Ended
