-- What a session finds and leaves outside itself: the shelf, the console and the journal
use Rattle.std.specs.Prelude.{◌≡◌, ◌<◌, ℕ, List, [], ◌∷◌, ◌++◌, length, Option, Some, IfSome}
use Rattle.std.specs.Option.{option_map}
use Rattle.std.specs.Io.BufRead.{take_through, drop_through}
use Rattle.sg_outside.specs.Shelf.{ShelfState}
use Rattle.sg_console.specs.Console.{ConsoleState, Event}
use Rattle.sg_console.specs.Console.Event.{Took, Passed, Ended, Put}

-- what is known of the shelf and of the console, and how many entries the journal has in all
pub record Outside : Type 0 where
  pub shelf : ShelfState
  pub console : ConsoleState
  pub counted : ℕ

abbrev pub outside : ShelfState → ConsoleState → ℕ → Outside
outside shelf console counted = record { shelf = shelf; console = console; counted = counted }

-- a history after some events more, where it is told
abbrev pub all_noted : List Event → Option (List Event) → Option (List Event)
all_noted events = option_map (λ h. h ++ events)

-- a line may have so many bytes with its newline
abbrev pub most_bytes : ℕ
most_bytes = 1048576

-- what was read in these events came off the front of an input, line by line, and this is left of it; at the end nothing
-- was left
abbrev pub AreRead : List ℕ → List Event → List ℕ → Type 0
AreRead input [] left = left ≡ input
AreRead input (Took line ∷ events) left = (line ≡ take_through 10 input) × AreRead (drop_through 10 input) events left
AreRead input (Passed ∷ events) left =
    (most_bytes < length (take_through 10 input)) × AreRead (drop_through 10 input) events left
AreRead input (Ended ∷ events) left = (input ≡ []) × AreRead input events left
AreRead input (Put piece ∷ events) left = AreRead input events left

-- what was read of an input in these events, and what is left of it then, where that is told
abbrev pub IsRead : Option (List ℕ) → List Event → Option (List ℕ) → Type 0
IsRead old events new = IfSome old (λ input. (left : List ℕ) × AreRead input events left × (new ≡ Some left))

abbrev pub WasRead : Option (List ℕ) → List Event → Type 0
WasRead old events = IfSome old (λ input. (left : List ℕ) × AreRead input events left)
