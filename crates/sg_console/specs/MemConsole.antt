-- A console in memory whose calls fail at given numbers
use Rattle.std.specs.Prelude.{ℕ, List, [], Contains}
use Rattle.std.specs.List.{flat_map}
use Rattle.sg_outside.specs.Count.{raised}
use Rattle.sg_console.specs.Console.{Event}
use Rattle.sg_console.specs.Console.Event.{Put}

-- its calls are numbered from 1
pub record NumberedConsole : Type 0 where
  -- what was read and written
  pub history : List Event
  -- what is still to be read
  pub left : List ℕ
  -- the numbers of the calls that fail
  pub fails : List ℕ
  -- how many calls there were
  pub calls : ℕ
  -- how many of them failed
  pub faults : ℕ

-- the number of the next call is listed
abbrev pub IsDue : NumberedConsole → Type 0
IsDue console = Contains console.fails (raised console.calls)

-- the pieces that were written, one after another
abbrev pub piece_of : Event → List ℕ
piece_of (Put piece) = piece
piece_of event = []

abbrev pub written_in : List Event → List ℕ
written_in = flat_map piece_of
