-- What a console in memory notes
use Rattle.sg_console.specs.declared.mem_console.Entry.{Entry}
use Rattle.sg_console.specs.declared.mem_console.Entry.TheVariants as entry
use Rattle.sg_console.specs.Console.{Event}
use Rattle.sg_console.specs.Console.Event.{Took, Passed, Ended, Put}

abbrev pub event_in : Entry → Event
event_in (entry.Took line) = Took line.items
event_in entry.Passed = Passed
event_in entry.Ended = Ended
event_in (entry.Put piece) = Put piece.items
