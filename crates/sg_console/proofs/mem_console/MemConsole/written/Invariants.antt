use Rattle.std.proofs.Common.{◌≡◌, map, take}
use Rattle.sg_console.specs.MemConsole.{written_in}
use Rattle.sg_console.specs.Entry.{event_in}
use Rattle.sg_console.proofs.mem_console.MemConsole.written.Given as goal

-- the pieces of the entries so far
abbrev pub invariant-loop-entry : goal.invariant-loop-entry
invariant-loop-entry l = l.all.items ≡ written_in (map event_in (take l.entry-index l.entry-items))
