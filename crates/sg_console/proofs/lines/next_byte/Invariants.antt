use Rattle.std.specs.Io.KnownBytes.{Keeps}
use Rattle.sg_console.proofs.lines.next_byte.Given as goal

-- reads that were interrupted took nothing
abbrev pub invariant-loop : goal.invariant-loop
invariant-loop g l = Keeps (g.R.Read.remaining l.initial.reader) (g.R.Read.remaining l.reader)
