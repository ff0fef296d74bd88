use Rattle.std.proofs.Common.{take}
use Rattle.sg_prec.specs.LineTable.{TellsLines}
use Rattle.sg_prec.proofs.lines.first_lines.Given as goal

abbrev pub invariant-loop-place : goal.invariant-loop-place
invariant-loop-place l = TellsLines (take l.place l.lines) l.first
