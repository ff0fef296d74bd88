use Rattle.sg_patterns.proofs.Forms.{ReadTo}
use Rattle.sg_patterns.proofs.reading.read.Given as goal

abbrev pub invariant-loop-at : goal.invariant-loop-at
invariant-loop-at l = ReadTo l.bytes l.at l.reader
