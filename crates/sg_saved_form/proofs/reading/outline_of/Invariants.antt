use Rattle.sg_saved_form.proofs.ReadSoFar.{ReadTo}
use Rattle.sg_saved_form.proofs.reading.outline_of.Given as goal

abbrev pub invariant-loop-at : goal.invariant-loop-at
invariant-loop-at l = ReadTo l.bytes l.at l.reader
