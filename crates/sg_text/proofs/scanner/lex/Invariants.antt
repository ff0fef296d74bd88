use Rattle.std.proofs.Common.{length, ◌-◌}
use Rattle.sg_text.proofs.TokenLemmas.{ScannedTo}
use Rattle.sg_text.proofs.scanner.lex.Given as goal

abbrev pub invariant-loop-at : goal.invariant-loop-at
invariant-loop-at l = ScannedTo l.bytes l.tokens.items l.at l.line

abbrev pub decreases-loop-at : goal.decreases-loop-at
decreases-loop-at l = length l.bytes - l.at
