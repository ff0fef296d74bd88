use Rattle.std.proofs.Common.{drop, get_or}
use Rattle.sg_patterns.proofs.Trying.{Tried}
use Rattle.sg_patterns.proofs.lexemes.Lexemes.literal_at.Given as goal

abbrev pub invariant-loop-number : goal.invariant-loop-number
invariant-loop-number l = Tried l.text l.at (get_or l.text l.at 0) l.self.literals (drop l.number-index l.row) l.best
