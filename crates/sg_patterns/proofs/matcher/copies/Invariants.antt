use Rattle.std.proofs.Common.{◌≡◌, take}
use Rattle.sg_patterns.proofs.matcher.copies.Given as goal

abbrev pub invariant-loop-lexeme : goal.invariant-loop-lexeme
invariant-loop-lexeme l = l.copies.items ≡ take l.lexeme-index l.all
