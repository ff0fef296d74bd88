use Rattle.std.proofs.Common.{take}
use Rattle.sg_patterns.specs.Programs.{ArePrograms}
use Rattle.sg_patterns.proofs.longest_match.programs_of.Given as goal

abbrev pub invariant-loop-lexeme : goal.invariant-loop-lexeme
invariant-loop-lexeme l = ArePrograms l.programs.items (take l.lexeme-index l.all)
