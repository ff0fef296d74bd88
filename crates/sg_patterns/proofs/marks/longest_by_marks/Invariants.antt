use Rattle.std.proofs.Common.{◌+◌, length}
use Rattle.sg_kinds.specs.Lexemes.{Lexeme}
use Rattle.sg_patterns.specs.Programs.{IsProgram}
use Rattle.sg_patterns.specs.Spent.{AreSpentIf, HasSize}
use Rattle.sg_patterns.proofs.LongestSoFar.{Matched}
use Rattle.sg_patterns.proofs.marks.longest_by_marks.Given as goal

abbrev pub invariant-loop-place : goal.invariant-loop-place
invariant-loop-place l = record {
  sized : HasSize (length l.program.nodes.items) l.failures;
  matched : (p : Lexeme) (h : IsProgram l.program p) → Matched l.text h.tree l.finals l.at l.place l.longest;
  spent : (p : Lexeme) (h : IsProgram l.program p) → AreSpentIf l.text h.tree (l.place + 1) l.place l.finals l.failures;
}
