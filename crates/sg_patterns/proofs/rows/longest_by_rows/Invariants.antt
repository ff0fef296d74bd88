use Rattle.std.proofs.Common.{◌≡◌, ◌+◌, ◌<◌, length}
use Rattle.std.specs.Prelude.{nat_eq}
use Rattle.sg_kinds.specs.Lexemes.{Lexeme}
use Rattle.sg_patterns.specs.Programs.{IsProgram}
use Rattle.sg_patterns.specs.Rows.{flags_of}
use Rattle.sg_patterns.specs.Spent.{AreSpentIf, HasSize}
use Rattle.sg_patterns.proofs.LongestSoFar.{Matched}
use Rattle.sg_patterns.proofs.rows.longest_by_rows.Given as goal

abbrev pub invariant-loop-place : goal.invariant-loop-place
invariant-loop-place l = record {
  within : l.state < length l.program.rows.states.items;
  starts : nat_eq l.place l.at ≡ nat_eq l.state 0;
  sized : HasSize (length l.program.nodes.items) l.failures;
  matched : (p : Lexeme) (h : IsProgram l.program p) → Matched l.text h.tree (flags_of l.program.rows.states.items l.state) l.at l.place l.longest;
  spent : (p : Lexeme) (h : IsProgram l.program p) → AreSpentIf l.text h.tree (l.place + 1) l.place (flags_of l.program.rows.states.items l.state) l.failures;
}
