use Rattle.std.proofs.Common.{◌≡◌, ℕ, length, true}
use Rattle.sg_kinds.specs.Lexemes.{Lexeme}
use Rattle.sg_patterns.specs.Flags.{flag_at}
use Rattle.sg_patterns.specs.Programs.{IsBarred, IsProgram}
use Rattle.sg_patterns.proofs.marks.barred_by.Given as goal

abbrev pub invariant-loop-byte : goal.invariant-loop-byte
invariant-loop-byte l = record {
  each : length l.barred.items ≡ l.byte;
  barred : (p : Lexeme) → IsProgram l.program p → (b : ℕ) → flag_at l.barred.items b ≡ true → IsBarred p b;
}
