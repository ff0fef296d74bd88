use Rattle.std.proofs.Common.{◌≡◌, ◌++◌, List, length, take, map}
use Rattle.sg_kinds.specs.Lexemes.{Lexeme}
use Rattle.sg_patterns.specs.LongestMatch.{Terminal, Pattern, IsAnswer}
use Rattle.sg_patterns.specs.Programs.{ArePrograms}
use Rattle.sg_patterns.specs.Spent.{HaveFailures}
use Rattle.sg_patterns.proofs.longest_match.longest_among.Given as goal

abbrev pub invariant-loop-k : goal.invariant-loop-k
invariant-loop-k l = record {
  known : HaveFailures l.programs l.text l.failures;
  longest : (ts : List Terminal) (ps : List Lexeme) → length ts ≡ l.number → ArePrograms l.programs ps → IsAnswer ts l.text l.at l.fn.before → IsAnswer (ts ++ map Pattern (take l.k ps)) l.text l.at l.best;
}
