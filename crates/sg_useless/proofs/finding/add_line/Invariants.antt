use Rattle.std.proofs.Common.{◌≡◌, ◌++◌, drop}
use Rattle.sg_useless.specs.Uses.{numbered}
use Rattle.sg_useless.specs.Useless.{literal_parts}
use Rattle.sg_useless.proofs.finding.add_line.Given as goal

abbrev pub invariant-loop-k : goal.invariant-loop-k
invariant-loop-k l = l.parts.items ++ numbered (literal_parts l.productions l.line) l.k (drop l.k l.literals) ≡ l.initial.parts.items ++ numbered (literal_parts l.productions l.line) 0 l.literals
