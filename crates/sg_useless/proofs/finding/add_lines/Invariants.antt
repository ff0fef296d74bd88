use Rattle.std.proofs.Common.{◌≡◌, ◌++◌, drop}
use Rattle.sg_useless.specs.Uses.{numbered}
use Rattle.sg_useless.specs.Useless.{line_parts}
use Rattle.sg_useless.proofs.finding.add_lines.Given as goal

abbrev pub invariant-loop-line : goal.invariant-loop-line
invariant-loop-line l = l.parts.items ++ numbered (line_parts l.spec.productions) l.line (drop l.line l.spec.levels) ≡ l.initial.parts.items ++ numbered (line_parts l.spec.productions) 0 l.spec.levels
