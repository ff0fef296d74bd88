use Rattle.std.proofs.Common.{◌≡◌, ◌≤◌, ◌+◌, ◌++◌, length}
use Rattle.std.specs.Str.Lines.{lines}
use Rattle.sg_script.specs.Script.{commands_in, bad_line}
use Rattle.sg_script.proofs.script.read_lines.Given as goal

-- what is left decides
abbrev pub invariant-loop-first : goal.invariant-loop-first
invariant-loop-first l = record {
  commands : l.commands.items ++ commands_in (lines l.rest) ≡ commands_in (lines l.bytes);
  bad : bad_line l.number (lines l.rest) ≡ bad_line 1 (lines l.bytes);
  number : l.number + length l.rest ≤ length l.bytes + 1;
}

abbrev pub decreases-loop-first : goal.decreases-loop-first
decreases-loop-first l = length l.rest
