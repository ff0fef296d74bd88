use Rattle.std.proofs.Common.{◌≡◌, List, ℕ, Some, None, cond, bytes_eq, take}
use Rattle.std.specs.List.{list_any}
use Rattle.std.specs.Option.{option_or}
use Rattle.sg_prec.specs.LineTable.{line_in}
use Rattle.sg_prec.proofs.lines.put_all.Given as goal

abbrev pub invariant-loop-literal : goal.invariant-loop-literal
invariant-loop-literal l = (s : List ℕ) → line_in l.first s ≡ option_or (line_in l.fn.first s) (cond (list_any (bytes_eq s) (take l.literal-index l.literals)) (Some l.line) None)
