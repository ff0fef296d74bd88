use Rattle.std.proofs.Common.{◌≡◌, ◌++◌}
use Rattle.sg_place.specs.Shown.{blanks}
use Rattle.sg_place.proofs.shown.write_blanks.Given as goal

abbrev pub invariant-loop-column : goal.invariant-loop-column
invariant-loop-column l = l.out.items ≡ l.initial.out.items ++ blanks l._column
