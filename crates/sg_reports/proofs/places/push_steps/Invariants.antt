use Rattle.std.proofs.Common.{◌≡◌, ◌++◌, map, take}
use Rattle.sg_prec.specs.Levels.{row_at}
use Rattle.sg_reports.specs.Places.{place_in}
use Rattle.sg_reports.proofs.places.push_steps.Given as goal

abbrev pub invariant-loop-level : goal.invariant-loop-level
invariant-loop-level l = l.places.items ≡ l.initial.places.items ++ map (place_in l.lines) (take l.level (row_at l.levels l.n))
