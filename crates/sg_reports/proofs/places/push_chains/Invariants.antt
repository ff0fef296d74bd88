use Rattle.std.proofs.Common.{◌≡◌, ◌++◌, map, flat_map}
use Rattle.sg_kinds.specs.Instances.{below}
use Rattle.sg_prec.specs.Levels.{lines_of}
use Rattle.sg_reports.specs.Places.{place_in}
use Rattle.sg_reports.proofs.places.push_chains.Given as goal

abbrev pub invariant-loop-n : goal.invariant-loop-n
invariant-loop-n l =
    l.places.items ≡ l.initial.places.items ++ map (place_in l.lines) (flat_map (lines_of l.fn.spec.levels l.fn.spec.productions) (below l.n))
