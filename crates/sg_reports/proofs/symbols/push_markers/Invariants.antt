use Rattle.std.proofs.Common.{◌≡◌, ◌++◌, map, take}
use Rattle.sg_reports.specs.Symbols.{marker_of}
use Rattle.sg_reports.proofs.symbols.push_markers.Given as goal

abbrev pub invariant-loop-entry : goal.invariant-loop-entry
invariant-loop-entry l = l.symbols.items ≡ l.initial.symbols.items ++ map (marker_of l.phyla) (take l.entry-index l.entries)
