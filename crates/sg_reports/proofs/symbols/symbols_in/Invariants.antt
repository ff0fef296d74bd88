use Rattle.std.proofs.Common.{◌≡◌, map, take}
use Rattle.sg_reports.specs.Symbols.{symbol_in}
use Rattle.sg_reports.proofs.symbols.symbols_in.Given as goal

abbrev pub invariant-loop-x : goal.invariant-loop-x
invariant-loop-x l = l.found.items ≡ map (symbol_in l.symbols) (take l.x-index l.numbers)
