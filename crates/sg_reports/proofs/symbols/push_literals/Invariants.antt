use Rattle.std.proofs.Common.{◌≡◌, ◌++◌, map, take}
use Rattle.sg_kinds.specs.declared.fault.PrintedSymbol.TheVariants.{Literal}
use Rattle.sg_reports.proofs.symbols.push_literals.Given as goal

abbrev pub invariant-loop-literal : goal.invariant-loop-literal
invariant-loop-literal l = l.symbols.items ≡ l.initial.symbols.items ++ map Literal (take l.literal-index l.literals)
