use Rattle.std.proofs.Common.{◌≡◌, ◌++◌, map}
use Rattle.sg_kinds.specs.Instances.{below}
use Rattle.sg_kinds.specs.declared.fault.PrintedSymbol.TheVariants.{Name}
use Rattle.sg_reports.specs.Symbols.{level_name}
use Rattle.sg_reports.proofs.symbols.push_levels.Given as goal

abbrev pub invariant-loop-level : goal.invariant-loop-level
invariant-loop-level l =
    l.symbols.items ≡ l.initial.symbols.items ++ map (λ i. Name (level_name l.told l.name l.last i)) (below l.level)
