use Rattle.std.proofs.Common.{◌≡◌, ◌++◌, drop}
use Rattle.std.specs.Prelude.{flat_map}
use Rattle.sg_useless.specs.Uses.{symbol_uses}
use Rattle.sg_useless.proofs.uses.add_symbols.Given as goal

abbrev pub invariant-loop-symbol : goal.invariant-loop-symbol
invariant-loop-symbol l = l.uses.items ++ flat_map (symbol_uses) (drop l.symbol-index l.symbols) ≡ l.initial.uses.items ++ flat_map (symbol_uses) l.symbols
