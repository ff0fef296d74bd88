use Rattle.std.proofs.Common.{◌≡◌, ◌++◌, take}
use Rattle.sg_faults.specs.FaultLine.{spaced, symbol_word}
use Rattle.sg_faults.proofs.grammar.write_symbols.Given as goal

abbrev pub invariant-loop-symbol : goal.invariant-loop-symbol
invariant-loop-symbol l = l.out.items ≡ l.initial.out.items ++ spaced symbol_word (take l.symbol-index l.symbols)
