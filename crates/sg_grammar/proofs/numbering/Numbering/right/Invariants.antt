use Rattle.std.proofs.Common.{◌≡◌, ◌++◌, drop, map}
use Rattle.sg_prec.specs.Sources.{at_levels}
use Rattle.sg_grammar.specs.Numbered.{spread_number}
use Rattle.sg_grammar.proofs.numbering.Numbering.right.Given as goal

abbrev pub invariant-loop-symbol : goal.invariant-loop-symbol
invariant-loop-symbol l =
    let number = spread_number l.self.spec.now in
    l.right.items ++ map number (at_levels l.level l.rest (drop l.symbol-index l.symbols)) ≡ map number (at_levels l.first l.rest l.symbols)
