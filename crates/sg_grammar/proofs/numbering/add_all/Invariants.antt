use Rattle.std.proofs.Common.{◌≡◌, map, drop}
use Rattle.sg_patterns.specs.Lexemes.{literals_in}
use Rattle.sg_grammar.proofs.numbering.add_all.Given as goal

abbrev pub invariant-loop-symbol : goal.invariant-loop-symbol
invariant-loop-symbol l =
    literals_in (map (λ v. v.items) l.initial.literals.keys) l.symbols ≡ literals_in (map (λ v. v.items) l.literals.keys) (drop l.symbol-index l.symbols)
