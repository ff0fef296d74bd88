use Rattle.std.proofs.Common.{◌≡◌, map, drop}
use Rattle.sg_patterns.specs.Lexemes.{literals_in}
use Rattle.sg_patterns.proofs.lexemes.Literals.add_all.Given as goal

abbrev pub invariant-loop-symbol : goal.invariant-loop-symbol
invariant-loop-symbol l =
    (map (λ v. v.items) l.self.known.keys ≡ l.self.texts.items)
    × (literals_in l.initial.self.texts.items l.symbols ≡ literals_in l.self.texts.items (drop l.symbol-index l.symbols))
