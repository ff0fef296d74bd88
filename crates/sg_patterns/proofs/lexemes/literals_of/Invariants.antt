use Rattle.std.proofs.Common.{◌≡◌, map, drop}
use Rattle.sg_patterns.specs.Lexemes.{literals_of, literals_over}
use Rattle.sg_patterns.proofs.lexemes.literals_of.Given as goal

abbrev pub invariant-loop-production : goal.invariant-loop-production
invariant-loop-production l =
    (map (λ v. v.items) l.found.known.keys ≡ l.found.texts.items)
    × (literals_of l.productions ≡ literals_over l.found.texts.items (drop l.production-index l.productions))
