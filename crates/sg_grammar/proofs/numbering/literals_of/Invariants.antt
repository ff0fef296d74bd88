use Rattle.std.proofs.Common.{◌≡◌, map, drop}
use Rattle.sg_patterns.specs.Lexemes.{literals_of, literals_over}
use Rattle.sg_grammar.proofs.numbering.literals_of.Given as goal

abbrev pub invariant-loop-production : goal.invariant-loop-production
invariant-loop-production l =
    literals_of l.productions ≡ literals_over (map (λ v. v.items) l.literals.keys) (drop l.production-index l.productions)
