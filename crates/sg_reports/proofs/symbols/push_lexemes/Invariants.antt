use Rattle.std.proofs.Common.{◌≡◌, ◌++◌, drop}
use Rattle.sg_reports.specs.Symbols.{lexeme_symbols}
use Rattle.sg_reports.proofs.symbols.push_lexemes.Given as goal

abbrev pub invariant-loop-phylum : goal.invariant-loop-phylum
invariant-loop-phylum l = l.symbols.items ++ lexeme_symbols (drop l.phylum-index l.phyla) ≡ l.initial.symbols.items ++ lexeme_symbols l.phyla
