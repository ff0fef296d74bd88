use Rattle.std.proofs.Common.{◌≡◌, drop}
use Rattle.sg_patterns.specs.Lexemes.{blank_of}
use Rattle.sg_patterns.proofs.lexemes.blank_of.Given as goal

abbrev pub invariant-loop-phylum : goal.invariant-loop-phylum
invariant-loop-phylum l = blank_of l.phyla ≡ blank_of (drop l.phylum-index l.phyla)
