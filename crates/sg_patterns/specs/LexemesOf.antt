-- The literals and the lexeme phyla that are those of a specification.
use Rattle.std.specs.Prelude.{◌≡◌, suc, length}
use Rattle.sg_kinds.specs.declared.spec.Spec.{Spec}
use Rattle.sg_patterns.specs.declared.lexemes.Lexemes.{Lexemes}
use Rattle.sg_patterns.specs.Lexemes.{literals_of, blank_of}

-- the literals and the lexeme phyla of a record, behind the end and the markers of the entries
pub record AreLexemesOf (spec : Spec) (lexemes : Lexemes) : Type 0 where
  pub first : lexemes.first ≡ suc (length spec.entries)
  pub literals : lexemes.literals ≡ literals_of spec.productions
  pub patterns : lexemes.patterns ≡ spec.lexemes
  pub blank : lexemes.blank ≡ blank_of spec.phyla
