-- How the texts of a language are read.
use Rattle.std.specs.Prelude.{◌≡◌}
use Rattle.sg_kinds.specs.declared.spec.Spec.{Spec}
use Rattle.sg_patterns.specs.LexemesOf.{AreLexemesOf}
use Rattle.sg_grammar.specs.Numbered.{grammar_of}
use Rattle.sg_commands.specs.declared.input.Input.{Input}

-- the tables and the lexemes are those of the specification
pub record IsInputOf (spec : Spec) (input : Input) : Type 0 where
  pub grammar : input.tables.now.grammar ≡ grammar_of spec
  pub lexemes : AreLexemesOf spec input.lexemes.now
