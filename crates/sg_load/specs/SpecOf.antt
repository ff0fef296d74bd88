-- The record of declarations.
use Rattle.std.specs.Prelude.{◌≡◌, ◌++◌, List, length}
use Rattle.sg_kinds.specs.Lexemes.{Lexeme}
use Rattle.sg_kinds.specs.declared.spec.Rule.{Rule}
use Rattle.sg_kinds.specs.declared.spec.Spec.{Spec}
use Rattle.sg_ast.specs.Declarations.{Decl}
use Rattle.sg_typing.specs.Bodies.{exprs_in}
use Rattle.sg_equations.specs.RulesOf.{rules_in}
use Rattle.sg_record.specs.Record.{record_of}
use Rattle.sg_remote.specs.Handing.{handing}
use Rattle.sg_remote.specs.Longer.{names_of}
use Rattle.sg_load.specs.Patterns.{AreLexemes}

-- the equations of declarations, and behind them those that hand far attributes down
abbrev pub equations_of : List Decl → List Rule
equations_of ds = rules_in (names_of ds) (exprs_in (names_of ds) ds) 0 ds
    ++ handing (names_of ds) (length (exprs_in (names_of ds) ds))

-- their record with these patterns of the lexeme phyla
abbrev pub spec_with : List Decl → List Lexeme → Spec
spec_with ds lexemes = record_of (names_of ds) ds (equations_of ds) lexemes

-- their record, in which each lexeme phylum has the pattern of its text
pub record IsSpecOf (ds : List Decl) (spec : Spec) : Type 0 where
  pub lexemes : List Lexeme
  pub patterns : AreLexemes ds lexemes
  pub made : spec ≡ spec_with ds lexemes
