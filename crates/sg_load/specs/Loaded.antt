-- What is kept of a specification that was accepted.
use Rattle.std.specs.Prelude.{◌≡◌, refl}
use Rattle.std.specs.Coded.{Coded, code_by, coded×}
use Rattle.sg_kinds.specs.Sound.{IsSound}
use Rattle.sg_kinds.specs.Specification.{rules_of}
use Rattle.sg_kinds.specs.ValidPlans.{AreValid}
use Rattle.sg_kinds.specs.declared.plans.Plans.{Plans}
use Rattle.sg_kinds.specs.declared.spec.Spec.{Spec}
use Rattle.sg_grammar.specs.Numbered.{grammar_of}
use Rattle.sg_lalr.specs.Tables.{View}
use Rattle.sg_patterns.specs.declared.lexemes.Lexemes.{Lexemes}
use Rattle.sg_patterns.specs.LexemesOf.{AreLexemesOf}

-- a record with plans, tables and lexemes
pub record Contents : Type 0 where
  pub spec : Spec
  pub plans : Plans
  pub tables : View
  pub lexemes : Lexemes

abbrev pub contents : Spec → Plans → View → Lexemes → Contents
contents spec plans tables lexemes = record { spec = spec; plans = plans; tables = tables; lexemes = lexemes }

-- the four as pairs
abbrev pub contents_code : Coded Spec → Coded Plans → Coded View → Coded Lexemes → Coded Contents
contents_code a b c d =
    code_by ((Spec × Plans) × (View × Lexemes)) (coded× (coded× a b) (coded× c d))
    (λ l. ((l.spec, l.plans), (l.tables, l.lexemes))) (λ p. contents p.0.0 p.0.1 p.1.0 p.1.1) (λ _. refl)

-- the record is sound, and the rest is of this record
pub record BelongTogether (l : Contents) : Type 0 where
  pub sound : IsSound l.spec
  pub plans : AreValid (rules_of l.spec) l.plans
  pub tables : l.tables.grammar ≡ grammar_of l.spec
  pub lexemes : AreLexemesOf l.spec l.lexemes
