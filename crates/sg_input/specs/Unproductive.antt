-- The first nonterminal without a sentence.
use Rattle.std.specs.Prelude.{◌≡◌, ℕ, ◌<◌, List}
use Rattle.sg_kinds.specs.InputPieces.{InputPiece}
use Rattle.sg_kinds.specs.declared.spec.Spec.{Spec}
use Rattle.sg_prec.specs.WellGrouped.{IsSentence}
use Rattle.sg_grammar.specs.Numbered.{nonterminal_count, level_number}

abbrev pub HasSentence : Spec → ℕ → Type 0
HasSentence spec N = (ps : List InputPiece) × IsSentence spec N ps

-- the number is that of the first nonterminal without a sentence
pub record IsFirstWithoutSentence (spec : Spec) (X : ℕ) : Type 0 where
  pub nonterminal : ℕ
  pub named : nonterminal < nonterminal_count spec
  pub number : X ≡ level_number spec nonterminal 0
  pub none : HasSentence spec nonterminal → ⊥
  pub before : (N : ℕ) → N < nonterminal → HasSentence spec N
