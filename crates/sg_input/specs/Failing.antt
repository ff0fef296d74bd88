-- Where the pieces of a text fail to be a sentence of a nonterminal.
use Rattle.std.specs.Prelude.{◌≡◌, ℕ, suc, ◌<◌, ◌≤◌, List, ◌++◌, length, take}
use Rattle.sg_kinds.specs.InputPieces.{InputPiece}
use Rattle.sg_prec.specs.WellGrouped.{IsSentence}
use Rattle.sg_kinds.specs.declared.spec.Spec.{Spec}

-- the nonterminal derives the pieces and some behind them
abbrev pub BeginsSentence : Spec → ℕ → List InputPiece → Type 0
BeginsSentence spec N ps = (zs : List InputPiece) × IsSentence spec N (ps ++ zs)

-- the first k pieces begin a sentence; one more do not, or there is none more and they are no sentence
pub record FailsAt (spec : Spec) (N : ℕ) (ps : List InputPiece) (k : ℕ) : Type 0 where
  pub within : k ≤ length ps
  pub begins : BeginsSentence spec N (take k ps)
  pub before : k < length ps → BeginsSentence spec N (take (suc k) ps) → ⊥
  pub at_end : k ≡ length ps → IsSentence spec N ps → ⊥
