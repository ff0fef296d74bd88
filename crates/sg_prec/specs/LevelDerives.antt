-- What levels derive, by the spread grammar. A chain hands its values on.
use Rattle.std.specs.Prelude.{◌≡◌, ℕ, zero, suc, ◌+◌, List, [], ◌∷◌, ◌++◌, Contains}
use Rattle.sg_kinds.specs.Values.{Bytes, Value, Chars}
use Rattle.sg_kinds.specs.declared.spec.Spec.{Spec}
use Rattle.sg_kinds.specs.InputPieces.{InputPiece}
use Rattle.sg_kinds.specs.Outcome.{outcome_of}
use Rattle.sg_kinds.specs.declared.spec.Symbol.TheVariants as written
use Rattle.sg_prec.specs.Spread.{LevelSymbol, From, Spread, spread_of}
use Rattle.sg_prec.specs.declared.productions.LevelSymbol.TheVariants.{Quoted, Lexical, Level}
use Rattle.sg_prec.specs.declared.productions.From.TheVariants.{Written, Chain}

abbrev pub made_from : Spec → From → List Value → List Value
made_from spec (Written e) ws = outcome_of spec e ws ∷ []
made_from spec (Chain k) ws = ws

pub data LevelDerives (spec : Spec) : List LevelSymbol → List InputPiece → List Value → ℕ → Type 0 where
  nothing : LevelDerives spec [] [] [] zero
  literal : (s text : Bytes) (Xs : List LevelSymbol) (ts : List InputPiece) (vs : List Value) (n : ℕ)
      → LevelDerives spec Xs ts vs n
      → LevelDerives spec (Quoted s ∷ Xs) (record { terminal = written.Quoted s; text = text } ∷ ts) vs (suc n)
  lexeme : (l : ℕ) (text : Bytes) (Xs : List LevelSymbol) (ts : List InputPiece) (vs : List Value) (n : ℕ)
      → LevelDerives spec Xs ts vs n
      → LevelDerives spec (Lexical l ∷ Xs) (record { terminal = written.Lexical l; text = text } ∷ ts)
      (Chars text ∷ vs) (suc n)
  under : (x : Spread) (Xs : List LevelSymbol) (us ts all : List InputPiece) (ws vs : List Value) (m n k : ℕ)
      → Contains (spread_of spec.levels spec.productions) x
      → LevelDerives spec x.right us ws m → LevelDerives spec Xs ts vs n → all ≡ us ++ ts → k ≡ m + n
      → LevelDerives spec (Level x.left x.level ∷ Xs) all (made_from spec x.from ws ++ vs) (suc k)

-- level i of a nonterminal derives the pieces with this result
abbrev pub level_derives : Spec → ℕ → ℕ → List InputPiece → Value → Type 0
level_derives spec N i ts v = (n : ℕ) × LevelDerives spec (Level N i ∷ []) ts (v ∷ []) n
