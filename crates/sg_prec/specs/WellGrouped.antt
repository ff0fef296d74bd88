-- What nonterminals derive by well grouped derivations, with which results.
use Rattle.std.specs.Prelude.{◌≡◌, ℕ, zero, suc, ◌+◌, List, [], ◌∷◌, ◌++◌, Option, Some, None, Contains, IsTrue}
use Rattle.sg_kinds.specs.Values.{Bytes, Value, Chars}
use Rattle.sg_kinds.specs.declared.spec.Spec.{Spec}
use Rattle.sg_kinds.specs.declared.spec.Production.{Production}
use Rattle.sg_kinds.specs.declared.spec.Symbol.{Symbol}
use Rattle.sg_kinds.specs.InputPieces.{InputPiece}
use Rattle.sg_kinds.specs.Outcome.{outcome_of}
use Rattle.sg_kinds.specs.declared.spec.Symbol.TheVariants.{Quoted, Lexical, Nonterminal}
use Rattle.sg_prec.specs.Precedence.{is_grouped}

-- A string of symbols derives pieces of a text. The values are the texts of its lexemes and the results of its
-- nonterminals, from left to right. The tops are the productions that stand directly below its symbols, none below a
-- literal or lexeme. The number is that of the nodes: pieces and productions.
pub data Derives (spec : Spec)
    : List Symbol → List InputPiece → List Value → List (Option Production) → ℕ → Type 0 where
  nothing : Derives spec [] [] [] [] zero
  literal : (s text : Bytes) (Xs : List Symbol) (ts : List InputPiece) (vs : List Value)
      (bs : List (Option Production)) (n : ℕ) → Derives spec Xs ts vs bs n
      → Derives spec (Quoted s ∷ Xs) (record { terminal = Quoted s; text = text } ∷ ts) vs (None ∷ bs) (suc n)
  lexeme : (l : ℕ) (text : Bytes) (Xs : List Symbol) (ts : List InputPiece) (vs : List Value)
      (bs : List (Option Production)) (n : ℕ) → Derives spec Xs ts vs bs n
      → Derives spec (Lexical l ∷ Xs) (record { terminal = Lexical l; text = text } ∷ ts) (Chars text ∷ vs)
      (None ∷ bs) (suc n)
  under : (r : Production) (Xs : List Symbol) (us ts all : List InputPiece) (ws vs : List Value)
      (below bs : List (Option Production)) (m n k : ℕ)
      → Contains spec.productions r → IsTrue (is_grouped spec.levels r below)
      → Derives spec r.right us ws below m → Derives spec Xs ts vs bs n → all ≡ us ++ ts → k ≡ m + n
      → Derives spec (Nonterminal r.left ∷ Xs) all (outcome_of spec r.expr ws ∷ vs) (Some r ∷ bs) (suc k)

-- the nonterminal derives the pieces with this result
abbrev pub derives : Spec → ℕ → List InputPiece → Value → Type 0
derives spec N ts v = (bs : List (Option Production)) × (n : ℕ)
    × Derives spec (Nonterminal N ∷ []) ts (v ∷ []) bs n

-- a sentence of a nonterminal
abbrev pub IsSentence : Spec → ℕ → List InputPiece → Type 0
IsSentence spec N ts = (v : Value) × derives spec N ts v
