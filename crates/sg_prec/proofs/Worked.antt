-- Grouping on a worked example.
use Rattle.std.specs.Prelude.{◌≡◌, refl, ℕ, false, true, pos, List, [], ◌∷◌, Some, None}
use Rattle.std.proofs.Common.{arith}
use Rattle.sg_kinds.specs.Values.{Value, Number, Chars, Tree, row_of}
use Rattle.sg_kinds.specs.InputPieces.{InputPiece}
use Rattle.sg_kinds.specs.Outcome.{outcome_of}
use Rattle.sg_kinds.specs.declared.marks.Group.{Group}
use Rattle.sg_kinds.specs.declared.marks.Group.TheVariants.{Left, Right, NonAssoc}
use Rattle.sg_kinds.specs.declared.spec.LevelLine.{LevelLine}
use Rattle.sg_kinds.specs.declared.spec.Production.{Production}
use Rattle.sg_kinds.specs.declared.spec.Spec.{Spec}
use Rattle.sg_kinds.specs.declared.spec.Symbol.TheVariants.{Quoted, Lexical, Nonterminal}
use Rattle.sg_kinds.proofs.Languages.{sums, production}
use Rattle.sg_prec.specs.Precedence.{is_grouped}
use Rattle.sg_prec.specs.Spread.{LevelSymbol, From, Spread, spread_of}
use Rattle.sg_prec.specs.declared.productions.LevelSymbol.TheVariants as level
use Rattle.sg_prec.specs.declared.productions.LevelSymbol.TheVariants.{Level}
use Rattle.sg_prec.specs.declared.productions.From.TheVariants.{Written, Chain}
use Rattle.sg_prec.specs.WellGrouped.{Derives, nothing, literal, lexeme, under}

-- E ::= (E '+' E) Sum | (NUM) Const
abbrev sum : Production
sum = production 0 (Nonterminal 0 ∷ Quoted (43 ∷ []) ∷ Nonterminal 0 ∷ []) 4

abbrev const : Production
const = production 0 (Lexical 5 ∷ []) 5

abbrev line : Group → List LevelLine
line group = record { group = group; literals = (43 ∷ []) ∷ [] } ∷ []

-- with the line: left '+'
abbrev left_sums : Spec
left_sums = record sums { productions = sum ∷ const ∷ []; levels = line Left }

token : ℕ → InputPiece
token d = record { terminal = Lexical 5; text = d ∷ [] }

plus : InputPiece
plus = record { terminal = Quoted (43 ∷ []); text = 43 ∷ [] }

constant : ℕ → Value
constant n = Tree 3 (row_of (Number (pos n) ∷ []))

sum_of : Value → Value → Value
sum_of v w = Tree 2 (row_of (v ∷ w ∷ []))

as_E : (d : ℕ) → Derives left_sums (Nonterminal 0 ∷ []) (token d ∷ []) (outcome_of left_sums 5 (Chars (d ∷ []) ∷ []) ∷ []) (Some const ∷ []) 2
unfolding token
as_E d = under const [] (token d ∷ []) [] _ (Chars (d ∷ []) ∷ []) [] (None ∷ []) [] 1 0 1 (1, omega arith, refl) refl
    (lexeme 5 (d ∷ []) [] [] [] [] 0 nothing) nothing refl refl

-- 1 + 2
two : Derives left_sums (Nonterminal 0 ∷ []) (token 49 ∷ plus ∷ token 50 ∷ []) (sum_of (constant 1) (constant 2) ∷ []) (Some sum ∷ []) 6
unfolding token plus constant sum_of outcome_of
two = under sum [] (token 49 ∷ plus ∷ token 50 ∷ []) [] _ (constant 1 ∷ constant 2 ∷ []) [] (Some const ∷ None ∷ Some const ∷ []) [] 5 0 5 (0, omega arith, refl) refl
    (under const (Quoted (43 ∷ []) ∷ Nonterminal 0 ∷ []) (token 49 ∷ []) (plus ∷ token 50 ∷ []) _ (Chars (49 ∷ []) ∷ []) (constant 2 ∷ []) (None ∷ []) (None ∷ Some const ∷ []) 1 3 4 (1, omega arith, refl) refl
    (lexeme 5 (49 ∷ []) [] [] [] [] 0 nothing)
    (literal (43 ∷ []) (43 ∷ []) (Nonterminal 0 ∷ []) (token 50 ∷ []) (constant 2 ∷ []) (Some const ∷ []) 2 (as_E 50)) refl refl)
    nothing refl refl

-- 1 + 2 + 3 has the sum 1 + 2 on the left
three : Derives left_sums (Nonterminal 0 ∷ []) (token 49 ∷ plus ∷ token 50 ∷ plus ∷ token 51 ∷ []) (sum_of (sum_of (constant 1) (constant 2)) (constant 3) ∷ []) (Some sum ∷ []) 10
unfolding token plus constant sum_of outcome_of
three = under sum [] (token 49 ∷ plus ∷ token 50 ∷ plus ∷ token 51 ∷ []) [] _ (sum_of (constant 1) (constant 2) ∷ constant 3 ∷ []) [] (Some sum ∷ None ∷ Some const ∷ []) [] 9 0 9 (0, omega arith, refl) refl
    (under sum (Quoted (43 ∷ []) ∷ Nonterminal 0 ∷ []) (token 49 ∷ plus ∷ token 50 ∷ []) (plus ∷ token 51 ∷ []) _ (constant 1 ∷ constant 2 ∷ []) (constant 3 ∷ []) (Some const ∷ None ∷ Some const ∷ []) (None ∷ Some const ∷ []) 5 3 8 (0, omega arith, refl) refl
    (under const (Quoted (43 ∷ []) ∷ Nonterminal 0 ∷ []) (token 49 ∷ []) (plus ∷ token 50 ∷ []) _ (Chars (49 ∷ []) ∷ []) (constant 2 ∷ []) (None ∷ []) (None ∷ Some const ∷ []) 1 3 4 (1, omega arith, refl) refl
    (lexeme 5 (49 ∷ []) [] [] [] [] 0 nothing)
    (literal (43 ∷ []) (43 ∷ []) (Nonterminal 0 ∷ []) (token 50 ∷ []) (constant 2 ∷ []) (Some const ∷ []) 2 (as_E 50)) refl refl)
    (literal (43 ∷ []) (43 ∷ []) (Nonterminal 0 ∷ []) (token 51 ∷ []) (constant 3 ∷ []) (Some const ∷ []) 2 (as_E 51)) refl refl)
    nothing refl refl

-- and not the sum 2 + 3 on the right, as it has with the line: right '+'; with nonassoc '+' it has neither
not_right : is_grouped (line Left) sum (Some const ∷ None ∷ Some sum ∷ []) ≡ false
not_right = refl

right_right : is_grouped (line Right) sum (Some const ∷ None ∷ Some sum ∷ []) ≡ true
right_right = refl

right_left : is_grouped (line Right) sum (Some sum ∷ None ∷ Some const ∷ []) ≡ false
right_left = refl

neither_left : is_grouped (line NonAssoc) sum (Some sum ∷ None ∷ Some const ∷ []) ≡ false
neither_left = refl

neither_right : is_grouped (line NonAssoc) sum (Some const ∷ None ∷ Some sum ∷ []) ≡ false
neither_right = refl

-- left '+'; right '^'; nonassoc '<'; over
-- E ::= (E '+' E) | (E '^' E) | (E '<' E) | ('-' E) | (NUM) | ('(' E ')'); F ::= (E)
abbrev three_lines : List LevelLine
three_lines = record { group = Left; literals = (43 ∷ []) ∷ [] } ∷ record { group = Right; literals = (94 ∷ []) ∷ [] } ∷ record { group = NonAssoc; literals = (60 ∷ []) ∷ [] } ∷ []

abbrev with_byte : ℕ → ℕ → Production
with_byte byte expr = production 0 (Nonterminal 0 ∷ Quoted (byte ∷ []) ∷ Nonterminal 0 ∷ []) expr

abbrev written : List Production
written = with_byte 43 0 ∷ with_byte 94 1 ∷ with_byte 60 2 ∷ production 0 (Quoted (45 ∷ []) ∷ Nonterminal 0 ∷ []) 3 ∷ production 0 (Lexical 5 ∷ []) 4
    ∷ production 0 (Quoted (40 ∷ []) ∷ Nonterminal 0 ∷ Quoted (41 ∷ []) ∷ []) 5 ∷ production 1 (Nonterminal 0 ∷ []) 6 ∷ []

abbrev rule_at : ℕ → ℕ → List LevelSymbol → From → Spread
rule_at N i right from = record { left = N; level = i; right = right; from = from }

-- E/1 ::= E/1 '+' E/2; E/2 ::= E/3 '^' E/2; E/3 ::= E/4 '<' E/4; E/4 ::= '-' E/4; E/4 ::= NUM; E/4 ::= '(' E/1 ')';
-- F ::= E/1; E/1 ::= E/2; E/2 ::= E/3; E/3 ::= E/4
spread_written : spread_of three_lines written
    ≡ rule_at 0 0 (Level 0 0 ∷ level.Quoted (43 ∷ []) ∷ Level 0 1 ∷ []) (Written 0)
    ∷ rule_at 0 1 (Level 0 2 ∷ level.Quoted (94 ∷ []) ∷ Level 0 1 ∷ []) (Written 1)
    ∷ rule_at 0 2 (Level 0 3 ∷ level.Quoted (60 ∷ []) ∷ Level 0 3 ∷ []) (Written 2)
    ∷ rule_at 0 3 (level.Quoted (45 ∷ []) ∷ Level 0 3 ∷ []) (Written 3)
    ∷ rule_at 0 3 (level.Lexical 5 ∷ []) (Written 4)
    ∷ rule_at 0 3 (level.Quoted (40 ∷ []) ∷ Level 0 0 ∷ level.Quoted (41 ∷ []) ∷ []) (Written 5)
    ∷ rule_at 1 0 (Level 0 0 ∷ []) (Written 6)
    ∷ rule_at 0 0 (Level 0 1 ∷ []) (Chain 0) ∷ rule_at 0 1 (Level 0 2 ∷ []) (Chain 1) ∷ rule_at 0 2 (Level 0 3 ∷ []) (Chain 2) ∷ []
unfolding spread_of
spread_written = refl
