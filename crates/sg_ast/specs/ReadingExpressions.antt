-- The reading of expressions.
use Rattle.std.specs.Prelude.{◌&&◌, ◌||◌, nat_le, not, ℕ, zero, suc, Bool, if◌then◌else◌, List, [], ◌∷◌, drop, Option, Some, None}
use Rattle.sg_text.specs.Lexemes.{Lexeme, Sign}
use Rattle.sg_text.specs.declared.symbols.Symbol.TheVariants.{Colon, DollarDollar, Equals, Less, Minus, Bang, Question, Comma, LeftParenthesis, RightParenthesis, LeftBracket, LeftBrace, RightBrace}
use Rattle.sg_text.specs.declared.words.Keyword.TheVariants as keyword
use Rattle.sg_kinds.specs.declared.fault.Position.{Position}
use Rattle.sg_ast.specs.declared.name.Name.{Name}
use Rattle.sg_ast.specs.declared.name.Remote as enclosing
use Rattle.sg_ast.specs.declared.expr.Infix.{Infix}
use Rattle.sg_ast.specs.declared.expr.Prefix.{Prefix}
use Rattle.sg_ast.specs.declared.expr.Prefix.TheVariants.{Minus as Negative, Not}
use Rattle.sg_ast.specs.Levels.{infix_of, level, choice_level, prefix_level, atom_level, right_by, next_by}
use Rattle.sg_ast.specs.Patterns.{Pattern}
use Rattle.sg_ast.specs.Expressions.{Expr, Amount, Chars, Truth, Variable, Attribute, Remote, MadeOf, Paren, Single, Binary, Choice, Call, Let, With}
use Rattle.sg_ast.specs.Chains.{exprs_chain, cases_chain}
use Rattle.sg_ast.specs.Grouped.{depth, max_depth}
use Rattle.sg_ast.specs.Spelling.{Mark}
use Rattle.sg_ast.specs.Readers.{Reader, ◌>>=◌, ◌>>◌, ◌<$>◌, done, refuse, is_sign, is_reserved, is_name, is_numeral, is_string, sees, expect, name, number, string, many}
use Rattle.sg_ast.specs.ReadingNames.{named_reference, own_reference, pair, refers, is_truth, truth, placeholder, completing, another, separated, arguments, pattern}

-- A reader of inner expressions, sub, takes the least level.

-- '(' expr ')'
unfoldable pub paren : (ℕ → Reader Expr) → Reader Expr
paren sub = do
  place ← expect (is_sign LeftParenthesis)
  e ← sub choice_level
  expect (is_sign RightParenthesis)
  done (Paren e place)

-- 'let' name '=' expr 'in' '(' expr ')'
unfoldable pub let_in : (ℕ → Reader Expr) → Reader Expr
let_in sub = do
  place ← expect (is_reserved keyword.Let)
  n ← name
  expect (is_sign Equals)
  a ← sub choice_level
  expect (is_reserved keyword.In)
  expect (is_sign LeftParenthesis)
  b ← sub choice_level
  expect (is_sign RightParenthesis)
  done (Let n a b place)

-- pattern ':' expr
unfoldable pub case : (ℕ → Reader Expr) → Reader (Pattern × Expr)
case sub = do
  q ← pattern
  expect (is_sign Colon)
  e ← sub choice_level
  done (q, e)

-- whether a further case stands next: a ',' without `default`
unfoldable pub sees_case : List Mark → Bool
sees_case ms = sees (is_sign Comma) ms && not (sees (is_reserved keyword.Default) (drop 1 ms))

-- [ ',' 'default' ':' expr ]
unfoldable pub default_case : (ℕ → Reader Expr) → Reader (Option Expr)
default_case sub = λ ms.
    if sees (is_sign Comma) ms then (do
      expect (is_sign Comma)
      expect (is_reserved keyword.Default)
      expect (is_sign Colon)
      e ← sub choice_level
      done (Some e)) ms
    else Some (None, ms)

-- 'with' '(' expr ')' '(' case { ',' case } [ ',' 'default' ':' expr ] ')'
unfoldable pub with_cases : (ℕ → Reader Expr) → Reader Expr
with_cases sub = do
  place ← expect (is_reserved keyword.With)
  expect (is_sign LeftParenthesis)
  a ← sub choice_level
  expect (is_sign RightParenthesis)
  expect (is_sign LeftParenthesis)
  first ← case sub
  found ← many sees_case (another (case sub)) []
  other ← default_case sub
  expect (is_sign RightParenthesis)
  done (With a first.0 first.1 (cases_chain found other) place)

-- a call, an attribute or a variable, after the name
unfoldable pub named_expr : (ℕ → Reader Expr) → Name → Reader Expr
named_expr sub n = λ ms.
    if sees (is_sign LeftParenthesis) ms
    then (expect (is_sign LeftParenthesis) >> (λ es. Call n (exprs_chain es)) <$> arguments (sub choice_level)) ms
    else (if refers ms then (Attribute <$> named_reference n) ms else Some (Variable n, ms))

-- '-' or '!' and what it stands before
unfoldable pub prefixed : (ℕ → Reader Expr) → Prefix → Reader Expr
prefixed sub Negative = expect (is_sign Minus) >>= (λ place. (λ e. Single Negative e place) <$> sub prefix_level)
prefixed sub Not = expect (is_sign Bang) >>= (λ place. (λ e. Single Not e place) <$> sub prefix_level)

-- '{' pair { ',' pair } '}'
unfoldable pub remote : Reader enclosing.Remote
remote = do
  place ← expect (is_sign LeftBrace)
  pairs ← separated pair
  expect (is_sign RightBrace)
  done (record { pairs = pairs; place = place })

-- an operand that begins with a symbol
unfoldable pub signed_expr : (ℕ → Reader Expr) → Reader Expr
signed_expr sub = λ ms.
    if sees (is_sign LeftParenthesis) ms then paren sub ms
    else (if sees (is_sign DollarDollar) ms then (Attribute <$> own_reference) ms
    else (if sees (is_sign LeftBrace) ms then (Remote <$> remote) ms
    else (if sees (is_sign Less) ms then placeholder MadeOf ms
    else (if sees (is_sign LeftBracket) ms then completing MadeOf ms
    else (if sees (is_sign Minus) ms then prefixed sub Negative ms
    else prefixed sub Not ms)))))

-- an operand that begins with a reserved word
unfoldable pub reserved_expr : (ℕ → Reader Expr) → Reader Expr
reserved_expr sub = λ ms.
    if sees (is_reserved keyword.Let) ms then let_in sub ms
    else (if sees (is_reserved keyword.With) ms then with_cases sub ms
    else ((λ (b : Bool × Position). Truth b.0 b.1) <$> truth) ms)

abbrev pub is_word : Lexeme → Bool
is_word l = is_truth l || is_reserved keyword.Let l || is_reserved keyword.With l

-- an atom, or a prefix operator and its operand
unfoldable pub operand : (ℕ → Reader Expr) → Reader Expr
operand sub = λ ms.
    if sees is_name ms then (name >>= named_expr sub) ms
    else (if sees is_numeral ms then ((λ (n : ℕ × Position). Amount n.0 n.1) <$> number) ms
    else (if sees is_string ms then (Chars <$> string) ms
    else (if sees is_word ms then reserved_expr sub ms
    else signed_expr sub ms)))

-- a tree that is not too deep
unfoldable pub shallow : ℕ → Expr → Reader Expr
shallow limit e = λ ms. if nat_le (depth e) limit then Some (e, ms) else None

-- the operator of a lexeme
abbrev pub infix_in : Lexeme → Option Infix
infix_in (Sign s) = infix_of s
infix_in _ = None

-- an operator whose level is in these bounds
abbrev pub between : ℕ → ℕ → Option Infix → Option Infix
between least most (Some s) = if nat_le least (level s) && nat_le (level s) most then Some s else None
between least most None = None

-- the operator that stands next, if its level is in these bounds
unfoldable pub next_infix : ℕ → ℕ → List Mark → Option Infix
next_infix least most [] = None
next_infix least most ((l, place) ∷ ms) = between least most (infix_in l)

-- an operand on the left goes on with an operator or ends
abbrev pub step_by : (ℕ → Reader Expr) → ℕ → (ℕ → Expr → Reader Expr) → Expr → Option Infix → Reader Expr
step_by sub limit again left None = done left
step_by sub limit again left (Some s) = λ ms.
    (do
      right ← sub (right_by (level s))
      whole ← shallow limit (Binary s left right)
      again (next_by (level s)) whole) (drop 1 ms)

-- what follows an operand on the left, where operators have at least and at most these levels
unfoldable pub climb : (ℕ → Reader Expr) → ℕ → ℕ → ℕ → ℕ → Expr → Reader Expr
climb sub limit zero least most left = refuse
climb sub limit (suc turns) least most left = λ ms.
    step_by sub limit (climb sub limit turns least) left (next_infix least most ms) ms

-- [ '?' expr ':' expr ], where the least level lets it be
unfoldable pub chosen : (ℕ → Reader Expr) → ℕ → ℕ → Expr → Reader Expr
chosen sub limit least a = λ ms.
    if nat_le least choice_level && sees (is_sign Question) ms then (do
      expect (is_sign Question)
      b ← sub choice_level
      expect (is_sign Colon)
      c ← sub choice_level
      shallow limit (Choice a b c)) ms
    else Some (a, ms)

-- an expression of at least this level, where sub reads those inside
unfoldable pub expr_by : (ℕ → Reader Expr) → ℕ → ℕ → Reader Expr
expr_by sub limit least = do
  first ← operand sub
  a ← climb sub limit limit least atom_level first
  chosen sub limit least a

-- an expression of at least this level and at most so many nodes in depth
unfoldable pub expr_within : ℕ → ℕ → Reader Expr
expr_within zero least = refuse
expr_within (suc d) least = expr_by (expr_within d) (suc d) least

abbrev pub expr : Reader Expr
expr = expr_within max_depth choice_level
