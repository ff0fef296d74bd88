-- The reading of names, lists and patterns.
use Rattle.std.specs.Prelude.{◌||◌, ℕ, zero, suc, Bool, true, false, if◌then◌else◌, List, [], ◌∷◌, Option, Some, None}
use Rattle.sg_text.specs.Lexemes.{Lexeme}
use Rattle.sg_text.specs.declared.symbols.Symbol.TheVariants.{Dot, DollarDollar, Dollar, Less, Greater, Minus, Star, Comma, LeftParenthesis, RightParenthesis, LeftBracket, RightBracket}
use Rattle.sg_text.specs.declared.words.Keyword.TheVariants as keyword
use Rattle.sg_kinds.specs.declared.fault.Position.{Position}
use Rattle.sg_kinds.specs.declared.marks.Made.{Made}
use Rattle.sg_kinds.specs.declared.marks.Made.TheVariants.{Completing, Placeholder}
use Rattle.sg_ast.specs.declared.name.Name.{Name}
use Rattle.sg_ast.specs.declared.name.Occurrence.TheVariants.{Own, Named}
use Rattle.sg_ast.specs.declared.name.Reference.{Reference}
use Rattle.sg_ast.specs.declared.name.Pair.{Pair}
use Rattle.sg_ast.specs.declared.decl.Target.{Target}
use Rattle.sg_ast.specs.declared.decl.Target.TheVariants as target
use Rattle.sg_ast.specs.Patterns.{Pattern}
use Rattle.sg_ast.specs.Patterns as p
use Rattle.sg_ast.specs.Chains.{chain_of}
use Rattle.sg_ast.specs.Grouped.{max_depth}
use Rattle.sg_ast.specs.Spelling.{Mark}
use Rattle.sg_ast.specs.Readers.{Reader, ◌>>=◌, ◌>>◌, ◌<$>◌, done, refuse, is_sign, is_reserved, is_name, is_numeral, is_string, sees, eat, expect, name, number, string, many}

-- ---- references

-- [ '$' number ]
unfoldable pub occurrence_number : Reader (Option ℕ)
occurrence_number = do
  is_numbered ← eat (is_sign Dollar)
  if is_numbered then (λ (n : ℕ × Position). Some n.0) <$> number else done None

-- [ '$' number ] '.' name, after the name
unfoldable pub named_reference : Name → Reader Reference
named_reference n = do
  k ← occurrence_number
  expect (is_sign Dot)
  a ← name
  done (record { of = Named n k; attr = a })

-- '$$' '.' name
unfoldable pub own_reference : Reader Reference
own_reference = do
  place ← expect (is_sign DollarDollar)
  expect (is_sign Dot)
  a ← name
  done (record { of = Own place; attr = a })

-- name '.' name
unfoldable pub pair : Reader Pair
pair = do
  p ← name
  expect (is_sign Dot)
  a ← name
  done (record { phylum = p; attr = a })

-- whether a name goes on as an occurrence
abbrev pub refers : List Mark → Bool
refers ms = sees (is_sign Dollar) ms || sees (is_sign Dot) ms

-- an attribute or a local that begins with a name, after it
unfoldable pub named_target : Name → Reader Target
named_target n = λ ms. if refers ms then (target.Attribute <$> named_reference n) ms else Some (target.Local n, ms)

-- ( '$$' | name [ '$' number ] ) '.' name | name
unfoldable pub target_of : Reader Target
target_of = λ ms.
    if sees (is_sign DollarDollar) ms then (target.Attribute <$> own_reference) ms else (name >>= named_target) ms

-- ---- what expressions and patterns have in common

abbrev pub is_truth : Lexeme → Bool
is_truth l = is_reserved keyword.True l || is_reserved keyword.False l

-- 'true' | 'false'
unfoldable pub truth : Reader (Bool × Position)
truth = λ ms.
    if sees (is_reserved keyword.True) ms then ((λ (place : Position). (true, place)) <$> expect
    (is_reserved keyword.True)) ms
    else ((λ (place : Position). (false, place)) <$> expect (is_reserved keyword.False)) ms

-- '<' name '>' or '[' name ']', made by f
unfoldable pub placeholder : {A : Type 0} → (Made → Name → Position → A) → Reader A
placeholder f = do
  place ← expect (is_sign Less)
  n ← name
  expect (is_sign Greater)
  done (f Placeholder n place)

unfoldable pub completing : {A : Type 0} → (Made → Name → Position → A) → Reader A
completing f = do
  place ← expect (is_sign LeftBracket)
  n ← name
  expect (is_sign RightBracket)
  done (f Completing n place)

-- ',' and one more
unfoldable pub another : {A : Type 0} → Reader A → Reader A
another one = expect (is_sign Comma) >> one

-- one { ',' one }
unfoldable pub separated : {A : Type 0} → Reader A → Reader (List A)
separated one = do
  first ← one
  many (sees (is_sign Comma)) (another one) (first ∷ [])

-- [ one { ',' one } ] ')'
unfoldable pub arguments : {A : Type 0} → Reader A → Reader (List A)
arguments one = λ ms.
    if sees (is_sign RightParenthesis) ms then ((λ (place : Position). []) <$> expect (is_sign RightParenthesis)) ms
    else (do
      found ← separated one
      expect (is_sign RightParenthesis)
      done found) ms

-- ---- patterns

-- a variable, or '(' [ pattern { ',' pattern } ] ')', after the name
unfoldable pub named_pattern : Reader Pattern → Name → Reader Pattern
named_pattern sub n = λ ms.
    if sees (is_sign LeftParenthesis) ms
    then (expect (is_sign LeftParenthesis) >> (λ xs. p.Applied n (chain_of xs)) <$> arguments sub) ms
    else Some (p.Variable n, ms)

-- '-' number
unfoldable pub negative : Reader Pattern
negative = do
  place ← expect (is_sign Minus)
  n ← number
  done (p.Amount true n.0 place)

-- a pattern that begins with a symbol
unfoldable pub signed_pattern : Reader Pattern
signed_pattern = λ ms.
    if sees (is_sign Star) ms then (p.Anything <$> expect (is_sign Star)) ms
    else (if sees (is_sign Less) ms then placeholder p.MadeAs ms
    else (if sees (is_sign LeftBracket) ms then completing p.MadeAs ms
    else negative ms))

-- a pattern, where sub reads those inside
unfoldable pub pattern_by : Reader Pattern → Reader Pattern
pattern_by sub = λ ms.
    if sees is_name ms then (name >>= named_pattern sub) ms
    else (if sees is_numeral ms then ((λ (n : ℕ × Position). p.Amount false n.0 n.1) <$> number) ms
    else (if sees is_string ms then (p.Chars <$> string) ms
    else (if sees is_truth ms then ((λ (b : Bool × Position). p.Truth b.0 b.1) <$> truth) ms
    else signed_pattern ms)))

-- a pattern of at most so many nodes in depth
unfoldable pub pattern_within : ℕ → Reader Pattern
pattern_within zero = refuse
pattern_within (suc d) = pattern_by (pattern_within d)

abbrev pub pattern : Reader Pattern
pattern = pattern_within max_depth
