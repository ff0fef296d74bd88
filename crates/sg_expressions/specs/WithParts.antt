-- The rule of `with` in parts.
use Rattle.std.specs.Prelude.{ℕ, []}
use Rattle.sg_text.specs.declared.symbols.Symbol.TheVariants.{LeftParenthesis, RightParenthesis}
use Rattle.sg_text.specs.declared.words.Keyword.TheVariants as keyword
use Rattle.sg_kinds.specs.declared.fault.Position.{Position}
use Rattle.sg_ast.specs.Expressions.{Expr, Cases, With}
use Rattle.sg_ast.specs.Chains.{cases_chain}
use Rattle.sg_ast.specs.Levels.{choice_level}
use Rattle.sg_ast.specs.Readers.{Reader, ◌>>=◌, ◌>>◌, done, is_sign, is_reserved, expect, many}
use Rattle.sg_ast.specs.ReadingNames.{another}
use Rattle.sg_ast.specs.ReadingExpressions.{case, sees_case, default_case}

-- 'with' '(' expr ')' '('
unfoldable pub with_head : (ℕ → Reader Expr) → Reader (Expr × Position)
with_head sub = do
  place ← expect (is_reserved keyword.With)
  expect (is_sign LeftParenthesis)
  a ← sub choice_level
  expect (is_sign RightParenthesis)
  expect (is_sign LeftParenthesis)
  done (a, place)

-- { ',' case } [ ',' 'default' ':' expr ]
unfoldable pub other_cases : (ℕ → Reader Expr) → Reader Cases
other_cases sub = do
  found ← many sees_case (another (case sub)) []
  other ← default_case sub
  done (cases_chain found other)

-- case { ',' case } [ ',' 'default' ':' expr ] ')', after the head
unfoldable pub with_tail : (ℕ → Reader Expr) → Expr → Position → Reader Expr
with_tail sub a place = do
  first ← case sub
  others ← other_cases sub
  expect (is_sign RightParenthesis)
  done (With a first.0 first.1 others place)
