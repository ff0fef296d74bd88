-- Expressions and patterns. A name is the place of its value among the bindings.
use Rattle.std.specs.Prelude.{ℕ}
use Rattle.sg_kinds.specs.Values.{Value}
use Rattle.sg_kinds.specs.declared.marks.Made.{Made}
use Rattle.sg_kinds.specs.declared.marks.Unary.{Unary}
use Rattle.sg_kinds.specs.declared.marks.Sign.{Sign}
use Rattle.sg_kinds.specs.declared.marks.Connective.{Connective}

-- patterns: a literal, `*`, a variable, a made term, an operator; variables are bound from left to right
mutual
  pub data Pattern : Type 0 where
    Exactly : Value → Pattern
    Anything : Pattern
    Variable : Pattern
    MadeAs : Made → ℕ → Pattern
    Applied : ℕ → Patterns → Pattern

  pub data Patterns : Type 0 where
    NoPattern : Patterns
    AndPattern : Pattern → Patterns → Patterns

-- expressions: a constant, a name, a made term, one operand, two operands, `&&` and `||`, `::` with the list's binary
-- operator, `? :`, an operator, a function by its number, `let`, `with`
mutual
  pub data Expr : Type 0 where
    Constant : Value → Expr
    Named : ℕ → Expr
    MadeOf : Made → ℕ → Expr
    Single : Unary → Expr → Expr
    Binary : Sign → Expr → Expr → Expr
    Logical : Connective → Expr → Expr → Expr
    Cons : ℕ → Expr → Expr → Expr
    Choice : Expr → Expr → Expr → Expr
    Apply : ℕ → Exprs → Expr
    Call : ℕ → Exprs → Expr
    Let : Expr → Expr → Expr
    With : Expr → Cases → Expr

  pub data Exprs : Type 0 where
    NoExpr : Exprs
    AndExpr : Expr → Exprs → Exprs

  pub data Cases : Type 0 where
    NoCase : Cases
    Default : Expr → Cases
    Case : Pattern → Expr → Cases → Cases
