-- Expressions as trees.
use Rattle.std.specs.Prelude.{ℕ, Bool}
use Rattle.sg_kinds.specs.declared.fault.Position.{Position}
use Rattle.sg_kinds.specs.declared.marks.Made.{Made}
use Rattle.sg_ast.specs.declared.name.Name.{Name}
use Rattle.sg_ast.specs.declared.name.Quoted.{Quoted}
use Rattle.sg_ast.specs.declared.name.Reference.{Reference}
use Rattle.sg_ast.specs.declared.name.Remote as enclosing
use Rattle.sg_ast.specs.declared.expr.Infix.{Infix}
use Rattle.sg_ast.specs.declared.expr.Prefix.{Prefix}
use Rattle.sg_ast.specs.Patterns.{Pattern}

-- a number, a string, `true` or `false`, a variable, an attribute, one of an enclosing node, `<p>` or `[p]`, a
-- parenthesis, one operand, two operands, `a ? b : c`, a call, `let x = a in (b)`, and `with (a) (p : b ..)` with its
-- first case beside the others
mutual
  pub data Expr : Type 0 where
    Amount : ℕ → Position → Expr
    Chars : Quoted → Expr
    Truth : Bool → Position → Expr
    Variable : Name → Expr
    Attribute : Reference → Expr
    Remote : enclosing.Remote → Expr
    MadeOf : Made → Name → Position → Expr
    Paren : Expr → Position → Expr
    Single : Prefix → Expr → Position → Expr
    Binary : Infix → Expr → Expr → Expr
    Choice : Expr → Expr → Expr → Expr
    Call : Name → Exprs → Expr
    Let : Name → Expr → Expr → Position → Expr
    With : Expr → Pattern → Expr → Cases → Position → Expr

  pub data Exprs : Type 0 where
    NoExpr : Exprs
    AndExpr : Expr → Exprs → Exprs

  pub data Cases : Type 0 where
    NoCase : Cases
    Default : Expr → Cases
    Case : Pattern → Expr → Cases → Cases
