-- The trees of the code, as those of the definitions.
use Rattle.std.specs.Prelude.{List, map}
use Rattle.sg_ast.specs.Patterns as plain_pattern
use Rattle.sg_ast.specs.Expressions as plain_expr
use Rattle.sg_ast.specs.Declarations as plain
use Rattle.sg_ast.specs.declared.pattern.Pattern.{Pattern}
use Rattle.sg_ast.specs.declared.pattern.Pattern.TheVariants as pattern
use Rattle.sg_ast.specs.declared.pattern.Patterns.{Patterns}
use Rattle.sg_ast.specs.declared.pattern.Patterns.TheVariants as patterns
use Rattle.sg_ast.specs.declared.expr.Expr.{Expr}
use Rattle.sg_ast.specs.declared.expr.Expr.TheVariants as expr
use Rattle.sg_ast.specs.declared.expr.Operands.TheVariants as operands
use Rattle.sg_ast.specs.declared.expr.Exprs.{Exprs}
use Rattle.sg_ast.specs.declared.expr.Exprs.TheVariants as exprs
use Rattle.sg_ast.specs.declared.expr.Cases.{Cases}
use Rattle.sg_ast.specs.declared.expr.Cases.TheVariants as cases
use Rattle.sg_ast.specs.declared.decl.Equation.{Equation}
use Rattle.sg_ast.specs.declared.decl.Right.{Right}
use Rattle.sg_ast.specs.declared.decl.Decl.{Decl}
use Rattle.sg_ast.specs.declared.decl.Decl.TheVariants as decl

abbrev mutual
  pub pattern_of : Pattern → plain_pattern.Pattern
  pattern_of (pattern.Number negative n p) = plain_pattern.Amount negative n p
  pattern_of (pattern.Text s) = plain_pattern.Chars s
  pattern_of (pattern.Truth b p) = plain_pattern.Truth b p
  pattern_of (pattern.Anything p) = plain_pattern.Anything p
  pattern_of (pattern.Variable n) = plain_pattern.Variable n
  pattern_of (pattern.Made made n p) = plain_pattern.MadeAs made n p
  pattern_of (pattern.Operator n ps) = plain_pattern.Applied n (patterns_of ps)

  pub patterns_of : Patterns → plain_pattern.Patterns
  patterns_of patterns.End = plain_pattern.NoPattern
  patterns_of (patterns.More' a x b xs) = plain_pattern.AndPattern (pattern_of x) (patterns_of xs)

abbrev mutual
  pub expr_of : Expr → plain_expr.Expr
  expr_of (expr.Number n p) = plain_expr.Amount n p
  expr_of (expr.Text s) = plain_expr.Chars s
  expr_of (expr.Truth b p) = plain_expr.Truth b p
  expr_of (expr.Variable n) = plain_expr.Variable n
  expr_of (expr.Attribute r) = plain_expr.Attribute r.value
  expr_of (expr.Remote r) = plain_expr.Remote r.value
  expr_of (expr.Made made n p) = plain_expr.MadeOf made n.value p
  expr_of (expr.Paren' a x p) = plain_expr.Paren (expr_of x) p
  expr_of (expr.Prefix' f a x p) = plain_expr.Single f (expr_of x) p
  expr_of (expr.Binary' s a (operands.Both x y)) = plain_expr.Binary s (expr_of x) (expr_of y)
  expr_of (expr.Choice' a x b y c z) = plain_expr.Choice (expr_of x) (expr_of y) (expr_of z)
  expr_of (expr.Call n xs) = plain_expr.Call n.value (exprs_of xs)
  expr_of (expr.Let' n a x b y p) = plain_expr.Let n.value (expr_of x) (expr_of y) p
  expr_of (expr.With' a x q b y c cs) =
      plain_expr.With (expr_of x) (pattern_of q.value.pattern) (expr_of y) (cases_of cs) q.value.place

  pub exprs_of : Exprs → plain_expr.Exprs
  exprs_of exprs.End = plain_expr.NoExpr
  exprs_of (exprs.More' a x b xs) = plain_expr.AndExpr (expr_of x) (exprs_of xs)

  pub cases_of : Cases → plain_expr.Cases
  cases_of cases.End = plain_expr.NoCase
  cases_of (cases.Default' a x) = plain_expr.Default (expr_of x)
  cases_of (cases.More' q a x b cs) = plain_expr.Case (pattern_of q) (expr_of x) (cases_of cs)

-- a case of `with`
abbrev pub case_of : Pattern × Expr → plain_pattern.Pattern × plain_expr.Expr
case_of c = (pattern_of c.0, expr_of c.1)

abbrev pub equation_of : Equation → plain.Equation
equation_of e = record { target = e.target; expr = expr_of e.expr }

abbrev pub right_of : Right → plain.Right
right_of r = record { place = r.place; parts = r.parts; expr = expr_of r.expr }

abbrev pub tree_of : Decl → plain.Decl
tree_of (decl.Root n) = plain.Root n
tree_of (decl.Listed n) = plain.Listed n
tree_of (decl.Optional listed n) = plain.Optional listed n
tree_of (decl.Operators n alts) = plain.Operators n alts
tree_of (decl.Lexeme n s) = plain.LexemeOf n s
tree_of (decl.Attributes n attrs) = plain.Attributes n attrs
tree_of (decl.Equations n op locals es) = plain.Equations n op locals (map equation_of es.items)
tree_of (decl.Schemes n op view ss) = plain.Schemes n op view ss
tree_of (decl.Function t n ps e) = plain.Function t n ps (expr_of e)
tree_of (decl.Transform n s q e) = plain.Transform n s (pattern_of q) (expr_of e)
tree_of (decl.Productions n rs) = plain.Productions n (map right_of rs.items)
tree_of (decl.Entry n m a) = plain.Entry n m a
tree_of (decl.Levels g ls p) = plain.Precedence g ls p

-- the trees that a list of the code is
abbrev pub trees_of : List Decl → List plain.Decl
trees_of ds = map tree_of ds
