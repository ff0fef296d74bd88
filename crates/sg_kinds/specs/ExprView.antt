-- The expressions of the code, as those of the definitions.
use Rattle.sg_kinds.specs.Expressions.{Expr, Exprs, Cases, Constant, Named, MadeOf, Single, Binary, Logical, Cons, Choice, Apply, Call, Let, With, NoExpr, AndExpr, NoCase, Default, Case}
use Rattle.sg_kinds.specs.PatternView.{literal_of}
use Rattle.sg_kinds.specs.declared.expr.ExprTree.{ExprTree}
use Rattle.sg_kinds.specs.declared.expr.ExprTree.TheVariants as tree
use Rattle.sg_kinds.specs.declared.expr.ExprList.{ExprList}
use Rattle.sg_kinds.specs.declared.expr.ExprList.TheVariants as list
use Rattle.sg_kinds.specs.declared.expr.CaseList.{CaseList}
use Rattle.sg_kinds.specs.declared.expr.CaseList.TheVariants as cases

abbrev mutual
  pub expr_of : ExprTree → Expr
  expr_of (tree.Literal x) = Constant (literal_of x)
  expr_of (tree.Named k) = Named k
  expr_of (tree.Made made p) = MadeOf made p
  expr_of (tree.Unary' f p a) = Single f (expr_of a)
  expr_of (tree.Binary' sign p a q b) = Binary sign (expr_of a) (expr_of b)
  expr_of (tree.Logical' c p a q b) = Logical c (expr_of a) (expr_of b)
  expr_of (tree.Cons' op p a q b) = Cons op (expr_of a) (expr_of b)
  expr_of (tree.Choice' p c q a r b) = Choice (expr_of c) (expr_of a) (expr_of b)
  expr_of (tree.Apply op es) = Apply op (exprs_of es)
  expr_of (tree.Call f es) = Call f (exprs_of es)
  expr_of (tree.Let' p a q b) = Let (expr_of a) (expr_of b)
  expr_of (tree.With' p a q cs) = With (expr_of a) (cases_of cs)

  pub exprs_of : ExprList → Exprs
  exprs_of list.End = NoExpr
  exprs_of (list.More' p a q es) = AndExpr (expr_of a) (exprs_of es)

  pub cases_of : CaseList → Cases
  cases_of cases.End = NoCase
  cases_of (cases.Default' p a) = Default (expr_of a)
  cases_of (cases.More' x p a q cs) = Case x (expr_of a) (cases_of cs)
