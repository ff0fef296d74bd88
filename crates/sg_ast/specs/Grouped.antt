-- Which trees are trees of the grammar.
use Rattle.std.specs.Prelude.{◌≢◌, ◌<◌, ◌≤◌, ◌^◌, ℕ, suc, max, [], Some, ⊤}
use Rattle.std.specs.List.{AllByRecursion}
use Rattle.sg_ast.specs.declared.name.Occurrence.{Occurrence}
use Rattle.sg_ast.specs.declared.name.Occurrence.TheVariants.{Named}
use Rattle.sg_ast.specs.declared.name.Reference.{Reference}
use Rattle.sg_ast.specs.declared.decl.Target.{Target}
use Rattle.sg_ast.specs.declared.decl.Target.TheVariants as target
use Rattle.sg_ast.specs.declared.decl.Item.{Item}
use Rattle.sg_ast.specs.declared.decl.Item.TheVariants as item
use Rattle.sg_ast.specs.declared.decl.SchemeDecl.{SchemeDecl}
use Rattle.sg_ast.specs.Levels.{level, choice_level, prefix_level, atom_level, left_by, right_by}
use Rattle.sg_ast.specs.Patterns.{Pattern, Patterns, Applied, NoPattern, AndPattern}
use Rattle.sg_ast.specs.Patterns as p
use Rattle.sg_ast.specs.Expressions.{Expr, Exprs, Cases, Amount, Attribute, Remote, Paren, Single, Binary, Choice, Call, Let, With, NoExpr, AndExpr, NoCase, Default, Case}
use Rattle.sg_ast.specs.Declarations.{Equation, Right, Decl, Operators, Equations, Schemes, Function, Transform, Productions, Precedence}

-- how many nodes deep an expression may be, and a pattern
abbrev pub max_depth : ℕ
max_depth = 128

abbrev mutual
  pub pattern_depth : Pattern → ℕ
  pattern_depth (Applied n ps) = suc (patterns_depth ps)
  pattern_depth _ = 1

  pub patterns_depth : Patterns → ℕ
  patterns_depth NoPattern = 0
  patterns_depth (AndPattern x xs) = max (pattern_depth x) (patterns_depth xs)

-- each form is a node, a parenthesis too; a pattern inside counts by itself
abbrev mutual
  pub depth : Expr → ℕ
  depth (Paren a place) = suc (depth a)
  depth (Single f a place) = suc (depth a)
  depth (Binary s a b) = suc (max (depth a) (depth b))
  depth (Choice a b c) = suc (max (depth a) (max (depth b) (depth c)))
  depth (Call n es) = suc (exprs_depth es)
  depth (Let n a b place) = suc (max (depth a) (depth b))
  depth (With a q b cs place) = suc (max (depth a) (max (depth b) (cases_depth cs)))
  depth _ = 1

  pub exprs_depth : Exprs → ℕ
  exprs_depth NoExpr = 0
  exprs_depth (AndExpr e es) = max (depth e) (exprs_depth es)

  pub cases_depth : Cases → ℕ
  cases_depth NoCase = 0
  cases_depth (Default e) = depth e
  cases_depth (Case q e cs) = max (depth e) (cases_depth cs)

-- numbers are below 2^63
abbrev pub InRange : ℕ → Type 0
InRange n = n < 2 ^ 63

abbrev pub IsOccurrence : Occurrence → Type 0
IsOccurrence (Named n (Some k)) = InRange k
IsOccurrence _ = ⊤

abbrev pub IsReference : Reference → Type 0
IsReference r = IsOccurrence r.of

abbrev pub IsTarget : Target → Type 0
IsTarget (target.Attribute r) = IsReference r
IsTarget (target.Local n) = ⊤

abbrev pub IsItem : Item → Type 0
IsItem (item.Shows t) = IsTarget t
IsItem _ = ⊤

abbrev pub IsScheme : SchemeDecl → Type 0
IsScheme s = AllByRecursion IsItem s.items

abbrev mutual
  pub HasNumbers : Pattern → Type 0
  HasNumbers (p.Amount negative n place) = InRange n
  HasNumbers (Applied n ps) = HaveNumbers ps
  HasNumbers _ = ⊤

  pub HaveNumbers : Patterns → Type 0
  HaveNumbers NoPattern = ⊤
  HaveNumbers (AndPattern x xs) = HasNumbers x × HaveNumbers xs

-- a pattern of the grammar that is not too deep
pub record IsPattern (q : Pattern) : Type 0 where
  pub numbers : HasNumbers q
  pub within : pattern_depth q ≤ max_depth

-- the level of the rule of the grammar that an expression is of
abbrev pub level_of : Expr → ℕ
level_of (Choice a b c) = choice_level
level_of (Binary s a b) = level s
level_of (Single f a place) = prefix_level
level_of _ = atom_level

-- the operands of each operator are of the levels that it takes
abbrev mutual
  pub IsGrouped : Expr → Type 0
  IsGrouped (Amount n place) = InRange n
  IsGrouped (Attribute r) = IsReference r
  IsGrouped (Remote r) = r.pairs ≢ []
  IsGrouped (Paren a place) = IsGrouped a
  IsGrouped (Single f a place) = (prefix_level ≤ level_of a) × IsGrouped a
  IsGrouped (Binary s a b) =
      (left_by (level s) ≤ level_of a) × (right_by (level s) ≤ level_of b) × IsGrouped a × IsGrouped b
  IsGrouped (Choice a b c) = (choice_level < level_of a) × IsGrouped a × IsGrouped b × IsGrouped c
  IsGrouped (Call n es) = AreGrouped es
  IsGrouped (Let n a b place) = IsGrouped a × IsGrouped b
  IsGrouped (With a q b cs place) = IsGrouped a × IsPattern q × IsGrouped b × HasGrouped cs
  IsGrouped _ = ⊤

  pub AreGrouped : Exprs → Type 0
  AreGrouped NoExpr = ⊤
  AreGrouped (AndExpr e es) = IsGrouped e × AreGrouped es

  pub HasGrouped : Cases → Type 0
  HasGrouped NoCase = ⊤
  HasGrouped (Default e) = IsGrouped e
  HasGrouped (Case q e cs) = IsPattern q × IsGrouped e × HasGrouped cs

-- an expression of the grammar that is not too deep
pub record IsExpr (e : Expr) : Type 0 where
  pub grouped : IsGrouped e
  pub within : depth e ≤ max_depth

abbrev pub IsEquation : Equation → Type 0
IsEquation e = IsTarget e.target × IsExpr e.expr

abbrev pub IsRight : Right → Type 0
IsRight r = IsExpr r.expr

-- the trees of the grammar
abbrev pub IsTree : Decl → Type 0
IsTree (Operators n alts) = alts ≢ []
IsTree (Equations n op locals equations) = AllByRecursion IsEquation equations
IsTree (Schemes n op view schemes) = (schemes ≢ []) × AllByRecursion IsScheme schemes
IsTree (Function t n params body) = IsExpr body
IsTree (Transform n title q e) = IsPattern q × IsExpr e
IsTree (Productions n rights) = (rights ≢ []) × AllByRecursion IsRight rights
IsTree (Precedence g literals place) = literals ≢ []
IsTree _ = ⊤
