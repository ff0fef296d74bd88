-- Trees whose literals are values.
use Rattle.std.specs.Prelude.{◌≡◌, ◌≢◌, ◌^◌, ◌<◌, true, List, [], ⊤}
use Rattle.std.specs.List.{AllByRecursion}
use Rattle.sg_kinds.specs.Values.{is_text}
use Rattle.sg_ast.specs.Patterns.{Pattern, Patterns, NoPattern, AndPattern}
use Rattle.sg_ast.specs.Patterns as p
use Rattle.sg_ast.specs.Expressions.{Expr, Exprs, Cases, NoExpr, AndExpr, NoCase, Default, Case}
use Rattle.sg_ast.specs.Expressions as e
use Rattle.sg_ast.specs.Declarations.{Decl, Equation, Right, Equations, Schemes, Function, Transform, Productions}

-- numbers are below 2^63, and strings are texts
abbrev mutual
  pub HasValues : Pattern → Type 0
  HasValues (p.Amount negative n place) = n < 2 ^ 63
  HasValues (p.Chars s) = is_text s.text ≡ true
  HasValues (p.Truth b place) = ⊤
  HasValues (p.Anything place) = ⊤
  HasValues (p.Variable n) = ⊤
  HasValues (p.MadeAs made n place) = ⊤
  HasValues (p.Applied n xs) = HaveValues xs

  pub HaveValues : Patterns → Type 0
  HaveValues NoPattern = ⊤
  HaveValues (AndPattern x xs) = HasValues x × HaveValues xs

abbrev mutual
  pub AreWritten : Expr → Type 0
  AreWritten (e.Amount n place) = n < 2 ^ 63
  AreWritten (e.Chars s) = is_text s.text ≡ true
  AreWritten (e.Truth b place) = ⊤
  AreWritten (e.Variable n) = ⊤
  AreWritten (e.Attribute r) = ⊤
  AreWritten (e.Remote r) = ⊤
  AreWritten (e.MadeOf made n place) = ⊤
  AreWritten (e.Paren a place) = AreWritten a
  AreWritten (e.Single f a place) = AreWritten a
  AreWritten (e.Binary s a b) = AreWritten a × AreWritten b
  AreWritten (e.Choice c a b) = AreWritten c × AreWritten a × AreWritten b
  AreWritten (e.Call n es) = AreWrittenAll es
  AreWritten (e.Let n a b place) = AreWritten a × AreWritten b
  AreWritten (e.With a q b cs place) = AreWritten a × HasValues q × AreWritten b × AreWrittenCases cs

  pub AreWrittenAll : Exprs → Type 0
  AreWrittenAll NoExpr = ⊤
  AreWrittenAll (AndExpr a es) = AreWritten a × AreWrittenAll es

  pub AreWrittenCases : Cases → Type 0
  AreWrittenCases NoCase = ⊤
  AreWrittenCases (Default a) = AreWritten a
  AreWrittenCases (Case q a cs) = HasValues q × AreWritten a × AreWrittenCases cs

-- a declaration whose literals are values, with at least one scheme or right side
abbrev pub IsWritten : Decl → Type 0
IsWritten (Equations n op locals es) = AllByRecursion (λ (q : Equation). AreWritten q.expr) es
IsWritten (Schemes n op view schemes) = schemes ≢ []
IsWritten (Function of n params a) = AreWritten a
IsWritten (Transform n title q a) = HasValues q × AreWritten a
IsWritten (Productions n rights) = (rights ≢ []) × AllByRecursion (λ (r : Right). AreWritten r.expr) rights
IsWritten d = ⊤

abbrev pub HaveWritten : List Decl → Type 0
HaveWritten ds = AllByRecursion IsWritten ds
