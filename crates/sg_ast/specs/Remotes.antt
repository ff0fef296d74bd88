-- The references to enclosing nodes, in the order of the spelling.
use Rattle.std.specs.Prelude.{List, [], ◌∷◌, ◌++◌, map}
use Rattle.std.specs.Borrow.{Bor}
use Rattle.sg_ast.specs.declared.name.Remote.{Remote}
use Rattle.sg_ast.specs.Expressions.{Expr, Exprs, Cases, Paren, Single, Binary, Choice, Call, Let, With, NoExpr, AndExpr, NoCase, Default, Case}
use Rattle.sg_ast.specs.Expressions as e

abbrev mutual
  pub remotes_of : Expr → List Remote
  remotes_of (e.Remote r) = r ∷ []
  remotes_of (Paren a place) = remotes_of a
  remotes_of (Single f a place) = remotes_of a
  remotes_of (Binary s a b) = remotes_of a ++ remotes_of b
  remotes_of (Choice a b c) = remotes_of a ++ remotes_of b ++ remotes_of c
  remotes_of (Call n es) = remotes_of_all es
  remotes_of (Let n a b place) = remotes_of a ++ remotes_of b
  remotes_of (With a q b cs place) = remotes_of a ++ remotes_of b ++ remotes_of_cases cs
  remotes_of _ = []

  pub remotes_of_all : Exprs → List Remote
  remotes_of_all NoExpr = []
  remotes_of_all (AndExpr a es) = remotes_of a ++ remotes_of_all es

  pub remotes_of_cases : Cases → List Remote
  remotes_of_cases NoCase = []
  remotes_of_cases (Default a) = remotes_of a
  remotes_of_cases (Case q a cs) = remotes_of a ++ remotes_of_cases cs

-- those that the code found
abbrev pub remotes_seen : List (Bor Remote) → List Remote
remotes_seen found = map (λ (r : Bor Remote). r.now) found
