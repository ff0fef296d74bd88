-- Lists of parts as the chains of trees, and where a tree begins.
use Rattle.std.specs.Prelude.{List, [], ◌∷◌, Option, Some, None}
use Rattle.sg_kinds.specs.declared.fault.Position.{Position}
use Rattle.sg_ast.specs.declared.name.Occurrence.{Occurrence}
use Rattle.sg_ast.specs.declared.name.Occurrence.TheVariants.{Own, Named}
use Rattle.sg_ast.specs.Patterns.{Pattern, Patterns, NoPattern, AndPattern}
use Rattle.sg_ast.specs.Patterns as p
use Rattle.sg_ast.specs.Expressions.{Expr, Exprs, Cases, Amount, Chars, Truth, Variable, Attribute, Remote, MadeOf, Paren, Single, Binary, Choice, Call, Let, With, NoExpr, AndExpr, NoCase, Default, Case}

abbrev pub chain_of : List Pattern → Patterns
chain_of [] = NoPattern
chain_of (x ∷ xs) = AndPattern x (chain_of xs)

abbrev pub exprs_chain : List Expr → Exprs
exprs_chain [] = NoExpr
exprs_chain (e ∷ es) = AndExpr e (exprs_chain es)

-- the cases of `with` after the first, with the default behind them if there is one
abbrev pub cases_chain : List (Pattern × Expr) → Option Expr → Cases
cases_chain [] None = NoCase
cases_chain [] (Some e) = Default e
cases_chain (c ∷ cs) other = Case c.0 c.1 (cases_chain cs other)

-- the place of the first token
abbrev pub occurrence_place : Occurrence → Position
occurrence_place (Own place) = place
occurrence_place (Named n k) = n.place

abbrev pub pattern_place : Pattern → Position
pattern_place (p.Amount negative n place) = place
pattern_place (p.Chars s) = s.place
pattern_place (p.Truth b place) = place
pattern_place (p.Anything place) = place
pattern_place (p.Variable n) = n.place
pattern_place (p.MadeAs made n place) = place
pattern_place (p.Applied n xs) = n.place

abbrev pub expr_place : Expr → Position
expr_place (Amount n place) = place
expr_place (Chars s) = s.place
expr_place (Truth b place) = place
expr_place (Variable n) = n.place
expr_place (Attribute r) = occurrence_place r.of
expr_place (Remote r) = r.place
expr_place (MadeOf made n place) = place
expr_place (Paren a place) = place
expr_place (Single f a place) = place
expr_place (Binary s a b) = expr_place a
expr_place (Choice a b c) = expr_place a
expr_place (Call n es) = n.place
expr_place (Let n a b place) = place
expr_place (With a q b cs place) = place
