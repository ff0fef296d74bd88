-- What is made of an expression.
use Rattle.std.specs.Prelude.{◌≡◌, ℕ, List, [], ◌∷◌, ◌++◌, Option, Some}
use Rattle.sg_kinds.specs.ExprView.{expr_of, exprs_of, cases_of}
use Rattle.sg_kinds.specs.Expressions as kept
use Rattle.sg_kinds.specs.declared.fault.Position.{Position}
use Rattle.sg_kinds.specs.declared.pattern.Pattern.{Pattern as Kept}
use Rattle.sg_kinds.specs.declared.expr.ExprTree.{ExprTree}
use Rattle.sg_ast.specs.Chains.{expr_place}
use Rattle.sg_ast.specs.Patterns.{Pattern}
use Rattle.sg_ast.specs.Expressions.{Expr, Exprs, Cases}
use Rattle.sg_names.specs.declared.table.Table.{Table}
use Rattle.sg_types.specs.declared.scope.Variable.{Variable}
use Rattle.sg_types.specs.declared.found.Found.{Found}
use Rattle.sg_types.specs.declared.found.FoundList.{FoundList}
use Rattle.sg_types.specs.declared.found.FoundCase.{FoundCase}
use Rattle.sg_types.specs.declared.found.FoundCases.{FoundCases}
use Rattle.sg_types.specs.Bindings.{Owner}
use Rattle.sg_types.specs.Patterns.{variables_of}
use Rattle.sg_types.specs.PatternsView.{IsChecked}
use Rattle.sg_types.specs.Expressions.{type_in, mismatch_in, mismatch_in_all, mismatch_in_cases, recorded, recorded_all, recorded_cases, only_in}
use Rattle.sg_names.specs.Lookups.{builtin_param, builtin_result}
use Rattle.sg_kinds.specs.declared.marks.Unary.{Unary}

-- its expression in the record, its type, its first token, and the first mismatch inside
pub record IsFound (t : Table) (w : Owner) (vs : List Variable) (e : Expr) (f : Found) : Type 0 where
  pub tree : expr_of f.tree ≡ recorded t w vs e
  pub of : f.of ≡ type_in t w vs e
  pub place : f.place ≡ expr_place e
  pub mismatch : f.mismatch ≡ mismatch_in t w vs e

pub record AreFound (t : Table) (w : Owner) (vs : List Variable) (place : Position) (es : Exprs) (ps : List ℕ)
    (f : FoundList) : Type 0 where
  pub list : exprs_of f.list ≡ recorded_all t w vs es ps
  pub mismatch : f.mismatch ≡ mismatch_in_all t w vs place es ps

-- a call of a builtin
pub record IsBuiltIn (t : Table) (w : Owner) (vs : List Variable) (builtin : Unary) (es : Exprs) (at : Position)
    (f : Found) : Type 0 where
  pub tree : expr_of f.tree ≡ kept.Single builtin (only_in (recorded_all t w vs es (builtin_param builtin ∷ [])))
  pub of : f.of ≡ Some (builtin_result builtin)
  pub place : f.place ≡ at
  pub mismatch : f.mismatch ≡ mismatch_in_all t w vs at es (builtin_param builtin ∷ [])

-- a pattern and the expression behind it
pub record IsCase (t : Table) (w : Owner) (vs : List Variable) (subject : Option ℕ) (q : Pattern) (e : Expr)
    (f : FoundCase) : Type 0 where
  pub pattern : IsChecked t q subject f.pattern
  pub body : IsFound t w (vs ++ variables_of t q subject) e f.body

pub record AreCases (t : Table) (w : Owner) (vs : List Variable) (subject wanted : Option ℕ) (cs : Cases)
    (f : FoundCases) : Type 0 where
  pub list : cases_of f.list ≡ recorded_cases t w vs subject cs
  pub mismatch : f.mismatch ≡ mismatch_in_cases t w vs subject wanted cs

-- cases before others
abbrev pub with_cases : List (kept.Pattern × kept.Expr) → kept.Cases → kept.Cases
with_cases [] rest = rest
with_cases (c ∷ cs) rest = kept.Case c.0 c.1 (with_cases cs rest)

abbrev pub case_of : Kept × ExprTree → kept.Pattern × kept.Expr
case_of c = (c.0, expr_of c.1)
