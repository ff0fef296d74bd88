-- The arguments of an equation: the different occurrences that its expression names, in the order of their first
-- mention.
use Rattle.std.specs.Prelude.{ℕ, if◌then◌else◌, List, [], ◌∷◌, ◌++◌, Option, Some, None, option_map, is_some}
use Rattle.std.specs.List.{position}
use Rattle.sg_kinds.specs.Values.{Bytes}
use Rattle.sg_kinds.specs.declared.spec.Occurrence.{Occurrence}
use Rattle.sg_ast.specs.Expressions.{Expr, Exprs, Cases, Amount, Chars, Truth, Variable, Attribute, Remote, MadeOf, Paren, Single, Binary, Choice, Call, Let, With, NoExpr, AndExpr, NoCase, Default, Case}
use Rattle.sg_ast.specs.declared.name.Remote as enclosing
use Rattle.sg_names.specs.declared.table.Table.{Table}
use Rattle.sg_names.specs.Lookups.{far_slot, reference}
use Rattle.sg_types.specs.Bindings.{is_at, local_slot}

-- an occurrence more, unless it stands already
abbrev pub added : List Occurrence → Option Occurrence → List Occurrence
added before None = before
added before (Some o) = if is_some (position (is_at o.at o.slot) before) then before else before ++ o ∷ []

-- the occurrence that a local is
abbrev pub local_of : Table → ℕ → Bytes → Option Occurrence
local_of t op n = option_map (λ s. record { at = 0; slot = s }) (local_slot t op n)

-- the occurrence that an attribute of an enclosing node is: the far attribute of the left side
abbrev pub remote_of : Table → ℕ → enclosing.Remote → Option Occurrence
remote_of t op r = option_map (λ s. record { at = 0; slot = s }) (far_slot t op r)

-- those of an expression behind others
abbrev mutual
  pub args_from : Table → ℕ → List Occurrence → Expr → List Occurrence
  args_from t op before (Amount n place) = before
  args_from t op before (Chars s) = before
  args_from t op before (Truth b place) = before
  args_from t op before (Variable n) = added before (local_of t op n.text)
  args_from t op before (Attribute r) = added before (reference t op r)
  args_from t op before (Remote r) = added before (remote_of t op r)
  args_from t op before (MadeOf made n place) = before
  args_from t op before (Paren a place) = args_from t op before a
  args_from t op before (Single f a place) = args_from t op before a
  args_from t op before (Binary s a b) = args_from t op (args_from t op before a) b
  args_from t op before (Choice c a b) = args_from t op (args_from t op (args_from t op before c) a) b
  args_from t op before (Call n es) = args_from_all t op before es
  args_from t op before (Let n a b place) = args_from t op (args_from t op before a) b
  args_from t op before (With a q b cs place) = args_from_cases t op (args_from t op (args_from t op before a) b) cs

  pub args_from_all : Table → ℕ → List Occurrence → Exprs → List Occurrence
  args_from_all t op before NoExpr = before
  args_from_all t op before (AndExpr e es) = args_from_all t op (args_from t op before e) es

  pub args_from_cases : Table → ℕ → List Occurrence → Cases → List Occurrence
  args_from_cases t op before NoCase = before
  args_from_cases t op before (Default e) = args_from t op before e
  args_from_cases t op before (Case q e cs) = args_from_cases t op (args_from t op before e) cs

abbrev pub args_in : Table → ℕ → Expr → List Occurrence
args_in t op e = args_from t op [] e
