-- The rules of the record: one for each equation, in the order of the text.
use Rattle.std.specs.Prelude.{ℕ, suc, ◌+◌, List, [], ◌∷◌, ◌++◌, slice_get, Option, Some, None, option_map, unwrap_or}
use Rattle.sg_kinds.specs.declared.spec.Occurrence.{Occurrence}
use Rattle.sg_kinds.specs.declared.spec.Rule.{Rule}
use Rattle.sg_ast.specs.Declarations.{Decl, Equation, Equations}
use Rattle.sg_names.specs.declared.table.Table.{Table}
use Rattle.sg_names.specs.Lookups.{operator_at}
use Rattle.sg_typing.specs.declared.bodies.TypedExpr.{TypedExpr}
use Rattle.sg_typing.specs.Bodies.{expr_count}
use Rattle.sg_equations.specs.Targets.{target_there}

-- what an expression of the record names
abbrev pub args_of : List TypedExpr → ℕ → List Occurrence
args_of exprs k = unwrap_or (option_map (λ (e : TypedExpr). e.args) (slice_get exprs k)) []

-- an equation with expression k; none where its target has no meaning
abbrev pub ruled : List TypedExpr → ℕ → ℕ → Option Occurrence → List Rule
ruled exprs op k None = []
ruled exprs op k (Some o) = record { op = op; target = o; args = args_of exprs k; expr = k } ∷ []

-- equations, of which the first has expression k
abbrev pub rules_from : Table → List TypedExpr → ℕ → ℕ → List Equation → List Rule
rules_from t exprs op k [] = []
rules_from t exprs op k (e ∷ es) = ruled exprs op k (target_there t op e.target) ++ rules_from t exprs op (suc k) es

abbrev pub rules_under : Table → List TypedExpr → ℕ → List Equation → Option ℕ → List Rule
rules_under t exprs k es None = []
rules_under t exprs k es (Some op) = rules_from t exprs op k es

abbrev pub rules_at : Table → List TypedExpr → ℕ → Decl → List Rule
rules_at t exprs k (Equations p op locals es) = rules_under t exprs k es (operator_at t p op)
rules_at t exprs k d = []

-- declarations, before which there are k expressions
abbrev pub rules_in : Table → List TypedExpr → ℕ → List Decl → List Rule
rules_in t exprs k [] = []
rules_in t exprs k (d ∷ ds) = rules_at t exprs k d ++ rules_in t exprs (k + expr_count d) ds
