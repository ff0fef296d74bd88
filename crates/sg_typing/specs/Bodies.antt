-- The expressions and patterns of declarations: what is kept of them, and their first mismatch.
use Rattle.std.specs.Prelude.{ℕ, List, [], ◌∷◌, map, length, flat_map, slice_get, Option, Some, None, option_map, option_and_then, unwrap_or}
use Rattle.sg_kinds.specs.Expressions as kept
use Rattle.sg_kinds.specs.Typing.{slot_type}
use Rattle.sg_kinds.specs.declared.fault.Position.{Position}
use Rattle.sg_kinds.specs.declared.spec.Attr.{Attr}
use Rattle.sg_kinds.specs.declared.spec.Occurrence.{Occurrence}
use Rattle.sg_ast.specs.Declarations.{Decl, Equation, Right, Equations, Function, Transform, Productions}
use Rattle.sg_ast.specs.Expressions.{Expr}
use Rattle.sg_ast.specs.Patterns.{Pattern}
use Rattle.sg_ast.specs.FirstFault.{or_else, first}
use Rattle.sg_ast.specs.declared.name.Name.{Name}
use Rattle.sg_ast.specs.declared.name.Typed.{Typed}
use Rattle.sg_ast.specs.declared.decl.Target.{Target}
use Rattle.sg_ast.specs.declared.decl.Target.TheVariants as target
use Rattle.sg_names.specs.declared.table.Table.{Table}
use Rattle.sg_names.specs.Lookups.{phylum_named, operator_at, reference, symbol_attrs}
use Rattle.sg_names.specs.Drafted.{drafted}
use Rattle.sg_types.specs.declared.scope.Variable.{Variable}
use Rattle.sg_types.specs.Bindings.{Owner, OfEquation, OfProduction, OfNothing, local_slot}
use Rattle.sg_types.specs.Expressions.{type_in, mismatch_at, recorded}
use Rattle.sg_types.specs.Patterns as pattern
use Rattle.sg_typing.specs.declared.bodies.TypedExpr.{TypedExpr}
use Rattle.sg_typing.specs.Arguments.{args_in}

-- an expression of the record with its type, among these variables
abbrev pub typed : Table → Owner → List Variable → List Occurrence → Expr → TypedExpr
typed t w vs args e = record { expr = recorded t w vs e; of = unwrap_or (type_in t w vs e) 0; args = args }

-- the operator of a phylum, 0 where the names mean nothing
abbrev pub operator : Table → Name → Name → ℕ
operator t n op = unwrap_or (operator_at t n op) 0

-- the type of what an equation defines, or a scheme shows
abbrev pub reference_type : Table → ℕ → Option Occurrence → Option ℕ
reference_type t op None = None
reference_type t op (Some o) = slot_type (drafted t) op o.at o.slot

abbrev pub target_type : Table → ℕ → Target → Option ℕ
target_type t op (target.Attribute r) = reference_type t op (reference t op r)
target_type t op (target.Local n) = option_and_then (slot_type (drafted t) op 0) (local_slot t op n.text)

-- equations
abbrev pub equation_owner : Table → ℕ → Equation → Owner
equation_owner t op e = OfEquation op (args_in t op e.expr)

abbrev pub equation_typed : Table → ℕ → Equation → TypedExpr
equation_typed t op e = typed t (equation_owner t op e) [] (args_in t op e.expr) e.expr

abbrev pub equation_mismatch : Table → ℕ → Equation → Option Position
equation_mismatch t op e = mismatch_at t (equation_owner t op e) [] (target_type t op e.target) e.expr

-- functions, with their parameters as variables
abbrev pub parameter : Table → Typed → Variable
parameter t p = record { name = p.name.text; of = phylum_named t p.of.text }

-- input productions, where the type of the nonterminal's attribute is wanted
abbrev pub result_type : Table → Name → Option ℕ
result_type t n = option_map (λ (a : Attr). a.of) (slice_get (symbol_attrs t n.text) 0)

abbrev pub right_typed : Table → Name → Right → TypedExpr
right_typed t n r = typed t (OfProduction n.text r.parts) [] [] r.expr

abbrev pub right_mismatch : Table → Name → Right → Option Position
right_mismatch t n r = mismatch_at t (OfProduction n.text r.parts) [] (result_type t n) r.expr

abbrev pub function_typed : Table → List Typed → Expr → TypedExpr
function_typed t params e = typed t OfNothing (map (parameter t) params) [] e

abbrev pub function_mismatch : Table → Name → List Typed → Expr → Option Position
function_mismatch t of params e = mismatch_at t OfNothing (map (parameter t) params) (phylum_named t of.text) e

-- transformations, with the variables of their patterns
abbrev pub transform_typed : Table → Name → Pattern → Expr → TypedExpr
transform_typed t n q e = typed t OfNothing (pattern.variables_of t q (phylum_named t n.text)) [] e

abbrev pub transform_mismatch : Table → Name → Pattern → Expr → Option Position
transform_mismatch t n q e = or_else (pattern.mismatch_in t q (phylum_named t n.text))
    (mismatch_at t OfNothing (pattern.variables_of t q (phylum_named t n.text)) (phylum_named t n.text) e)

-- the expressions and the pattern of a declaration
abbrev pub exprs_at : Table → Decl → List TypedExpr
exprs_at t (Equations n op locals es) = map (equation_typed t (operator t n op)) es
exprs_at t (Function of n params e) = function_typed t params e ∷ []
exprs_at t (Transform n title q e) = transform_typed t n q e ∷ []
exprs_at t (Productions n rights) = map (right_typed t n) rights
exprs_at t d = []

-- how many expressions of the record a declaration has
abbrev pub expr_count : Decl → ℕ
expr_count (Equations p op locals es) = length es
expr_count (Function of n params e) = 1
expr_count (Transform p title q e) = 1
expr_count (Productions n rights) = length rights
expr_count d = 0

abbrev pub patterns_at : Table → Decl → List kept.Pattern
patterns_at t (Transform n title q e) = pattern.recorded t q ∷ []
patterns_at t d = []

-- the first mismatch of a declaration
abbrev pub mismatch_at_decl : Table → Decl → Option Position
mismatch_at_decl t (Equations n op locals es) = first (equation_mismatch t (operator t n op)) es
mismatch_at_decl t (Function of n params e) = function_mismatch t of params e
mismatch_at_decl t (Transform n title q e) = transform_mismatch t n q e
mismatch_at_decl t (Productions n rights) = first (right_mismatch t n) rights
mismatch_at_decl t d = None

-- those of all declarations
abbrev pub exprs_in : Table → List Decl → List TypedExpr
exprs_in t ds = flat_map (exprs_at t) ds

abbrev pub patterns_in : Table → List Decl → List kept.Pattern
patterns_in t ds = flat_map (patterns_at t) ds

abbrev pub first_mismatch : Table → List Decl → Option Position
first_mismatch t ds = first (mismatch_at_decl t) ds
