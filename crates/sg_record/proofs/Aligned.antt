-- The expressions of a declaration stand in the record at as many as there are before it.
use Rattle.std.proofs.Common.{◌≡◌, ℕ, ◌+◌, List, [], ◌∷◌, ◌++◌, length, Some, slice_get, refl, sym, ap, ◌∙◌, arith}
use Rattle.std.specs.List.{AllByRecursion as Each}
use Rattle.std.proofs.lemmas.List.{length-map}
use Rattle.sg_kinds.proofs.Elementary.{slice_get-before, slice_get-behind}
use Rattle.sg_ast.specs.Declarations.{Decl, Equations, Function, Transform, Productions}
use Rattle.sg_names.specs.declared.table.Table.{Table}
use Rattle.sg_typing.specs.declared.bodies.TypedExpr.{TypedExpr}
use Rattle.sg_typing.specs.Bodies.{expr_count, operator, equation_typed, right_typed, exprs_at, exprs_in}
use Rattle.sg_record.specs.Record.{each_from}
use Rattle.sg_record.proofs.Lists.{each_append}

pub exprs_counted : (t : Table) (d : Decl) → length (exprs_at t d) ≡ expr_count d
exprs_counted t (Equations n op locals es) = length-map es (equation_typed t (operator t n op))
exprs_counted t (Productions n rights) = length-map rights (right_typed t n)
exprs_counted t (Function of n params e) = refl
exprs_counted t (Transform n title q e) = refl
exprs_counted t d = refl

-- these stand in a list from a place on
abbrev pub StandAt : List TypedExpr → ℕ → List TypedExpr → Type 0
StandAt all k part = (j : ℕ) (x : TypedExpr) → slice_get part j ≡ Some x → slice_get all (k + j) ≡ Some x

front : (all : List TypedExpr) (k : ℕ) (xs ys : List TypedExpr) → StandAt all k (xs ++ ys) → StandAt all k xs
front all k xs ys at j x h = at j x (slice_get-before xs ys j x h)

back : (all : List TypedExpr) (k n : ℕ) (xs ys : List TypedExpr) → length xs ≡ n → StandAt all k (xs ++ ys) → StandAt all (k + n) ys
back all k n xs ys count at j x h =
    let e : k + n + j ≡ k + (n + j) = omega arith in
    let g : slice_get (xs ++ ys) (n + j) ≡ Some x = ap (λ m. slice_get (xs ++ ys) (m + j)) (sym count) ∙ slice_get-behind xs ys j ∙ h in
    ap (slice_get all) e ∙ at (n + j) x g

module _ {A : Type 0} (t : Table) (all : List TypedExpr) (f : ℕ → Decl → List A) (P : A → Type 0) (Q : Decl → Type 0) (step : (k : ℕ) (d : Decl) → Q d → StandAt all k (exprs_at t d) → Each P (f k d)) where
  each_at_all : (k : ℕ) (ds : List Decl) → Each Q ds → StandAt all k (exprs_in t ds) → Each P (each_from f k ds)
  each_at_all k [] q at = tt
  each_at_all k (d ∷ ds) q at =
      each_append P (f k d) (each_from f (k + expr_count d) ds) (step k d q.0 (front all k (exprs_at t d) (exprs_in t ds) at))
      (each_at_all (k + expr_count d) ds q.1 (back all k (expr_count d) (exprs_at t d) (exprs_in t ds) (exprs_counted t d) at))

-- what holds of what each declaration gives holds of what all give
pub each_given : {A : Type 0} (t : Table) (ds : List Decl) (f : ℕ → Decl → List A) (P : A → Type 0) (Q : Decl → Type 0) → ((k : ℕ) (d : Decl) → Q d → StandAt (exprs_in t ds) k (exprs_at t d) → Each P (f k d))
    → Each Q ds → Each P (each_from f 0 ds)
each_given t ds f P Q step q = each_at_all t (exprs_in t ds) f P Q step 0 ds q (λ j x h. let e : 0 + j ≡ j = omega arith in ap (slice_get (exprs_in t ds)) e ∙ h)
