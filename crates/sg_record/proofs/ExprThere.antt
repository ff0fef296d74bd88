-- An expression that fits where it stands is well typed at its place in the record.
use Rattle.std.proofs.Common.{◌≡◌, ℕ, true, List, [], ◌∷◌, map, Some, slice_get, ap, ◌∙◌}
use Rattle.std.specs.Prelude.{option_map, option_and_then}
use Rattle.std.proofs.lemmas.Option.{slice_get-map}
use Rattle.sg_kinds.specs.Expressions.{Named}
use Rattle.sg_kinds.specs.Typing.{type_of, is_found, is_typed}
use Rattle.sg_kinds.specs.declared.spec.Spec.{Spec}
use Rattle.sg_kinds.proofs.Elementary.{slice_get-before}
use Rattle.sg_ast.specs.Declarations.{Decl}
use Rattle.sg_names.specs.declared.table.Table.{Table}
use Rattle.sg_typing.specs.declared.bodies.TypedExpr.{TypedExpr}
use Rattle.sg_typing.specs.Bodies.{exprs_in}
use Rattle.sg_record.specs.Record.{recorded_exprs}

pub typed_there : (t : Table) (spec : Spec) (ds : List Decl) → spec.exprs ≡ recorded_exprs t ds → (k : ℕ) (x : TypedExpr) (G : List ℕ) (p : ℕ)
    → slice_get (exprs_in t ds) k ≡ Some x → is_found spec p (type_of spec G x.expr) ≡ true → is_typed spec G k p ≡ true
typed_there t spec ds made k x G p at found =
    let there : slice_get spec.exprs k ≡ Some x.expr =
    ap (λ l. slice_get l k) made
    ∙ slice_get-before (map (λ (y : TypedExpr). y.expr) (exprs_in t ds)) (Named 0 ∷ []) k x.expr (slice_get-map (λ (y : TypedExpr). y.expr) (exprs_in t ds) k ∙ ap (option_map (λ (y : TypedExpr). y.expr)) at) in
    ap (λ o. is_found spec p (option_and_then (type_of spec G) o)) there ∙ found
