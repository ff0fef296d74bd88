use Rattle.std.proofs.Common.{◌≡◌, sym, ap, subst, ◌∙◌, List, [], ◌∷◌, ◌++◌, map, IfOk}
use Rattle.sg_kinds.specs.Expressions.{Named}
use Rattle.sg_ast.specs.View.{trees_of}
use Rattle.sg_names.specs.declared.table.Table.{Table}
use Rattle.sg_typing.specs.Bodies.{exprs_in}
use Rattle.sg_typing.specs.declared.bodies.TypedExpr.{TypedExpr}
use Rattle.sg_typing.specs.declared.checking.Typed.{Typed}
use Rattle.sg_record.specs.Record.{record_of}
use Rattle.sg_record.specs.RecordView.{ArePartsOf}
use Rattle.sg_record.proofs.record.record.Goals as goal

pub returns : goal.returns
returns c =
    let ds = trees_of c.args.decls.now in
    let same : c.into_table.result ≡ c.args.names = c.into_table.ensures in
    let exprs : c.into_vec-2.result.items ≡ exprs_in c.into_table.result ds = c.into_vec-2.ensures ∙ ap (λ (x : Typed). x.exprs) c.requires ∙ ap (λ (t : Table). exprs_in t ds) (sym same) in
    subst (λ (t : Table). IfOk c.assembled.result (λ spec. spec ≡ record_of t ds c.args.rules c.args.lexemes)) same
    (c.assembled.ensures ds (subst (λ (t : Table). ArePartsOf t ds c.in_ok-parts.parts) (sym same) c.in_ok-parts.ensures) (c.in_ok-exprs.ensures ∙ ap (λ (l : List TypedExpr). map (λ (x : TypedExpr). x.expr) l ++ Named 0 ∷ []) exprs))
