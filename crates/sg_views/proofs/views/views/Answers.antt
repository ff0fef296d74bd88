use Rattle.std.proofs.Common.{◌≡◌, ◌∷◌, [], ◌++◌, map, take, sym, ap, ◌∙◌, arith}
use Rattle.std.proofs.lemmas.List.{map_more, take_all}
use Rattle.sg_ast.specs.View.{trees_of}
use Rattle.sg_views.specs.Views.{row_of}
use Rattle.sg_views.proofs.ViewRows.{views_made}
use Rattle.sg_views.proofs.views.views.Goals as goal

pub loop-view-preserved : goal.loop-view-preserved
loop-view-preserved c =
    let row = row_of c.args.names.now (trees_of c.args.decls.now) in
    let items = c.deref-view-items.result.now in
    c.in_ok-push.ensures.items
    ∙ (λ i. c.loop-view.invariant i ++ (c.in_ok-row.ensures ∙ ap row c.view-item.is) i ∷ [])
    ∙ sym (map_more row items c.loop-view.view-index c.view-item.result (omega (arith, c.loop-view-test.true)))

pub returns : goal.returns
returns c =
    let ds = trees_of c.args.decls.now in
    let items = c.deref-view-items.result.now in
    let all : take c.loop-view.view-index items ≡ items = take_all c.loop-view.view-index items (omega (arith, c.loop-view-test.false)) in
    views_made c.args.names.now ds c.new.result c.new-2.result (c.new.ensures ∙ c.in_ok-found.ensures)
    (c.new-2.ensures ∙ c.loop-view.invariant ∙ ap (map (row_of c.args.names.now ds)) (all ∙ c.deref-view-items.ensures.value ∙ sym c.new.ensures))
