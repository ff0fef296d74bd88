use Rattle.std.proofs.Common.{◌≡◌, sym, ap, ◌∙◌, subst}
use Rattle.std.specs.Prelude.{unwrap_or}
use Rattle.std.specs.Option.{is_some}
use Rattle.sg_kinds.specs.declared.spec.Spec.{Spec}
use Rattle.sg_kinds.specs.Typing.{slot_type}
use Rattle.sg_kinds.proofs.InView.{slot_type_in_view}
use Rattle.sg_pool.specs.Pools.{value_at}
use Rattle.sg_groves.specs.Grove.{spec_shown}
use Rattle.sg_unparse.specs.Along.{node_along, stored}
use Rattle.sg_unparse.specs.Cells.{plain, reference}
use Rattle.sg_unparse.specs.Printing.{value_text}
use Rattle.sg_unparse.specs.Written.{Wrote}
use Rattle.sg_unparse.proofs.Placed.{occurrence_stored, number_there, value_is}
use Rattle.sg_unparse.proofs.Viewed.{text_in_view}
use Rattle.sg_unparse.proofs.unparsing.show.Goals as goal

pub there-m-requires-clause-there : goal.there-m-requires-clause-there
there-m-requires-clause-there c =
    let it = occurrence_stored c.args.shown.now.terms.now c.facts.ensures c.args.site.now.node c.args.site.now.op c.requires.op c.args.o c.requires.typed in
    ap is_some it.1.there

pub stored-id-requires : goal.stored-id-requires
stored-id-requires c =
    let g = c.args.shown.now.terms.now in
    let it = occurrence_stored g c.facts.ensures c.args.site.now.node c.args.site.now.op c.requires.op c.args.o c.requires.typed in
    number_there g c.facts.ensures c.args.site.now.node c.there-m.result c.args.o it.0 it.1 c.there-m.ensures

pub returns : goal.returns
returns c = λ root u a.
    let g = c.args.shown.now.terms.now in
    let v = value_is g root u c.args.site.now.node c.there-m.result c.args.o c.stored-id.result a c.there-m.ensures c.stored-id.ensures.number in
    let op = c.args.site.now.op in
    let o = c.args.o in
    let p : c.type_at-p.result ≡ unwrap_or (slot_type (spec_shown g) op o.at o.slot) 0 =
    c.type_at-p.ensures ∙ ap (λ (s : Spec). unwrap_or (slot_type s op o.at o.slot) 0) c.spec.ensures ∙ ap (λ q. unwrap_or q 0) (sym (slot_type_in_view g.spec g.view op o.at o.slot)) in
    let e : value_text g.spec c.type_at-p.result (value_at g.pool c.stored-id.result) ≡ value_text (spec_shown g) (unwrap_or (slot_type (spec_shown g) op o.at o.slot) 0) (stored g root (reference u o)) =
    text_in_view g.spec g.view c.type_at-p.result (value_at g.pool c.stored-id.result)
    ∙ ap (λ q. value_text (spec_shown g) q (value_at g.pool c.stored-id.result)) p ∙ ap (value_text (spec_shown g) (unwrap_or (slot_type (spec_shown g) op o.at o.slot) 0)) (sym v) in
    subst (λ s. Wrote (node_along g root) c.args.w.now c.value.new.w (plain u s)) e (c.in_ok-value.ensures (node_along g root) u a)
