use Rattle.std.proofs.Common.{◌≡◌, sym, ap, ◌∙◌, subst}
use Rattle.std.specs.Prelude.{unwrap_or}
use Rattle.sg_kinds.specs.Evaluation.{untyped}
use Rattle.sg_kinds.specs.Terms.{Term, Leaf}
use Rattle.sg_pool.specs.Pools.{value_at}
use Rattle.sg_groves.specs.Grove.{spec_shown}
use Rattle.sg_groves.specs.Holds.{Holds}
use Rattle.sg_unparse.specs.Along.{node_along, own_in}
use Rattle.sg_unparse.specs.Cells.{plain}
use Rattle.sg_unparse.specs.Printing.{value_text}
use Rattle.sg_unparse.specs.Written.{Wrote}
use Rattle.sg_unparse.proofs.Placed.{leaf_number, leaf_of, term_op}
use Rattle.sg_unparse.proofs.Viewed.{text_in_view}
use Rattle.sg_unparse.proofs.unparsing.leaf.Goals as goal

pub stored-id-requires : goal.stored-id-requires
stored-id-requires c = leaf_number c.args.shown.now.terms.now c.facts.ensures c.args.n c.requires.live c.requires.op

pub returns : goal.returns
returns c = λ root u t a.
    let g = c.args.shown.now.terms.now in
    let op = sym (term_op g c.facts.ensures c.args.n c.requires.live t a.holds) ∙ c.requires.op in
    let l = leaf_of t op in
    let h = subst (Holds g c.args.n) l.2 a.holds in
    let q = (c.phylum-p.ensures.term (Leaf l.0 l.1) h).0 in
    let v = c.stored-id.ensures.leaf l.0 l.1 h in
    let e : value_text g.spec c.phylum-p.result (value_at g.pool c.stored-id.result) ≡ value_text (spec_shown g) l.0 l.1 =
    ap (λ p. value_text g.spec p (value_at g.pool c.stored-id.result)) (sym q) ∙ ap (λ w. value_text g.spec l.0 (unwrap_or w untyped)) v
    ∙ text_in_view g.spec g.view l.0 l.1 in
    subst (λ (x : Term). Wrote (node_along g root) c.args.w.now c.value.new.w (own_in g root c.args.shown.now.captured c.args.shown.now.text.now u x)) (sym l.2)
    (subst (λ s. Wrote (node_along g root) c.args.w.now c.value.new.w (plain u s)) e (c.in_ok-value.ensures (node_along g root) u a.along))
