use Rattle.std.proofs.Common.{◌≡◌, refl, sym, ◌∙◌, subst, arith, None}
use Rattle.sg_lalr.specs.Items.{symbol_of}
use Rattle.sg_lalr.specs.Lookaheads.{node_at}
use Rattle.sg_lalr.specs.Reductions.{Reduction}
use Rattle.sg_lalr.proofs.ClashLemmas.{is_none-None, is_none-Some}
use Rattle.sg_lalr.proofs.ReductionLemmas.{Reducing, reducing-none, reducing-more, reducing-same}
use Rattle.sg_lalr.proofs.reductions.reductions_of.Goals as goal
use Rattle.sg_lalr.proofs.reductions.reductions_of.Goals.{then-is_none+in_ok-copy+in_ok-push, else-is_none}

pub loop-m-init : goal.loop-m-init
loop-m-init c = rw c.new-found.ensures.items (reducing-none c.args.g.now c.args.nodes.now c.args.rows.now.rows c.args.from)

pub loop-m-preserved : goal.loop-m-preserved
loop-m-preserved c =
    let g = c.args.g.now in
    let nodes = c.args.nodes.now in
    let rows = c.args.rows.now.rows in
    let m = c.loop-m.m in
    let symbol = c.symbol_of.ensures.symbol in
    elim c.if-is_none.branch [
      | then-is_none+in_ok-copy+in_ok-push w ↦ rw w.found-is (
          let none : symbol_of g (node_at nodes m).item ≡ None = sym symbol ∙ is_none-None c.symbol_of.result c.is_none.result c.is_none.ensures w.if-is_none.true in
          let r : Reduction = record { production = (node_at nodes m).item.production; on = w.in_ok-copy.field-0 } in
          rw w.in_ok-push.ensures.items (reducing-more g nodes rows c.args.from m c.loop-m.found.items r (omega arith) none refl (w.in_ok-copy.ensures ∙ w.row.ensures.row) c.loop-m.invariant))
      | else-is_none w ↦ rw w.found-is (reducing-same g nodes rows c.args.from m c.loop-m.found.items (λ e. is_none-Some c.symbol_of.result c.is_none.result c.is_none.ensures w.if-is_none.false (symbol ∙ e)) c.loop-m.invariant)
    ]

pub returns : goal.returns
returns c = subst (λ n. Reducing c.args.g.now c.args.nodes.now c.args.rows.now.rows c.args.from n c.loop-m.found.items) (omega (arith, c.requires.order)) c.loop-m.invariant
