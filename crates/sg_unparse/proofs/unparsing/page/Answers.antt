use Rattle.std.proofs.Common.{[]}
use Rattle.sg_unparse.specs.Along.{node_along}
use Rattle.sg_groves.proofs.Held.{live_holds}
use Rattle.sg_unparse.proofs.Items.{page_written}
use Rattle.sg_unparse.proofs.unparsing.page.Goals as goal
use Rattle.std.proofs.Common.{refl}

pub of-requires : goal.of-requires
of-requires c =
    let g = c.args.shown.now.terms.now in
    let t = live_holds g c.facts.ensures c.args.n c.requires in
    let w = (c.in_ok-node.ensures c.args.n [] t.0 (record { along = refl; holds = t.1 })).behind [] 0 (c.in_ok-w.ensures (node_along g c.args.n)) in
    w.kept

pub returns : goal.returns
returns c = λ root u t a.
    let g = c.args.shown.now.terms.now in
    let w = (c.in_ok-node.ensures root u t a).behind [] 0 (c.in_ok-w.ensures (node_along g root)) in
    page_written (node_along g root) c.node.new.w _ _ c.of.result w c.of.ensures
