use Rattle.std.proofs.Common.{refl, sym, subst}
use Rattle.std.proofs.lemmas.Result.{err_from_is_err_and}
use Rattle.sg_kinds.specs.Places.{place_of}
use Rattle.sg_eval.specs.Journal.{now_of}
use Rattle.sg_forest.specs.Trees.{Climbs}
use Rattle.sg_groves.specs.Grove.{nodes}
use Rattle.sg_groves.specs.TermAt.{term_at}
use Rattle.sg_exchanges.specs.Turns.{made}
use Rattle.sg_exchanges.proofs.Stepping.{may_here, noted_none, place_then, place_there}
use Rattle.sg_exchanges.proofs.stepped.turned_at.Goals as goal

pub node_at-out-requires-clause-there : goal.node_at-out-requires-clause-there
node_at-out-requires-clause-there c = place_there c.args.terms.now c.facts.ensures c.args.root c.requires.may.0 (place_of c.args.path.now) c.args.what c.requires.may.1 c.args.spot.now c.args.known c.requires.may.2

pub nodes_after-nodes-requires : goal.nodes_after-nodes-requires
nodes_after-nodes-requires c =
    let u = place_of c.args.path.now in
    (c.args.root, c.requires.may.0, u, may_here c.args.terms.now c.facts.ensures c.args.root c.requires.may.0 u c.args.what c.requires.may.1 c.args.spot.now c.args.known c.requires.may.2 c.node_at-out.result c.node_at-out.ensures)

pub turn-requires-clause-may : goal.turn-requires-clause-may
turn-requires-clause-may c =
    let u = place_of c.args.path.now in
    (c.requires.may.0, u, may_here c.args.terms.now c.facts.ensures c.args.root c.requires.may.0 u c.args.what c.requires.may.1 c.args.spot.now c.args.known c.requires.may.2 c.node_at-out.result c.node_at-out.ensures)

pub node_at-selected-requires-clause-root : goal.node_at-selected-requires-clause-root
node_at-selected-requires-clause-root c =
    let u = place_of c.args.path.now in
    let may = c.requires.may in
    (c.in-Ok.ensures.turned may.0 u (may_here c.args.terms.now c.facts.ensures c.args.root may.0 u c.args.what may.1 c.args.spot.now c.args.known may.2 c.node_at-out.result c.node_at-out.ensures)).whole.top

pub node_at-selected-requires-clause-there : goal.node_at-selected-requires-clause-there
node_at-selected-requires-clause-there c =
    let u = place_of c.args.path.now in
    let may = c.requires.may in
    let turned = c.in-Ok.ensures.turned may.0 u (may_here c.args.terms.now c.facts.ensures c.args.root may.0 u c.args.what may.1 c.args.spot.now c.args.known may.2 c.node_at-out.result c.node_at-out.ensures) in
    let there = place_then c.args.terms.now c.facts.ensures c.args.root may.0 u c.args.what may.1 c.args.spot.now c.args.known may.2 in
    (made (term_at c.args.terms.now) may.0 u c.args.what, there.0, turned.whole.holds, there.1)

pub node_at-selected-requires-clause-near : goal.node_at-selected-requires-clause-near
node_at-selected-requires-clause-near c =
    let u = place_of c.args.path.now in
    let may = c.requires.may in
    let here = may_here c.args.terms.now c.facts.ensures c.args.root may.0 u c.args.what may.1 c.args.spot.now c.args.known may.2 c.node_at-out.result c.node_at-out.ensures in
    subst (λ n. Climbs (nodes c.turn.new.terms) u n c.in-Ok.now) (sym c.standing-there.ensures) (c.in-Ok.ensures.there may.0 u here)

pub returns-in_err-to-clause-some : goal.returns-in_err-to-clause-some
returns-in_err-to-clause-some c = λ t height may.
    let p = err_from_is_err_and c.from_residual.result c.from_residual.ensures.1 in
    rw p.1 (noted_none c.args.terms.now c.args.root t (place_of c.args.path.now) c.args.what (now_of c.args.journal.now))

pub returns-in-Ok-clause-stepped : goal.returns-in-Ok-clause-stepped
returns-in-Ok-clause-stepped c = λ t height may.
    let g = c.args.terms.now in
    let u = place_of c.args.path.now in
    let here = may_here g c.facts.ensures c.args.root t u c.args.what height c.args.spot.now c.args.known may c.node_at-out.result c.node_at-out.ensures in
    let turned = c.in-Ok.ensures.turned t u here in
    record {
      way = c.node_at-out.ensures;
      turned = turned;
      counted = c.nodes_after-nodes.ensures c.args.root t u here may.counted may.small may.after;
      selected = c.node_at-selected.ensures;
      path = c.in_ok-to.ensures;
      count = refl;
      top = refl;
      page = tt;
      begins = tt;
    }

pub returns-in-Ok-clause-noted : goal.returns-in-Ok-clause-noted
returns-in-Ok-clause-noted c = λ t height may.
    let u = place_of c.args.path.now in
    c.in-Ok.ensures.noted t u (may_here c.args.terms.now c.facts.ensures c.args.root t u c.args.what height c.args.spot.now c.args.known may c.node_at-out.result c.node_at-out.ensures)

pub returns-in-Err-clause-some : goal.returns-in-Err-clause-some
returns-in-Err-clause-some c = λ t height may.
    let u = place_of c.args.path.now in
    c.in-Err.ensures.some t u (may_here c.args.terms.now c.facts.ensures c.args.root t u c.args.what height c.args.spot.now c.args.known may c.node_at-out.result c.node_at-out.ensures)
