use Rattle.std.proofs.lemmas.Result.{err_from_is_err_and}
use Rattle.sg_kinds.specs.Places.{place_of}
use Rattle.sg_exchanges.proofs.Stepping.{may_here, place_there, stepped_to}
use Rattle.sg_exchanges.proofs.stepped.settled_at.Goals as goal

pub node_at-out-requires-clause-there : goal.node_at-out-requires-clause-there
node_at-out-requires-clause-there c =
    let m = c.requires.may in
    place_there c.args.terms.now c.facts.ensures c.args.root m.0 (place_of c.args.path.now) c.args.what c.args.height c.args.spot.now c.args.known m.1

pub nodes_after-nodes-requires : goal.nodes_after-nodes-requires
nodes_after-nodes-requires c =
    let u = place_of c.args.path.now in
    let m = c.requires.may in
    (c.args.root, m.0, u, may_here c.args.terms.now c.facts.ensures c.args.root m.0 u c.args.what c.args.height c.args.spot.now c.args.known m.1 c.node_at-out.result c.node_at-out.ensures)

pub turned_anew-requires-clause-may : goal.turned_anew-requires-clause-may
turned_anew-requires-clause-may c =
    let u = place_of c.args.path.now in
    let m = c.requires.may in
    (m.0, may_here c.args.terms.now c.facts.ensures c.args.root m.0 u c.args.what c.args.height c.args.spot.now c.args.known m.1 c.node_at-out.result c.node_at-out.ensures)

pub returns-in_err-turned-clause-some : goal.returns-in_err-turned-clause-some
returns-in_err-turned-clause-some c = λ t may.
    let u = place_of c.args.path.now in
    let p = err_from_is_err_and c.from_residual.result c.from_residual.ensures.1 in
    rw p.1 (c.in_err-turned.ensures.some t (may_here c.args.terms.now c.facts.ensures c.args.root t u c.args.what c.args.height c.args.spot.now c.args.known may c.node_at-out.result c.node_at-out.ensures))

pub returns-clause-stepped : goal.returns-clause-stepped
returns-clause-stepped c = λ t may.
    let g = c.args.terms.now in
    let u = place_of c.args.path.now in
    let here = may_here g c.facts.ensures c.args.root t u c.args.what c.args.height c.args.spot.now c.args.known may c.node_at-out.result c.node_at-out.ensures in
    stepped_to g c.turned_anew.new.terms c.args.root c.node_at-out.result c.args.what t u c.args.height c.nodes_after-nodes.result c.args.spot.now c.in_ok-turned.turned c.node_at-out.ensures
    (c.nodes_after-nodes.ensures c.args.root t u here may.counted may.small may.after) (c.in_ok-turned.ensures.turned t here)

pub returns-clause-noted : goal.returns-clause-noted
returns-clause-noted c = λ t may.
    let u = place_of c.args.path.now in
    c.in_ok-turned.ensures.noted t (may_here c.args.terms.now c.facts.ensures c.args.root t u c.args.what c.args.height c.args.spot.now c.args.known may c.node_at-out.result c.node_at-out.ensures)
