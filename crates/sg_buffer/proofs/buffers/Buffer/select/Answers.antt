use Rattle.std.specs.Prelude.{IfOk}
use Rattle.std.proofs.Common.{◌≡◌, subst, sym}
use Rattle.std.proofs.lemmas.Option.{same_Some}
use Rattle.sg_states.specs.States as states
use Rattle.sg_buffer.specs.Held.{state_of}
use Rattle.sg_buffer.proofs.Methods.{held, live_of, settles}
use Rattle.sg_buffer.proofs.buffers.Buffer.select.Goals as goal

pub settle-to-requires : goal.settle-to-requires
settle-to-requires c = live_of (held c.self.inside) c.args.self.now c.self.view_is c.self.inside.nodes c.self.inside.history.room c.self.inside.page c.self.inside.standing c.self.invariant.0 c.args.n c.requires.node

pub stand-requires-clause-node : goal.stand-requires-clause-node
stand-requires-clause-node c =
    let f = settles (held c.self.inside) c.args.self.now c.self.view_is c.self.inside.nodes c.self.inside.history.room c.self.inside.page c.self.inside.standing c.self.invariant.0 c.args.n c.settle-to.result c.requires.node.path c.requires.node.climbs c.settle-to.ensures.settled in
    record { path = f.place; climbs = f.way }

pub stand-requires-clause-rests : goal.stand-requires-clause-rests
stand-requires-clause-rests c = (settles (held c.self.inside) c.args.self.now c.self.view_is c.self.inside.nodes c.self.inside.history.room c.self.inside.page c.self.inside.standing c.self.invariant.0 c.args.n c.settle-to.result c.requires.node.path c.requires.node.climbs c.settle-to.ensures.settled).still

pub returns-clause-state : goal.returns-clause-state
returns-clause-state c = λ u way.
    let f = settles (held c.self.inside) c.args.self.now c.self.view_is c.self.inside.nodes c.self.inside.history.room c.self.inside.page c.self.inside.standing c.self.invariant.0 c.args.n c.settle-to.result u way c.settle-to.ensures.settled in
    subst (λ w. IfOk c.stand.result (λ _. state_of c.stand.new.self ≡ states.selected c.args.self.now.grove.spec c.args.self.now.height w (state_of c.args.self.now))) (sym (same_Some _ f.place f.at)) (c.stand.ensures.state f.place f.way)
