use Rattle.std.proofs.Common.{refl}
use Rattle.sg_states.specs.States as states
use Rattle.sg_buffer.specs.Held.{state_of}
use Rattle.sg_buffer.proofs.Going.{answered_none, answered_some}
use Rattle.sg_buffer.proofs.Methods.{gone, held, live_now, stays}
use Rattle.sg_buffer.proofs.buffers.Buffer.go.Goals as goal

pub target-requires : goal.target-requires
target-requires c = live_now (held c.self.inside) c.self.inside.nodes c.self.inside.history.room c.self.inside.page c.self.inside.standing c.self.invariant.0

pub stand-requires-clause-node : goal.stand-requires-clause-node
stand-requires-clause-node c =
    let f = gone (held c.self.inside) c.args.self.now c.self.view_is c.self.inside.nodes c.self.inside.history.room c.self.inside.page c.self.inside.standing c.self.invariant.0 c.args.to c.in-Some.n c.in-Some.ensures.leads in
    record { path = f.place; climbs = f.way }

pub stand-requires-clause-rests : goal.stand-requires-clause-rests
stand-requires-clause-rests c = (gone (held c.self.inside) c.args.self.now c.self.view_is c.self.inside.nodes c.self.inside.history.room c.self.inside.page c.self.inside.standing c.self.invariant.0 c.args.to c.in-Some.n c.in-Some.ensures.leads).still

pub returns-in_ok-stand-in-Some-clause-none : goal.returns-in_ok-stand-in-Some-clause-none
returns-in_ok-stand-in-Some-clause-none c =
    let v = c.args.self.now in
    let f = gone (held c.self.inside) c.args.self.now c.self.view_is c.self.inside.nodes c.self.inside.history.room c.self.inside.page c.self.inside.standing c.self.invariant.0 c.args.to c.in-Some.n c.in-Some.ensures.leads in
    answered_some (λ w. states.selected v.grove.spec v.height w (state_of v)) _ f.place _ _ f.at (refl, c.in_ok-stand-in-Some.ensures.state f.place f.way)

pub returns-in-None-clause-none : goal.returns-in-None-clause-none
returns-in-None-clause-none c =
    let v = c.args.self.now in
    answered_none (λ w. states.selected v.grove.spec v.height w (state_of v)) _ _ _ (stays (held c.self.inside) c.args.self.now c.self.view_is c.self.inside.nodes c.self.inside.history.room c.self.inside.page c.self.inside.standing c.self.invariant.0 c.args.to c.in-None.ensures.leads) (refl, refl)
