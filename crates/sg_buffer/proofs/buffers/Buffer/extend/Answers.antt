use Rattle.std.proofs.Common.{◌≤◌, arith}
use Rattle.sg_states.specs.States.{selected_place}
use Rattle.sg_buffer.specs.Held.{state_of}
use Rattle.sg_buffer.proofs.Methods.{full_here, held, live_now, longer_here, more_here, none_here, placed_now, room_here}
use Rattle.sg_buffer.proofs.buffers.Buffer.extend.Goals as goal

pub spine_of-requires : goal.spine_of-requires
spine_of-requires c = live_now (held c.self.inside) c.self.inside.nodes c.self.inside.history.room c.self.inside.page c.self.inside.standing c.self.invariant.0

pub returns-in_default-clause-told : goal.returns-in_default-clause-told
returns-in_default-clause-told c =
    let b = held c.self.inside in
    none_here (held c.self.inside) c.args.self.now c.self.view_is c.self.inside.nodes c.self.inside.history.room c.self.inside.page c.self.inside.standing c.self.invariant.0 (rw c.in_default.is at (c.spine_of.ensures.leads b.root (state_of b).term (selected_place (state_of b)) (placed_now b c.self.inside.nodes c.self.inside.history.room c.self.inside.page c.self.inside.standing c.self.invariant.0)))

pub returns-then-elements_from-self-clause-told : goal.returns-then-elements_from-self-clause-told
returns-then-elements_from-self-clause-told c =
    let wide : 65536 ≤ 18446744073709551615 = omega arith in
    full_here (held c.self.inside) c.args.self.now c.self.view_is c.self.inside.nodes c.self.inside.history.room c.self.inside.page c.self.inside.standing c.self.invariant.0 c.in-Some.spine c.elements_from.result 18446744073709551615 c.in-Some.ensures.leads c.elements_from.ensures wide c.if-elements_from-self.true

pub invariant_of-self : goal.invariant_of-self
invariant_of-self c =
    let wide : 65536 ≤ 18446744073709551615 = omega arith in
    ((longer_here (held c.self.inside) c.args.self.now c.self.view_is c.self.inside.nodes c.self.inside.history.room c.self.inside.page c.self.inside.standing c.self.invariant.0 c.requires (room_here (held c.self.inside) c.args.self.now c.self.view_is c.self.inside.nodes c.self.inside.history.room c.self.inside.page c.self.inside.standing c.self.invariant.0 c.in-Some.spine c.elements_from.result 18446744073709551615 c.in-Some.ensures.leads c.elements_from.ensures wide c.if-elements_from-self.false)).0, c.self.invariant.1)

pub returns-clause-told : goal.returns-clause-told
returns-clause-told c =
    let wide : 65536 ≤ 18446744073709551615 = omega arith in
    more_here (held c.self.inside) c.args.self.now c.self.view_is c.self.inside.nodes c.self.inside.history.room c.self.inside.page c.self.inside.standing c.self.invariant.0 c.in-Some.spine c.elements_from.result 18446744073709551615 c.in-Some.ensures.leads c.elements_from.ensures wide c.if-elements_from-self.false

pub returns-clause-done : goal.returns-clause-done
returns-clause-done c = λ same.
    let wide : 65536 ≤ 18446744073709551615 = omega arith in
    (longer_here (held c.self.inside) c.args.self.now c.self.view_is c.self.inside.nodes c.self.inside.history.room c.self.inside.page c.self.inside.standing c.self.invariant.0 c.requires (room_here (held c.self.inside) c.args.self.now c.self.view_is c.self.inside.nodes c.self.inside.history.room c.self.inside.page c.self.inside.standing c.self.invariant.0 c.in-Some.spine c.elements_from.result 18446744073709551615 c.in-Some.ensures.leads c.elements_from.ensures wide c.if-elements_from-self.false)).1
