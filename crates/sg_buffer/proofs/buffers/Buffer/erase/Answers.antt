use Rattle.sg_buffer.proofs.Methods.{erased_here, held, unerased_here}
use Rattle.sg_buffer.proofs.buffers.Buffer.erase.Goals as goal

pub invariant_of-self : goal.invariant_of-self
invariant_of-self c = (
  (unerased_here (held c.self.inside) c.args.self.now c.self.view_is c.self.inside.nodes c.self.inside.history.room c.self.inside.page c.self.inside.standing c.self.invariant.0
      c.erase.new.open_one (c.erase.ensures.refused c.if-not-erase.true)).0,
  c.self.invariant.1,
)

pub invariant_of-self-2 : goal.invariant_of-self-2
invariant_of-self-2 c = (
  (erased_here (held c.self.inside) c.args.self.now c.self.view_is c.self.inside.nodes c.self.inside.history.room c.self.inside.page c.self.inside.standing c.self.invariant.0
      c.erase.new.open_one (c.erase.ensures.done c.if-not-erase.false)).0,
  c.self.invariant.1,
)

pub returns-clause-done : goal.returns-clause-done
returns-clause-done c = λ same.
    (erased_here (held c.self.inside) c.args.self.now c.self.view_is c.self.inside.nodes c.self.inside.history.room c.self.inside.page c.self.inside.standing c.self.invariant.0
    c.erase.new.open_one (c.erase.ensures.done c.if-not-erase.false)).1
