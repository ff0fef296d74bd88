use Rattle.sg_buffer.proofs.Methods.{held, shorter_here}
use Rattle.sg_buffer.proofs.buffers.Buffer.shrink.Goals as goal

pub invariant_of-self : goal.invariant_of-self
invariant_of-self c = ((shorter_here (held c.self.inside) c.args.self.now c.self.view_is c.self.inside.nodes c.self.inside.history.room c.self.inside.page c.self.inside.standing c.self.invariant.0 c.requires c.if-self-eq1.false).0, c.self.invariant.1)

pub returns-clause-done : goal.returns-clause-done
returns-clause-done c = λ same. (shorter_here (held c.self.inside) c.args.self.now c.self.view_is c.self.inside.nodes c.self.inside.history.room c.self.inside.page c.self.inside.standing c.self.invariant.0 c.requires c.if-self-eq1.false).1
