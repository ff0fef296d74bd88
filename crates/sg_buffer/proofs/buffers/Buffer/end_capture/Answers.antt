use Rattle.sg_buffer.proofs.Methods.{ended_here, held}
use Rattle.sg_buffer.proofs.buffers.Buffer.end_capture.Goals as goal

pub invariant_of-self : goal.invariant_of-self
invariant_of-self c = ((ended_here (held c.self.inside) c.args.self.now c.self.view_is c.self.inside.nodes c.self.inside.history.room c.self.inside.page c.self.inside.standing c.self.invariant.0).0, c.self.invariant.1)

pub returns-clause-ended : goal.returns-clause-ended
returns-clause-ended c = (ended_here (held c.self.inside) c.args.self.now c.self.view_is c.self.inside.nodes c.self.inside.history.room c.self.inside.page c.self.inside.standing c.self.invariant.0).1
