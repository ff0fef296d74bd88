use Rattle.sg_buffer.proofs.Methods.{held, known_here}
use Rattle.sg_buffer.proofs.buffers.Buffer.beginning.Goals as goal

pub returns-in-Some : goal.returns-in-Some
returns-in-Some c = known_here (held c.self.inside) c.args.self.now c.self.view_is c.self.inside.nodes c.self.inside.history.room c.self.inside.page c.self.inside.standing c.self.invariant.0 c.in-Some.begins c.in-Some.is
