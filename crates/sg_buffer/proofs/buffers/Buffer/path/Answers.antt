use Rattle.sg_buffer.proofs.Methods.{held, path_here}
use Rattle.sg_buffer.proofs.buffers.Buffer.path.Goals as goal

pub returns : goal.returns
returns c = path_here (held c.self.inside) c.args.self.now c.self.view_is c.self.inside.nodes c.self.inside.history.room c.self.inside.page c.self.inside.standing c.self.invariant.0
