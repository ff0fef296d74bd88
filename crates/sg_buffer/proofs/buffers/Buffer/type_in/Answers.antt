use Rattle.sg_buffer.proofs.Methods.{held, typed_here}
use Rattle.sg_buffer.proofs.buffers.Buffer.type_in.Goals as goal

pub invariant_of-self : goal.invariant_of-self
invariant_of-self c = ((typed_here (held c.self.inside) c.args.self.now c.self.view_is c.self.inside.nodes c.self.inside.history.room c.self.inside.page c.self.inside.standing c.self.invariant.0 c.args.bytes.now c.in_ok-capture.capture c.requires.alone c.in_ok-capture.ensures).0, c.self.invariant.1)

pub returns-clause-typed : goal.returns-clause-typed
returns-clause-typed c = (typed_here (held c.self.inside) c.args.self.now c.self.view_is c.self.inside.nodes c.self.inside.history.room c.self.inside.page c.self.inside.standing c.self.invariant.0 c.args.bytes.now c.in_ok-capture.capture c.requires.alone c.in_ok-capture.ensures).1
