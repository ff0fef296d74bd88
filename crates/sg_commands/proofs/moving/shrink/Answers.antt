use Rattle.std.proofs.Common.{sym, subst}
use Rattle.sg_buffer.specs.Held.{state_of}
use Rattle.sg_commands.specs.Did.{Did}
use Rattle.sg_commands.specs.Turns.{shrinks}
use Rattle.sg_commands.proofs.Captures.{shrunk_did}
use Rattle.sg_commands.proofs.moving.shrink.Goals as goal

pub returns-clause-did : goal.returns-clause-did
returns-clause-did c = λ clip now.
    let b = c.args.buffer.now in
    let e = c.shrink.ensures in
    subst (λ m. Did (shrinks clip (state_of b)) m c.shrink.new.self clip now now) (sym c.said.ensures)
    (shrunk_did b c.shrink.new.self clip now c.shrink.result e.one e.refused e.done)
