use Rattle.std.proofs.Common.{sym, subst, ◌∙◌}
use Rattle.sg_buffer.specs.Held.{state_of}
use Rattle.sg_commands.specs.Did.{Did}
use Rattle.sg_commands.specs.Turns.{erases}
use Rattle.sg_commands.proofs.Captures.{erased_did}
use Rattle.sg_commands.proofs.typing.erase.Goals as goal

pub returns-clause-did : goal.returns-clause-did
returns-clause-did c = λ x some clip now.
    let b = c.args.buffer.now in
    let e = c.erase.ensures in
    subst (λ m. Did (erases clip (state_of b) x) m c.erase.new.self clip now now) (sym c.said.ensures)
    (erased_did b c.erase.new.self clip now x (c.facts.ensures.capture ∙ some) c.erase.result e.none e.refused e.done)
