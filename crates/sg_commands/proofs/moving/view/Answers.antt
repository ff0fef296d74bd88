use Rattle.std.specs.Prelude.{Option, Some, IfOk}
use Rattle.std.proofs.Common.{ap, ◌∙◌, sym, subst}
use Rattle.sg_kinds.specs.Values.{Bytes}
use Rattle.sg_buffer.specs.Held.{state_of}
use Rattle.sg_commands.specs.Did.{Did}
use Rattle.sg_commands.specs.Turns.{views}
use Rattle.sg_commands.proofs.moving.view.Goals as goal

pub returns-in-Some-clause-did : goal.returns-in-Some-clause-did
returns-in-Some-clause-did c = λ clip now.
    let b = c.args.buffer.now in
    subst (λ (o : Option Bytes). IfOk c.show_named.result (λ m. Did (views b.grove.spec b.height clip (state_of b) o) m c.show_named.new.buffer clip now now))
    (ap Some c.as_slice.ensures ∙ sym c.in-Some.is) (c.show_named.ensures.did clip now)

pub returns-in-None-clause-did : goal.returns-in-None-clause-did
returns-in-None-clause-did c = λ clip now.
    let b = c.args.buffer.now in
    subst (λ (o : Option Bytes). IfOk c.show_in.result (λ m. Did (views b.grove.spec b.height clip (state_of b) o) m c.show_in.new.buffer clip now now))
    (sym c.in-None.is) (c.show_in.ensures.did clip now)
