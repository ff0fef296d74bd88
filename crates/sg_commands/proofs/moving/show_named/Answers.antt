use Rattle.std.specs.Prelude.{ℕ, Option, IfOk}
use Rattle.std.proofs.Common.{refl, subst}
use Rattle.sg_script.specs.declared.message.Message.TheVariants as message
use Rattle.sg_states.specs.States.{viewed}
use Rattle.sg_buffer.specs.Held.{state_of}
use Rattle.sg_commands.specs.Did.{Did}
use Rattle.sg_commands.specs.Turn.{becomes, found_or}
use Rattle.sg_commands.proofs.Putting.{refused_did}
use Rattle.sg_commands.proofs.moving.show_named.Goals as goal

pub returns-in-Some-clause-did : goal.returns-in-Some-clause-did
returns-in-Some-clause-did c = λ clip now.
    let b = c.args.buffer.now in
    subst (λ (o : Option ℕ). IfOk c.show_in.result (λ m. Did (found_or clip (state_of b) message.Unknown (λ v. becomes clip (viewed b.grove.spec b.height v (state_of b))) o) m c.show_in.new.buffer clip now now))
    c.in-Some.ensures (c.show_in.ensures.did clip now)

pub returns-in-None-clause-did : goal.returns-in-None-clause-did
returns-in-None-clause-did c = λ clip now.
    let b = c.args.buffer.now in
    subst (λ (o : Option ℕ). Did (found_or clip (state_of b) message.Unknown (λ v. becomes clip (viewed b.grove.spec b.height v (state_of b))) o) message.Unknown b clip now now)
    c.in-None.ensures (refused_did b b clip now now message.Unknown refl refl)
