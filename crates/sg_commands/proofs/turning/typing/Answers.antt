use Rattle.std.specs.Prelude.{IfOk, OnErr}
use Rattle.std.proofs.Common.{refl, sym, subst}
use Rattle.sg_eval.specs.Journal.{now_of}
use Rattle.sg_buffer.specs.Held.{state_of}
use Rattle.sg_script.specs.declared.message.Message.TheVariants as message
use Rattle.sg_commands.specs.Did.{Did, GaveUp}
use Rattle.sg_commands.specs.Turn.{found_or}
use Rattle.sg_commands.specs.Turns.{enters_captured, typing_turn}
use Rattle.sg_commands.proofs.Alike.{typing_stays, typing_waits}
use Rattle.sg_commands.proofs.Captures.{alone_here}
use Rattle.sg_commands.proofs.Putting.{refused_did}
use Rattle.sg_commands.proofs.turning.typing.Goals as goal

pub type_in-requires : goal.type_in-requires
type_in-requires c = alone_here c.args.buffer.now c.facts.ensures c.requires.open

pub returns-in-Enter-clause-did : goal.returns-in-Enter-clause-did
returns-in-Enter-clause-did c = λ x at reads are clip.
    let b = c.args.buffer.now in
    let was = now_of c.args.journal.now in
    subst (λ k. IfOk c.enter_typed.result (λ m. Did (typing_turn b.grove.spec b.height reads clip (state_of b) x k) m c.enter_typed.new.buffer clip was (now_of c.enter_typed.new.journal)))
    (sym c.in-Enter.is)
    (subst (λ o. IfOk c.enter_typed.result (λ m. Did (found_or clip (state_of b) message.NotInText (λ y. enters_captured b.grove.spec b.height clip (state_of b) (λ entry. reads entry y.text)) o) m c.enter_typed.new.buffer clip was (now_of c.enter_typed.new.journal)))
    at (c.enter_typed.ensures.did clip reads are))

pub returns-in-Enter-clause-gave_up : goal.returns-in-Enter-clause-gave_up
returns-in-Enter-clause-gave_up c = λ x at reads are clip.
    let b = c.args.buffer.now in
    let was = now_of c.args.journal.now in
    subst (λ k. OnErr c.enter_typed.result (GaveUp b.grove.spec (typing_turn b.grove.spec b.height reads clip (state_of b) x k) b c.enter_typed.new.buffer clip clip was (now_of c.enter_typed.new.journal)))
    (sym c.in-Enter.is)
    (subst (λ o. OnErr c.enter_typed.result (GaveUp b.grove.spec (found_or clip (state_of b) message.NotInText (λ y. enters_captured b.grove.spec b.height clip (state_of b) (λ entry. reads entry y.text)) o) b c.enter_typed.new.buffer clip clip was (now_of c.enter_typed.new.journal)))
    at (c.enter_typed.ensures.gave_up clip reads are))

pub returns-in-Abandon-clause-did : goal.returns-in-Abandon-clause-did
returns-in-Abandon-clause-did c = λ x at reads are clip.
    let b = c.args.buffer.now in
    let was = now_of c.args.journal.now in
    subst (λ k. Did (typing_turn b.grove.spec b.height reads clip (state_of b) x k) c.abandon.result c.abandon.new.buffer clip was was)
    (sym c.in-Abandon.is) (c.abandon.ensures.did clip was)

pub returns-in-New-clause-did : goal.returns-in-New-clause-did
returns-in-New-clause-did c = λ x at reads are clip.
    let b = c.args.buffer.now in
    let was = now_of c.args.journal.now in
    subst (λ t. Did t message.Fine b clip was was)
    (sym (typing_stays b.grove.spec b.height reads clip (state_of b) c.args.command.now x c.in-New.is)) (refused_did b b clip was was message.Fine refl refl)

pub returns-in-New-2-clause-did : goal.returns-in-New-2-clause-did
returns-in-New-2-clause-did c = λ x at reads are clip.
    let b = c.args.buffer.now in
    let was = now_of c.args.journal.now in
    subst (λ t. Did t message.Fine b clip was was)
    (sym (typing_stays b.grove.spec b.height reads clip (state_of b) c.args.command.now x c.in-New.is)) (refused_did b b clip was was message.Fine refl refl)

pub returns-in-New-3-clause-did : goal.returns-in-New-3-clause-did
returns-in-New-3-clause-did c = λ x at reads are clip.
    let b = c.args.buffer.now in
    let was = now_of c.args.journal.now in
    subst (λ t. Did t message.Fine b clip was was)
    (sym (typing_stays b.grove.spec b.height reads clip (state_of b) c.args.command.now x c.in-New.is)) (refused_did b b clip was was message.Fine refl refl)

pub returns-in-New-4-clause-did : goal.returns-in-New-4-clause-did
returns-in-New-4-clause-did c = λ x at reads are clip.
    let b = c.args.buffer.now in
    let was = now_of c.args.journal.now in
    subst (λ t. Did t message.Fine b clip was was)
    (sym (typing_stays b.grove.spec b.height reads clip (state_of b) c.args.command.now x c.in-New.is)) (refused_did b b clip was was message.Fine refl refl)

pub returns-in-New-5-clause-did : goal.returns-in-New-5-clause-did
returns-in-New-5-clause-did c = λ x at reads are clip.
    let b = c.args.buffer.now in
    let was = now_of c.args.journal.now in
    subst (λ t. Did t message.Fine b clip was was)
    (sym (typing_stays b.grove.spec b.height reads clip (state_of b) c.args.command.now x c.in-New.is)) (refused_did b b clip was was message.Fine refl refl)

pub returns-in-New-6-clause-did : goal.returns-in-New-6-clause-did
returns-in-New-6-clause-did c = λ x at reads are clip.
    let b = c.args.buffer.now in
    let was = now_of c.args.journal.now in
    subst (λ t. Did t message.Fine b clip was was)
    (sym (typing_stays b.grove.spec b.height reads clip (state_of b) c.args.command.now x c.in-New.is)) (refused_did b b clip was was message.Fine refl refl)

pub returns-in-Next-clause-did : goal.returns-in-Next-clause-did
returns-in-Next-clause-did c = λ x at reads are clip.
    let b = c.args.buffer.now in
    let was = now_of c.args.journal.now in
    subst (λ t. Did t message.InText b clip was was)
    (sym (typing_waits b.grove.spec b.height reads clip (state_of b) c.args.command.now x c.in-Next.is)) (refused_did b b clip was was message.InText refl refl)

pub returns-in-Next-2-clause-did : goal.returns-in-Next-2-clause-did
returns-in-Next-2-clause-did c = λ x at reads are clip.
    let b = c.args.buffer.now in
    let was = now_of c.args.journal.now in
    subst (λ t. Did t message.InText b clip was was)
    (sym (typing_waits b.grove.spec b.height reads clip (state_of b) c.args.command.now x c.in-Next.is)) (refused_did b b clip was was message.InText refl refl)

pub returns-in-Next-3-clause-did : goal.returns-in-Next-3-clause-did
returns-in-Next-3-clause-did c = λ x at reads are clip.
    let b = c.args.buffer.now in
    let was = now_of c.args.journal.now in
    subst (λ t. Did t message.InText b clip was was)
    (sym (typing_waits b.grove.spec b.height reads clip (state_of b) c.args.command.now x c.in-Next.is)) (refused_did b b clip was was message.InText refl refl)

pub returns-in-Next-4-clause-did : goal.returns-in-Next-4-clause-did
returns-in-Next-4-clause-did c = λ x at reads are clip.
    let b = c.args.buffer.now in
    let was = now_of c.args.journal.now in
    subst (λ t. Did t message.InText b clip was was)
    (sym (typing_waits b.grove.spec b.height reads clip (state_of b) c.args.command.now x c.in-Next.is)) (refused_did b b clip was was message.InText refl refl)

pub returns-in-Next-5-clause-did : goal.returns-in-Next-5-clause-did
returns-in-Next-5-clause-did c = λ x at reads are clip.
    let b = c.args.buffer.now in
    let was = now_of c.args.journal.now in
    subst (λ t. Did t message.InText b clip was was)
    (sym (typing_waits b.grove.spec b.height reads clip (state_of b) c.args.command.now x c.in-Next.is)) (refused_did b b clip was was message.InText refl refl)

pub returns-in-Next-6-clause-did : goal.returns-in-Next-6-clause-did
returns-in-Next-6-clause-did c = λ x at reads are clip.
    let b = c.args.buffer.now in
    let was = now_of c.args.journal.now in
    subst (λ t. Did t message.InText b clip was was)
    (sym (typing_waits b.grove.spec b.height reads clip (state_of b) c.args.command.now x c.in-Next.is)) (refused_did b b clip was was message.InText refl refl)

pub returns-in-Next-7-clause-did : goal.returns-in-Next-7-clause-did
returns-in-Next-7-clause-did c = λ x at reads are clip.
    let b = c.args.buffer.now in
    let was = now_of c.args.journal.now in
    subst (λ t. Did t message.InText b clip was was)
    (sym (typing_waits b.grove.spec b.height reads clip (state_of b) c.args.command.now x c.in-Next.is)) (refused_did b b clip was was message.InText refl refl)

pub returns-in-Next-8-clause-did : goal.returns-in-Next-8-clause-did
returns-in-Next-8-clause-did c = λ x at reads are clip.
    let b = c.args.buffer.now in
    let was = now_of c.args.journal.now in
    subst (λ t. Did t message.InText b clip was was)
    (sym (typing_waits b.grove.spec b.height reads clip (state_of b) c.args.command.now x c.in-Next.is)) (refused_did b b clip was was message.InText refl refl)

pub returns-in-Next-9-clause-did : goal.returns-in-Next-9-clause-did
returns-in-Next-9-clause-did c = λ x at reads are clip.
    let b = c.args.buffer.now in
    let was = now_of c.args.journal.now in
    subst (λ t. Did t message.InText b clip was was)
    (sym (typing_waits b.grove.spec b.height reads clip (state_of b) c.args.command.now x c.in-Next.is)) (refused_did b b clip was was message.InText refl refl)

pub returns-in-Next-10-clause-did : goal.returns-in-Next-10-clause-did
returns-in-Next-10-clause-did c = λ x at reads are clip.
    let b = c.args.buffer.now in
    let was = now_of c.args.journal.now in
    subst (λ t. Did t message.InText b clip was was)
    (sym (typing_waits b.grove.spec b.height reads clip (state_of b) c.args.command.now x c.in-Next.is)) (refused_did b b clip was was message.InText refl refl)

pub returns-in-Next-11-clause-did : goal.returns-in-Next-11-clause-did
returns-in-Next-11-clause-did c = λ x at reads are clip.
    let b = c.args.buffer.now in
    let was = now_of c.args.journal.now in
    subst (λ t. Did t message.InText b clip was was)
    (sym (typing_waits b.grove.spec b.height reads clip (state_of b) c.args.command.now x c.in-Next.is)) (refused_did b b clip was was message.InText refl refl)

pub returns-in-Next-12-clause-did : goal.returns-in-Next-12-clause-did
returns-in-Next-12-clause-did c = λ x at reads are clip.
    let b = c.args.buffer.now in
    let was = now_of c.args.journal.now in
    subst (λ t. Did t message.InText b clip was was)
    (sym (typing_waits b.grove.spec b.height reads clip (state_of b) c.args.command.now x c.in-Next.is)) (refused_did b b clip was was message.InText refl refl)

pub returns-in-Next-13-clause-did : goal.returns-in-Next-13-clause-did
returns-in-Next-13-clause-did c = λ x at reads are clip.
    let b = c.args.buffer.now in
    let was = now_of c.args.journal.now in
    subst (λ t. Did t message.InText b clip was was)
    (sym (typing_waits b.grove.spec b.height reads clip (state_of b) c.args.command.now x c.in-Next.is)) (refused_did b b clip was was message.InText refl refl)

pub returns-in-Next-14-clause-did : goal.returns-in-Next-14-clause-did
returns-in-Next-14-clause-did c = λ x at reads are clip.
    let b = c.args.buffer.now in
    let was = now_of c.args.journal.now in
    subst (λ t. Did t message.InText b clip was was)
    (sym (typing_waits b.grove.spec b.height reads clip (state_of b) c.args.command.now x c.in-Next.is)) (refused_did b b clip was was message.InText refl refl)

pub returns-in-Next-15-clause-did : goal.returns-in-Next-15-clause-did
returns-in-Next-15-clause-did c = λ x at reads are clip.
    let b = c.args.buffer.now in
    let was = now_of c.args.journal.now in
    subst (λ t. Did t message.InText b clip was was)
    (sym (typing_waits b.grove.spec b.height reads clip (state_of b) c.args.command.now x c.in-Next.is)) (refused_did b b clip was was message.InText refl refl)

pub returns-in-Next-16-clause-did : goal.returns-in-Next-16-clause-did
returns-in-Next-16-clause-did c = λ x at reads are clip.
    let b = c.args.buffer.now in
    let was = now_of c.args.journal.now in
    subst (λ t. Did t message.InText b clip was was)
    (sym (typing_waits b.grove.spec b.height reads clip (state_of b) c.args.command.now x c.in-Next.is)) (refused_did b b clip was was message.InText refl refl)

pub returns-in-Next-17-clause-did : goal.returns-in-Next-17-clause-did
returns-in-Next-17-clause-did c = λ x at reads are clip.
    let b = c.args.buffer.now in
    let was = now_of c.args.journal.now in
    subst (λ t. Did t message.InText b clip was was)
    (sym (typing_waits b.grove.spec b.height reads clip (state_of b) c.args.command.now x c.in-Next.is)) (refused_did b b clip was was message.InText refl refl)

pub returns-in-Next-18-clause-did : goal.returns-in-Next-18-clause-did
returns-in-Next-18-clause-did c = λ x at reads are clip.
    let b = c.args.buffer.now in
    let was = now_of c.args.journal.now in
    subst (λ t. Did t message.InText b clip was was)
    (sym (typing_waits b.grove.spec b.height reads clip (state_of b) c.args.command.now x c.in-Next.is)) (refused_did b b clip was was message.InText refl refl)

pub returns-in-Next-19-clause-did : goal.returns-in-Next-19-clause-did
returns-in-Next-19-clause-did c = λ x at reads are clip.
    let b = c.args.buffer.now in
    let was = now_of c.args.journal.now in
    subst (λ t. Did t message.InText b clip was was)
    (sym (typing_waits b.grove.spec b.height reads clip (state_of b) c.args.command.now x c.in-Next.is)) (refused_did b b clip was was message.InText refl refl)

pub returns-in-Next-20-clause-did : goal.returns-in-Next-20-clause-did
returns-in-Next-20-clause-did c = λ x at reads are clip.
    let b = c.args.buffer.now in
    let was = now_of c.args.journal.now in
    subst (λ t. Did t message.InText b clip was was)
    (sym (typing_waits b.grove.spec b.height reads clip (state_of b) c.args.command.now x c.in-Next.is)) (refused_did b b clip was was message.InText refl refl)

pub returns-in-Next-21-clause-did : goal.returns-in-Next-21-clause-did
returns-in-Next-21-clause-did c = λ x at reads are clip.
    let b = c.args.buffer.now in
    let was = now_of c.args.journal.now in
    subst (λ t. Did t message.InText b clip was was)
    (sym (typing_waits b.grove.spec b.height reads clip (state_of b) c.args.command.now x c.in-Next.is)) (refused_did b b clip was was message.InText refl refl)

pub returns-in-Next-22-clause-did : goal.returns-in-Next-22-clause-did
returns-in-Next-22-clause-did c = λ x at reads are clip.
    let b = c.args.buffer.now in
    let was = now_of c.args.journal.now in
    subst (λ t. Did t message.InText b clip was was)
    (sym (typing_waits b.grove.spec b.height reads clip (state_of b) c.args.command.now x c.in-Next.is)) (refused_did b b clip was was message.InText refl refl)

pub returns-in-Next-23-clause-did : goal.returns-in-Next-23-clause-did
returns-in-Next-23-clause-did c = λ x at reads are clip.
    let b = c.args.buffer.now in
    let was = now_of c.args.journal.now in
    subst (λ t. Did t message.InText b clip was was)
    (sym (typing_waits b.grove.spec b.height reads clip (state_of b) c.args.command.now x c.in-Next.is)) (refused_did b b clip was was message.InText refl refl)

pub returns-in-Next-24-clause-did : goal.returns-in-Next-24-clause-did
returns-in-Next-24-clause-did c = λ x at reads are clip.
    let b = c.args.buffer.now in
    let was = now_of c.args.journal.now in
    subst (λ t. Did t message.InText b clip was was)
    (sym (typing_waits b.grove.spec b.height reads clip (state_of b) c.args.command.now x c.in-Next.is)) (refused_did b b clip was was message.InText refl refl)

pub returns-in-Erase-clause-did : goal.returns-in-Erase-clause-did
returns-in-Erase-clause-did c = λ x at reads are clip.
    let b = c.args.buffer.now in
    let was = now_of c.args.journal.now in
    subst (λ k. Did (typing_turn b.grove.spec b.height reads clip (state_of b) x k) c.erase.result c.erase.new.buffer clip was was)
    (sym c.in-Erase.is) (c.erase.ensures.did x at clip was)
