use Rattle.std.specs.Prelude.{IfOk, OnErr}
use Rattle.std.proofs.Common.{refl, sym, ◌∙◌, subst}
use Rattle.sg_eval.specs.Journal.{now_of}
use Rattle.sg_buffer.specs.Held.{state_of}
use Rattle.sg_script.specs.declared.message.Message.TheVariants as message
use Rattle.sg_commands.specs.Did.{Did, GaveUp}
use Rattle.sg_commands.specs.Turns.{wants_one}
use Rattle.sg_commands.proofs.Alike.{plain_allowed, plain_refused}
use Rattle.sg_commands.proofs.Choosing.{one_here}
use Rattle.sg_commands.proofs.Putting.{refused_did}
use Rattle.sg_commands.proofs.turning.plain.Goals as goal

pub allowed-requires-clause-one : goal.allowed-requires-clause-one
allowed-requires-clause-one c =
    one_here c.args.buffer.now c.facts.ensures (wants_one c.args.command.now) (sym c.is_in_run.ensures ∙ c.if-is_in_run.false)

pub returns-then-is_in_run-clause-did : goal.returns-then-is_in_run-clause-did
returns-then-is_in_run-clause-did c = λ reads are.
    let b = c.args.buffer.now in
    let was = now_of c.args.journal.now in
    subst (λ t. Did t message.InRun b c.args.clip.now was was)
    (sym (plain_refused b.grove.spec b.height reads c.args.clip.now (state_of b) c.args.command.now (sym c.is_in_run.ensures ∙ c.if-is_in_run.true)))
    (refused_did b b c.args.clip.now was was message.InRun refl refl)

pub returns-clause-did : goal.returns-clause-did
returns-clause-did c = λ reads are.
    let b = c.args.buffer.now in
    let was = now_of c.args.journal.now in
    subst (λ t. IfOk c.allowed.result (λ m. Did t m c.allowed.new.buffer c.allowed.new.clip was (now_of c.allowed.new.journal)))
    (sym (plain_allowed b.grove.spec b.height reads c.args.clip.now (state_of b) c.args.command.now (sym c.is_in_run.ensures ∙ c.if-is_in_run.false)))
    (c.allowed.ensures.did reads are)

pub returns-clause-gave_up : goal.returns-clause-gave_up
returns-clause-gave_up c = λ reads are.
    let b = c.args.buffer.now in
    let was = now_of c.args.journal.now in
    subst (λ t. OnErr c.allowed.result (GaveUp b.grove.spec t b c.allowed.new.buffer c.args.clip.now c.allowed.new.clip was (now_of c.allowed.new.journal)))
    (sym (plain_allowed b.grove.spec b.height reads c.args.clip.now (state_of b) c.args.command.now (sym c.is_in_run.ensures ∙ c.if-is_in_run.false)))
    (c.allowed.ensures.gave_up reads are)
