use Rattle.std.specs.Prelude.{IfOk, OnErr}
use Rattle.std.proofs.Common.{sym, subst, ◌∙◌}
use Rattle.sg_eval.specs.Journal.{now_of}
use Rattle.sg_buffer.specs.Held.{state_of}
use Rattle.sg_commands.specs.Did.{Did, GaveUp}
use Rattle.sg_commands.proofs.Captures.{closed, opened}
use Rattle.sg_commands.proofs.Table.{turn_plain, turn_typing}
use Rattle.sg_commands.proofs.turning.turned.Goals as goal

pub plain-requires-clause-none : goal.plain-requires-clause-none
plain-requires-clause-none c =
    c.facts.ensures.capture ∙ closed (state_of c.args.buffer.now).capture (sym c.is_typing.ensures ∙ c.if-is_typing.false)

pub typing-requires-clause-open : goal.typing-requires-clause-open
typing-requires-clause-open c = sym c.is_typing.ensures ∙ c.if-is_typing.true

pub returns-then-is_typing-clause-did : goal.returns-then-is_typing-clause-did
returns-then-is_typing-clause-did c = λ reads are.
    let b = c.args.buffer.now in
    let was = now_of c.args.journal.now in
    let x = opened (state_of b).capture (sym c.is_typing.ensures ∙ c.if-is_typing.true) in
    subst (λ t. IfOk c.typing.result (λ m. Did t m c.typing.new.buffer c.args.clip.now was (now_of c.typing.new.journal)))
    (sym (turn_typing b.grove.spec b.height reads c.args.clip.now (state_of b) c.args.command.now x.0 x.1))
    (c.typing.ensures.did x.0 x.1 reads are c.args.clip.now)

pub returns-then-is_typing-clause-gave_up : goal.returns-then-is_typing-clause-gave_up
returns-then-is_typing-clause-gave_up c = λ reads are.
    let b = c.args.buffer.now in
    let was = now_of c.args.journal.now in
    let x = opened (state_of b).capture (sym c.is_typing.ensures ∙ c.if-is_typing.true) in
    subst (λ t. OnErr c.typing.result (GaveUp b.grove.spec t b c.typing.new.buffer c.args.clip.now c.args.clip.now was (now_of c.typing.new.journal)))
    (sym (turn_typing b.grove.spec b.height reads c.args.clip.now (state_of b) c.args.command.now x.0 x.1))
    (c.typing.ensures.gave_up x.0 x.1 reads are c.args.clip.now)

pub returns-else-is_typing-clause-did : goal.returns-else-is_typing-clause-did
returns-else-is_typing-clause-did c = λ reads are.
    let b = c.args.buffer.now in
    let was = now_of c.args.journal.now in
    let none = closed (state_of b).capture (sym c.is_typing.ensures ∙ c.if-is_typing.false) in
    subst (λ t. IfOk c.plain.result (λ m. Did t m c.plain.new.buffer c.plain.new.clip was (now_of c.plain.new.journal)))
    (sym (turn_plain b.grove.spec b.height reads c.args.clip.now (state_of b) c.args.command.now none))
    (c.plain.ensures.did reads are)

pub returns-else-is_typing-clause-gave_up : goal.returns-else-is_typing-clause-gave_up
returns-else-is_typing-clause-gave_up c = λ reads are.
    let b = c.args.buffer.now in
    let was = now_of c.args.journal.now in
    let none = closed (state_of b).capture (sym c.is_typing.ensures ∙ c.if-is_typing.false) in
    subst (λ t. OnErr c.plain.result (GaveUp b.grove.spec t b c.plain.new.buffer c.args.clip.now c.plain.new.clip was (now_of c.plain.new.journal)))
    (sym (turn_plain b.grove.spec b.height reads c.args.clip.now (state_of b) c.args.command.now none))
    (c.plain.ensures.gave_up reads are)
