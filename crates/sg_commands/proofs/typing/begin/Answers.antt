use Rattle.std.proofs.Common.{sym, subst, refl, ◌∙◌}
use Rattle.sg_script.specs.declared.message.Message.TheVariants as message
use Rattle.sg_buffer.specs.Held.{state_of}
use Rattle.sg_commands.specs.Did.{Did}
use Rattle.sg_commands.specs.Turns.{types}
use Rattle.sg_commands.proofs.Captures.{no_entry, not_editable}
use Rattle.sg_commands.proofs.Putting.{refused_did}
use Rattle.sg_commands.proofs.typing.begin.Goals as goal

pub returns-then-not-is_editable_here-clause-did : goal.returns-then-not-is_editable_here-clause-did
returns-then-not-is_editable_here-clause-did c = λ clip now.
    let b = c.args.buffer.now in
    subst (λ t. Did t message.NotEditable b clip now now)
    (sym (not_editable b.grove.spec clip (state_of b) (λ entry. types clip (state_of b) c.args.bytes.now) (sym c.is_editable_here.ensures ∙ c.if-not-is_editable_here.true)))
    (refused_did b b clip now now message.NotEditable refl refl)

pub returns-in-None-clause-did : goal.returns-in-None-clause-did
returns-in-None-clause-did c = λ clip now.
    let b = c.args.buffer.now in
    subst (λ t. Did t message.NoEntry b clip now now)
    (sym (no_entry b.grove.spec clip (state_of b) (λ entry. types clip (state_of b) c.args.bytes.now) (sym c.is_editable_here.ensures ∙ c.if-not-is_editable_here.false) (sym c.entry_here.ensures ∙ c.in-None.is)))
    (refused_did b b clip now now message.NoEntry refl refl)
