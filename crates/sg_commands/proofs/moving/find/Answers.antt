use Rattle.std.proofs.lemmas.Result.{err_from_is_err_and}
use Rattle.std.proofs.Common.{refl, ap, sym, ◌∙◌, subst}
use Rattle.sg_script.specs.declared.message.Message.TheVariants as message
use Rattle.sg_buffer.specs.Held.{state_of}
use Rattle.sg_commands.specs.Did.{Did}
use Rattle.sg_commands.specs.Turns.{found_next}
use Rattle.sg_commands.proofs.Finding.{found_or_next, known_name, unknown_name}
use Rattle.sg_commands.proofs.Moved.{found_did, stayed}
use Rattle.sg_commands.proofs.Putting.{refused_did}
use Rattle.sg_commands.proofs.moving.find.Goals as goal

pub returns-then-not-is_known_here-clause-did : goal.returns-then-not-is_known_here-clause-did
returns-then-not-is_known_here-clause-did c = λ clip now.
    let b = c.args.buffer.now in
    subst (λ t. Did t message.Unknown b clip now now)
    (sym (unknown_name b.grove.spec b.height clip (state_of b) c.args.name.now (sym c.is_known_here.ensures ∙ c.if-not-is_known_here.true)))
    (refused_did b b clip now now message.Unknown refl refl)

pub returns-clause-did : goal.returns-clause-did
returns-clause-did c = λ clip now.
    let b = c.args.buffer.now in
    subst (λ t. Did t c.said.result c.find_next.new.buffer clip now now)
    (sym (known_name b.grove.spec b.height clip (state_of b) c.args.name.now (sym c.is_known_here.ensures ∙ c.if-not-is_known_here.false)))
    (subst (λ m. Did (found_or_next b.grove.spec b.height clip (state_of b) c.args.name.now) m c.find_next.new.buffer clip now now) (sym c.said.ensures)
    (found_did b c.find_next.new.buffer clip now message.NoMatch (found_next b.grove.spec b.height c.args.name.now (state_of b)) c.in_ok-done.done c.in_ok-done.ensures.found))

pub returns-in_err-done-clause-gave_up : goal.returns-in_err-done-clause-gave_up
returns-in_err-done-clause-gave_up c = λ turn clip now.
    let p = err_from_is_err_and c.from_residual.result c.from_residual.ensures.1 in
    rw p.1
    (stayed c.args.buffer.now c.find_next.new.buffer clip now turn (ap state_of c.in_err-done.ensures.err))
