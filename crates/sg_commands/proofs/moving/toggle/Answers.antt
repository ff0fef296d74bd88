use Rattle.std.proofs.lemmas.Result.{err_from_is_err_and}
use Rattle.std.proofs.Common.{sym, subst, ◌∙◌}
use Rattle.sg_script.specs.declared.message.Message.TheVariants as message
use Rattle.sg_states.specs.States.{marked}
use Rattle.sg_buffer.specs.Held.{state_of}
use Rattle.sg_commands.specs.Did.{Did}
use Rattle.sg_commands.specs.Turns.{marks}
use Rattle.sg_commands.proofs.Moved.{found_did, stayed}
use Rattle.sg_commands.proofs.moving.toggle.Goals as goal

pub toggle-requires-clause-alone : goal.toggle-requires-clause-alone
toggle-requires-clause-alone c = c.facts.ensures.count ∙ c.requires.one

pub returns-clause-did : goal.returns-clause-did
returns-clause-did c = λ clip now.
    let b = c.args.buffer.now in
    subst (λ m. Did (marks b.grove.spec b.height clip (state_of b) c.args.mark) m c.toggle.new.self clip now now) (sym c.said.ensures)
    (found_did b c.toggle.new.self clip now message.NoAlternate (marked b.grove.spec b.height c.args.mark (state_of b)) c.in_ok-done.done c.in_ok-done.ensures.told)

pub returns-in_err-done-clause-gave_up : goal.returns-in_err-done-clause-gave_up
returns-in_err-done-clause-gave_up c = λ turn clip now.
    let p = err_from_is_err_and c.from_residual.result c.from_residual.ensures.1 in
    rw p.1
    (stayed c.args.buffer.now c.toggle.new.self clip now turn c.in_err-done.ensures.err.state)
