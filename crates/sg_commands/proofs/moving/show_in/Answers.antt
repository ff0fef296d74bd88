use Rattle.std.proofs.lemmas.Result.{err_from_is_err_and}
use Rattle.std.proofs.Common.{ap}
use Rattle.sg_script.specs.declared.message.Message.TheVariants as message
use Rattle.sg_states.specs.States.{viewed}
use Rattle.sg_buffer.specs.Held.{state_of}
use Rattle.sg_commands.proofs.Moved.{done_did, stayed}
use Rattle.sg_commands.proofs.moving.show_in.Goals as goal

pub returns-clause-did : goal.returns-clause-did
returns-clause-did c = λ clip now.
    let b = c.args.buffer.now in
    done_did b c.view.new.self clip now message.Fine (viewed b.grove.spec b.height c.args.v (state_of b)) c.in_ok-view.ensures.state

pub returns-in_err-view-clause-gave_up : goal.returns-in_err-view-clause-gave_up
returns-in_err-view-clause-gave_up c = λ turn clip now.
    let p = err_from_is_err_and c.from_residual.result c.from_residual.ensures.1 in
    rw p.1
    (stayed c.args.buffer.now c.view.new.self clip now turn (ap state_of c.in_err-view.ensures.err))
