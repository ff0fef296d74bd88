use Rattle.sg_script.specs.declared.message.Message.TheVariants as message
use Rattle.sg_states.specs.States.{ended}
use Rattle.sg_buffer.specs.Held.{state_of}
use Rattle.sg_commands.proofs.Moved.{done_did}
use Rattle.sg_commands.proofs.typing.abandon.Goals as goal

pub returns-clause-did : goal.returns-clause-did
returns-clause-did c = λ clip now.
    done_did c.args.buffer.now c.end_capture.new.self clip now message.Fine (ended (state_of c.args.buffer.now)) c.end_capture.ensures.ended
