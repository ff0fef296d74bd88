use Rattle.std.proofs.lemmas.Result.{err_from_is_err_and}
use Rattle.std.proofs.Common.{ap, sym, refl, ◌∙◌}
use Rattle.sg_buffer.specs.Held.{state_of}
use Rattle.sg_commands.proofs.Moved.{stayed}
use Rattle.sg_input.proofs.Answering.{none-bad}
use Rattle.sg_commands.proofs.Captures.{bad_did, typed_did}
use Rattle.sg_commands.proofs.typing.type_in.Goals as goal

pub returns-in-Some-clause-did : goal.returns-in-Some-clause-did
returns-in-Some-clause-did c = λ clip now.
    bad_did c.args.buffer.now c.args.buffer.now clip now c.args.bytes.now c.in-Some.place (sym c.in-Some.is ∙ c.bad_byte.ensures) refl

pub type_in-requires-clause-text : goal.type_in-requires-clause-text
type_in-requires-clause-text c = none-bad c.args.bytes.now c.in_default.ensures

pub type_in-requires-clause-alone : goal.type_in-requires-clause-alone
type_in-requires-clause-alone c = c.facts.ensures.count ∙ c.requires

pub returns-clause-did : goal.returns-clause-did
returns-clause-did c = λ clip now.
    typed_did c.args.buffer.now c.type_in.new.self clip now c.args.bytes.now c.in_default.ensures c.in_ok-type_in.ensures.typed

pub returns-in_err-type_in-clause-gave_up : goal.returns-in_err-type_in-clause-gave_up
returns-in_err-type_in-clause-gave_up c = λ turn clip now.
    let p = err_from_is_err_and c.from_residual.result c.from_residual.ensures.1 in
    rw p.1
    (stayed c.args.buffer.now c.type_in.new.self clip now turn (ap state_of c.in_err-type_in.ensures.err))
