use Rattle.std.specs.Prelude.{Err}
use Rattle.std.proofs.Common.{refl, ap, subst}
use Rattle.sg_script.specs.declared.message.Message.TheVariants as message
use Rattle.sg_states.specs.States.{pointed}
use Rattle.sg_buffer.specs.Held.{state_of}
use Rattle.sg_input.specs.Entered.{Entered}
use Rattle.sg_input.specs.declared.entering.EntryFault.TheVariants as fault
use Rattle.sg_commands.specs.Did.{Did}
use Rattle.sg_commands.specs.Replaced.{enters_in}
use Rattle.sg_commands.proofs.Putting.{refused_did, says_did}
use Rattle.sg_commands.proofs.Typed.{point_within, told_of}
use Rattle.sg_commands.proofs.entering.tell.Goals as goal

pub put_point-requires : goal.put_point-requires
put_point-requires c = point_within c.args.buffer.now.capture (Err c.args.fault) (Err (fault.Lexical c.in-Lexical.k)) (ap Err c.in-Lexical.is) c.requires

pub put_point-requires-in-Parse : goal.put_point-requires-in-Parse
put_point-requires-in-Parse c = point_within c.args.buffer.now.capture (Err c.args.fault) (Err (fault.Parse c.in-Parse.k)) (ap Err c.in-Parse.is) c.requires

pub returns-in-Byte-clause-did : goal.returns-in-Byte-clause-did
returns-in-Byte-clause-did c = λ clip was a told.
    let b = c.args.buffer.now in
    let is = told_of (Err c.args.fault) (Err (fault.Byte c.in-Byte.k)) a (ap Err c.in-Byte.is) told in
    subst (λ (x : Entered). Did (enters_in b clip x) (message.ByteAt c.in-Byte.k) b clip was was) is (refused_did b b clip was was (message.ByteAt c.in-Byte.k) refl refl)

pub returns-in-Lexical-clause-did : goal.returns-in-Lexical-clause-did
returns-in-Lexical-clause-did c = λ clip was a told.
    let b = c.args.buffer.now in
    let is = told_of (Err c.args.fault) (Err (fault.Lexical c.in-Lexical.k)) a (ap Err c.in-Lexical.is) told in
    subst (λ (x : Entered). Did (enters_in b clip x) (message.LexicalAt c.in-Lexical.k) c.put_point.new.buffer clip was was) is
    (says_did b c.put_point.new.buffer clip was was (message.LexicalAt c.in-Lexical.k) (pointed c.in-Lexical.k (state_of b)) c.put_point.ensures.state refl)

pub returns-in-Parse-clause-did : goal.returns-in-Parse-clause-did
returns-in-Parse-clause-did c = λ clip was a told.
    let b = c.args.buffer.now in
    let is = told_of (Err c.args.fault) (Err (fault.Parse c.in-Parse.k)) a (ap Err c.in-Parse.is) told in
    subst (λ (x : Entered). Did (enters_in b clip x) (message.ParseAt c.in-Parse.k) c.put_point-in-Parse.new.buffer clip was was) is
    (says_did b c.put_point-in-Parse.new.buffer clip was was (message.ParseAt c.in-Parse.k) (pointed c.in-Parse.k (state_of b)) c.put_point-in-Parse.ensures.state refl)

pub returns-in-Outcome-clause-did : goal.returns-in-Outcome-clause-did
returns-in-Outcome-clause-did c = λ clip was a told.
    let b = c.args.buffer.now in
    let is = told_of (Err c.args.fault) (Err (fault.Outcome c.in-Outcome.why)) a (ap Err c.in-Outcome.is) told in
    subst (λ (x : Entered). Did (enters_in b clip x) (message.Result c.in-Outcome.why) b clip was was) is (refused_did b b clip was was (message.Result c.in-Outcome.why) refl refl)
