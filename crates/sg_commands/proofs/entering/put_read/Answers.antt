use Rattle.std.specs.Prelude.{Result, Ok, Err, IfOk, OnErr}
use Rattle.std.proofs.Common.{◌≡◌, refl, subst}
use Rattle.sg_kinds.specs.Values.{Value}
use Rattle.sg_eval.specs.Journal.{now_of}
use Rattle.sg_script.specs.declared.message.Message.{Message}
use Rattle.sg_input.specs.Entered.{Entered}
use Rattle.sg_input.specs.declared.entering.EntryFault.{EntryFault}
use Rattle.sg_commands.specs.Did.{Did, GaveUp}
use Rattle.sg_commands.specs.Replaced.{enters_in, FitsHere}
use Rattle.sg_commands.proofs.Putting.{gave_up_before, then_on_err}
use Rattle.sg_commands.proofs.Typed.{point_within, told_of}
use Rattle.sg_commands.proofs.entering.put_read.Goals as goal

pub put_value-requires : goal.put_value-requires
put_value-requires c = record { fits = subst (λ (r : Result Value EntryFault). IfOk r (FitsHere c.args.buffer.now)) c.in-Ok.is c.requires.fits }

pub tell-requires : goal.tell-requires
tell-requires c = point_within c.args.buffer.now.capture c.args.read (Err c.in-Err.fault) c.in-Err.is c.requires.within

pub returns-in-Ok-clause-did : goal.returns-in-Ok-clause-did
returns-in-Ok-clause-did c = λ clip a told.
    let b = c.args.buffer.now in
    let is = told_of c.args.read (Ok c.in-Ok.v) a c.in-Ok.is told in
    subst (λ (x : Entered). IfOk c.put_value.result (λ (m : Message). Did (enters_in b clip x) m c.put_value.new.buffer clip (now_of c.args.journal.now) (now_of c.put_value.new.journal))) is (c.put_value.ensures.did clip)

pub returns-in-Ok-clause-gave_up : goal.returns-in-Ok-clause-gave_up
returns-in-Ok-clause-gave_up c = λ clip a told.
    let b = c.args.buffer.now in
    let is = told_of c.args.read (Ok c.in-Ok.v) a c.in-Ok.is told in
    subst (λ (x : Entered). OnErr c.put_value.result (GaveUp b.grove.spec (enters_in b clip x) b c.put_value.new.buffer clip clip (now_of c.args.journal.now) (now_of c.put_value.new.journal))) is (c.put_value.ensures.gave_up clip)

pub returns-in-Err-clause-did : goal.returns-in-Err-clause-did
returns-in-Err-clause-did c = λ clip a told.
    c.tell.ensures.did clip (now_of c.args.journal.now) a (told_of c.args.read (Err c.in-Err.fault) a c.in-Err.is told)

pub returns-in-Err-clause-gave_up : goal.returns-in-Err-clause-gave_up
returns-in-Err-clause-gave_up c = λ clip a told.
    let b = c.args.buffer.now in
    let was = now_of c.args.journal.now in
    then_on_err c.tell.result (c.tell.new.buffer ≡ b) (GaveUp b.grove.spec (enters_in b clip a) b c.tell.new.buffer clip clip was was) c.tell.ensures.err
    (λ same. gave_up_before b c.tell.new.buffer clip was was (enters_in b clip a) same refl)
