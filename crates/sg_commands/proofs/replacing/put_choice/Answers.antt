use Rattle.std.proofs.Common.{refl, sym, subst}
use Rattle.sg_eval.specs.Journal.{now_of}
use Rattle.sg_edits.specs.Choice.{choice_of}
use Rattle.sg_edits.specs.declared.choice.Choice as declared
use Rattle.sg_commands.specs.Did.{Did}
use Rattle.sg_commands.specs.Replaced.{puts_in}
use Rattle.sg_commands.proofs.Putting.{refused_did}
use Rattle.sg_commands.proofs.replacing.put_choice.Goals as goal

pub returns-in-Refused-clause-did : goal.returns-in-Refused-clause-did
returns-in-Refused-clause-did c = λ clip.
    let b = c.args.buffer.now in
    let was = now_of c.args.journal.now in
    subst (λ (x : declared.Choice). Did (puts_in b clip (choice_of x)) c.in-Refused.why b clip was was) (sym c.in-Refused.is)
    (refused_did b b clip was was c.in-Refused.why refl refl)

pub returns-in_ok-put_in-in-Put-clause-did : goal.returns-in_ok-put_in-in-Put-clause-did
returns-in_ok-put_in-in-Put-clause-did c = λ clip.
    subst (λ (x : declared.Choice). Did (puts_in c.args.buffer.now clip (choice_of x)) c.in_ok-put_in-in-Put.field-0 c.put_in.new.buffer clip (now_of c.args.journal.now) (now_of c.put_in.new.journal)) (sym c.in-Put.is)
    (c.in_ok-put_in-in-Put.ensures.did clip)
