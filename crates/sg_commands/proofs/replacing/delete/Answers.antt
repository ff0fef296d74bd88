use Rattle.std.specs.Prelude.{IfOk, OnErr}
use Rattle.std.proofs.Common.{refl, subst}
use Rattle.std.proofs.lemmas.Result.{err_from_is_err_and}
use Rattle.sg_eval.specs.Journal.{now_of}
use Rattle.sg_script.specs.declared.message.Message.{Message}
use Rattle.sg_edits.specs.Choice.{Choice}
use Rattle.sg_edits.specs.Edits as edits
use Rattle.sg_commands.specs.Did.{Did, GaveUp}
use Rattle.sg_commands.specs.Replaced.{chosen_of, puts_in}
use Rattle.sg_commands.proofs.Choosing.{fits_here, live_here, run_chosen, run_here}
use Rattle.sg_commands.proofs.Putting.{gave_up_before}
use Rattle.sg_commands.proofs.replacing.delete.Goals as goal

pub deleted-requires-clause-live : goal.deleted-requires-clause-live
deleted-requires-clause-live c = live_here c.args.buffer.now c.facts.ensures c.terms.result.now c.terms.ensures c.selected.result c.selected.ensures.place

pub deleted-requires-clause-run : goal.deleted-requires-clause-run
deleted-requires-clause-run c = run_here c.args.buffer.now c.facts.ensures c.terms.result.now c.terms.ensures c.selected.result c.selected.ensures.place c.count.result c.count.ensures

pub put_choice-requires : goal.put_choice-requires
put_choice-requires c = record { fits = fits_here c.args.buffer.now c.facts.ensures c.terms.result.now c.terms.ensures c.selected.result c.selected.ensures.place c.in_ok-choice.choice c.in_ok-choice.ensures.fits }

pub returns-clause-did : goal.returns-clause-did
returns-clause-did c = λ clip.
    let b = c.args.buffer.now in
    subst (λ (x : Choice). IfOk c.put_choice.result (λ (m : Message). Did (puts_in b clip x) m c.put_choice.new.buffer clip (now_of c.args.journal.now) (now_of c.put_choice.new.journal)))
    (run_chosen c.args.buffer.now c.facts.ensures c.terms.result.now c.terms.ensures c.selected.result c.selected.ensures.place c.in_ok-choice.choice edits.deleted c.count.result c.count.ensures c.in_ok-choice.ensures.choice) (c.put_choice.ensures.did clip)

pub returns-clause-gave_up : goal.returns-clause-gave_up
returns-clause-gave_up c = λ clip.
    let b = c.args.buffer.now in
    subst (λ (x : Choice). OnErr c.put_choice.result (GaveUp b.grove.spec (puts_in b clip x) b c.put_choice.new.buffer clip clip (now_of c.args.journal.now) (now_of c.put_choice.new.journal)))
    (run_chosen c.args.buffer.now c.facts.ensures c.terms.result.now c.terms.ensures c.selected.result c.selected.ensures.place c.in_ok-choice.choice edits.deleted c.count.result c.count.ensures c.in_ok-choice.ensures.choice) (c.put_choice.ensures.gave_up clip)

pub returns-in_err-choice-clause-gave_up : goal.returns-in_err-choice-clause-gave_up
returns-in_err-choice-clause-gave_up c = λ clip.
    let b = c.args.buffer.now in
    let p = err_from_is_err_and c.from_residual.result c.from_residual.ensures.1 in
    rw p.1 (gave_up_before b b clip (now_of c.args.journal.now) (now_of c.args.journal.now) (puts_in b clip (chosen_of b edits.deleted)) refl refl)
