use Rattle.std.specs.Prelude.{IfOk, OnErr}
use Rattle.std.proofs.Common.{refl, subst}
use Rattle.std.proofs.lemmas.Result.{err_from_is_err_and}
use Rattle.sg_eval.specs.Journal.{now_of}
use Rattle.sg_script.specs.declared.message.Message.{Message}
use Rattle.sg_edits.specs.Choice.{Choice}
use Rattle.sg_edits.specs.Edits as edits
use Rattle.sg_kinds.specs.declared.spec.Spec.{Spec}
use Rattle.sg_kinds.specs.Terms.{Term}
use Rattle.sg_kinds.specs.Places.{Place}
use Rattle.sg_commands.specs.Did.{Did, GaveUp}
use Rattle.sg_commands.specs.Replaced.{chosen_in, puts_in}
use Rattle.sg_commands.proofs.Choosing.{chosen_here, fits_here, live_here, typed_fits}
use Rattle.sg_commands.proofs.Putting.{gave_up_before}
use Rattle.sg_commands.proofs.entering.put_value.Goals as goal

pub typed-requires-clause-live : goal.typed-requires-clause-live
typed-requires-clause-live c = live_here c.args.buffer.now c.facts.ensures c.terms.result.now c.terms.ensures c.selected.result c.selected.ensures.place

pub typed-requires-clause-value : goal.typed-requires-clause-value
typed-requires-clause-value c = typed_fits c.args.buffer.now c.facts.ensures c.terms.result.now c.terms.ensures c.selected.result c.selected.ensures.place c.args.v.now c.requires.fits

pub put_choice-requires : goal.put_choice-requires
put_choice-requires c = record { fits = fits_here c.args.buffer.now c.facts.ensures c.terms.result.now c.terms.ensures c.selected.result c.selected.ensures.place c.in_ok-choice.choice c.in_ok-choice.ensures.fits }

pub returns-clause-did : goal.returns-clause-did
returns-clause-did c = λ clip.
    let b = c.args.buffer.now in
    subst (λ (x : Choice). IfOk c.put_choice.result (λ (m : Message). Did (puts_in b clip x) m c.put_choice.new.buffer clip (now_of c.args.journal.now) (now_of c.put_choice.new.journal)))
    (chosen_here c.args.buffer.now c.facts.ensures c.terms.result.now c.terms.ensures c.selected.result c.selected.ensures.place c.in_ok-choice.choice (λ (spec : Spec) (t : Term) (u : Place). edits.typed spec t u c.args.v.now) c.in_ok-choice.ensures.choice) (c.put_choice.ensures.did clip)

pub returns-clause-gave_up : goal.returns-clause-gave_up
returns-clause-gave_up c = λ clip.
    let b = c.args.buffer.now in
    subst (λ (x : Choice). OnErr c.put_choice.result (GaveUp b.grove.spec (puts_in b clip x) b c.put_choice.new.buffer clip clip (now_of c.args.journal.now) (now_of c.put_choice.new.journal)))
    (chosen_here c.args.buffer.now c.facts.ensures c.terms.result.now c.terms.ensures c.selected.result c.selected.ensures.place c.in_ok-choice.choice (λ (spec : Spec) (t : Term) (u : Place). edits.typed spec t u c.args.v.now) c.in_ok-choice.ensures.choice) (c.put_choice.ensures.gave_up clip)

pub returns-in_err-choice-clause-gave_up : goal.returns-in_err-choice-clause-gave_up
returns-in_err-choice-clause-gave_up c = λ clip.
    let b = c.args.buffer.now in
    let p = err_from_is_err_and c.from_residual.result c.from_residual.ensures.1 in
    rw p.1 (gave_up_before b b clip (now_of c.args.journal.now) (now_of c.args.journal.now) (puts_in b clip (chosen_in b (λ (spec : Spec) (t : Term) (u : Place). edits.typed spec t u c.args.v.now))) refl refl)
