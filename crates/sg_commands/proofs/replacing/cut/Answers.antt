use Rattle.std.specs.Prelude.{Some}
use Rattle.std.proofs.Common.{refl, sym, subst}
use Rattle.std.proofs.lemmas.Result.{err_from_is_err_and}
use Rattle.sg_kinds.specs.Fits.{Fits}
use Rattle.sg_eval.specs.Journal.{now_of}
use Rattle.sg_groves.specs.Grove.{Grove}
use Rattle.sg_script.specs.declared.message.Message.{Message}
use Rattle.sg_script.specs.declared.message.Message.TheVariants.{Fine}
use Rattle.sg_states.specs.States.{selected_place}
use Rattle.sg_buffer.specs.Held.{state_of}
use Rattle.sg_edits.specs.Choice.{limited}
use Rattle.sg_edits.specs.Edits.{deleted}
use Rattle.sg_edits.specs.declared.clip.Clip.{Clip}
use Rattle.sg_commands.specs.Did.{Did}
use Rattle.sg_commands.specs.Replaced.{chosen_of, puts_in}
use Rattle.sg_commands.specs.Turns.{copied_of, count_here, cuts}
use Rattle.sg_commands.proofs.Choosing.{copied_told, live_here, run_here}
use Rattle.sg_commands.proofs.Putting.{clip_gave_up, deletes, gave_up_before, kept_clip, set_clip}
use Rattle.sg_commands.proofs.replacing.cut.Goals as goal

pub copied-requires-clause-live : goal.copied-requires-clause-live
copied-requires-clause-live c = live_here c.args.buffer.now c.facts.ensures c.terms.result.now c.terms.ensures c.selected.result c.selected.ensures.place

pub copied-requires-clause-run : goal.copied-requires-clause-run
copied-requires-clause-run c = run_here c.args.buffer.now c.facts.ensures c.terms.result.now c.terms.ensures c.selected.result c.selected.ensures.place c.count.result c.count.ensures

pub returns-in_err-copy-clause-gave_up : goal.returns-in_err-copy-clause-gave_up
returns-in_err-copy-clause-gave_up c =
    let b = c.args.buffer.now in
    let was = now_of c.args.journal.now in
    let p = err_from_is_err_and c.from_residual.result c.from_residual.ensures.1 in
    rw p.1 (gave_up_before b b c.args.clip.now was was (cuts b.grove.spec b.height c.args.clip.now (state_of b)) refl refl)

pub returns-in_err-said-clause-gave_up : goal.returns-in_err-said-clause-gave_up
returns-in_err-said-clause-gave_up c =
    let b = c.args.buffer.now in
    let p = err_from_is_err_and c.from_residual-in_err-said.result c.from_residual-in_err-said.ensures.1 in
    rw p.1 (clip_gave_up b c.delete.new.buffer c.args.clip.now (now_of c.args.journal.now) (now_of c.delete.new.journal) b.grove.spec b.height (state_of b) (Some (copied_of b.grove.spec (state_of b))) (limited (state_of b).term (deleted b.grove.spec (state_of b).term (selected_place (state_of b)) (count_here (state_of b))))
    (c.in_err-said.ensures.gave_up c.args.clip.now))

pub returns-in-Fine-clause-did : goal.returns-in-Fine-clause-did
returns-in-Fine-clause-did c =
    let b = c.args.buffer.now in
    let new = c.delete.new.buffer in
    let clip = c.args.clip.now in
    let was = now_of c.args.journal.now in
    let now = now_of c.delete.new.journal in
    let turn = cuts b.grove.spec b.height clip (state_of b) in
    let did = set_clip b new clip was now b.grove.spec b.height (state_of b) (Some (copied_of b.grove.spec (state_of b))) (limited (state_of b).term (deleted b.grove.spec (state_of b).term (selected_place (state_of b)) (count_here (state_of b)))) (deletes b.grove.spec (state_of b).term (selected_place (state_of b)) (count_here (state_of b)))
    (subst (λ (m : Message). Did (puts_in b clip (chosen_of b deleted)) m new clip was now) c.in-Fine.is (c.in_ok-said.ensures.did clip)) in
    subst (λ (m : Message). Did turn m new (Some c.in_ok-copy.copy) was now) (sym c.in-Fine.is)
    (subst (λ (k : Clip). Did turn Fine new (Some k) was now) (sym (copied_told c.args.buffer.now c.facts.ensures c.terms.result.now c.terms.ensures c.selected.result c.selected.ensures.place c.in_ok-copy.copy c.count.result c.count.ensures c.in_ok-copy.ensures.clip)) did)

pub returns-in-Fine-clause-fits : goal.returns-in-Fine-clause-fits
returns-in-Fine-clause-fits c = λ before.
    subst (λ (g : Grove). Fits g.spec c.in_ok-copy.copy.term c.in_ok-copy.copy.phylum) c.terms.ensures c.in_ok-copy.ensures.fits

pub returns-in_default : goal.returns-in_default
returns-in_default c =
    let b = c.args.buffer.now in
    record {
      did = kept_clip b c.delete.new.buffer c.args.clip.now (now_of c.args.journal.now) (now_of c.delete.new.journal) b.grove.spec b.height (state_of b) (Some (copied_of b.grove.spec (state_of b))) (limited (state_of b).term (deleted b.grove.spec (state_of b).term (selected_place (state_of b)) (count_here (state_of b))))
          c.in_ok-said.said (c.in_ok-said.ensures.did c.args.clip.now) c.in_default.not-Fine;
      gave_up = tt;
      fits = λ before. before;
      spec = c.in_ok-said.ensures.spec;
      height = c.in_ok-said.ensures.height;
      total = c.in_ok-said.ensures.total;
    }
