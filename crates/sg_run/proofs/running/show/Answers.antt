use Rattle.std.proofs.Common.{refl, ◌∙◌}
use Rattle.sg_eval.specs.Journal.{counted}
use Rattle.sg_editor.specs.Session.{start}
use Rattle.sg_output.specs.declared.status.Status.TheVariants.{Memory}
use Rattle.sg_output.specs.Session.{desk}
use Rattle.sg_output.specs.OutputOf.{shown, first_command}
use Rattle.sg_output.proofs.Exits.{ended_is}
use Rattle.sg_output.proofs.Endings.{ends_early}
use Rattle.sg_output.proofs.Opened.{read_opened, played_opened, read_as}
use Rattle.sg_output.proofs.Requests.{played_as, played_at}
use Rattle.sg_output.proofs.Turns.{session_quiet, session_from}
use Rattle.sg_run.proofs.running.show.Goals as goal

pub returns-in_err-loaded : goal.returns-in_err-loaded
returns-in_err-loaded g c = record {
  known = read_as _ _ _ _ _ _ (ended_is c.in_err-loaded.field-0.0 _ c.from_residual.ensures.1) (c.in_err-loaded.ensures.known (counted c.args.journal.now));
  played = λ r right. played_as _ _ _ _ _ _ _ (ended_is c.in_err-loaded.field-0.0 _ c.from_residual.ensures.1)
      (c.in_err-loaded.ensures.played r.verdict right.verdict (shown r.readers) (λ spec. session_quiet (desk spec 80 24 r.readers) first_command start) (counted c.args.journal.now));
}

pub returns-in_err-commands : goal.returns-in_err-commands
returns-in_err-commands g c =
    let o = c.in_ok-loaded.ensures.opened in
    let spec = c.in_ok-loaded.loaded.spec in
    let over = ended_is Memory _ c.from_residual-in_err-commands.ensures.1 in
    let quiet = c.in_ok-loaded.ensures.quiet in
    record {
      known = read_as _ _ _ _ _ _ over (read_opened c.args.name.now spec _ _ _ _ (λ readers. shown readers spec) _ _ _ Memory o
          (λ readers read. played_at (shown readers spec) _ Memory _ _ (ends_early _ _ (counted c.args.journal.now) _ (session_quiet (desk spec 80 24 readers) first_command start)) refl));
      played = λ r right. played_as _ _ _ _ _ _ _ over (played_opened c.args.name.now spec _ _ _ _ _ _ _ shown _ Memory o quiet
          (λ readers read. played_at (shown readers spec) _ Memory _ _ (ends_early _ _ (counted c.args.journal.now) _ (session_quiet (desk spec 80 24 readers) first_command start)) refl) r right);
    }

pub returns : goal.returns
returns g c =
    let o = c.in_ok-loaded.ensures.opened in
    let spec = c.in_ok-loaded.loaded.spec in
    let quiet = c.in_ok-loaded.ensures.quiet in
    record {
      known = read_opened c.args.name.now spec _ _ _ _ (λ readers. shown readers spec) _ _ _ _ o
          (λ readers read. session_from _ (desk spec 80 24 readers) _ start _ first_command _ _ _ _ _ refl refl (c.as_slice.ensures.value ∙ c.in_ok-commands.ensures) (c.play_all.ensures readers read));
      played = λ r right. played_opened c.args.name.now spec _ _ _ _ _ _ _ shown _ _ o quiet
          (λ readers read. session_from _ (desk spec 80 24 readers) _ start _ first_command _ _ _ _ _ refl refl (c.as_slice.ensures.value ∙ c.in_ok-commands.ensures) (c.play_all.ensures readers read)) r right;
    }
