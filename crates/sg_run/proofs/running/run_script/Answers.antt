use Rattle.std.proofs.Common.{refl}
use Rattle.sg_eval.specs.Journal.{counted}
use Rattle.sg_editor.specs.Session.{start}
use Rattle.sg_output.specs.Session.{desk, session}
use Rattle.sg_output.specs.OutputOf.{performed}
use Rattle.sg_output.proofs.Exits.{ended_is}
use Rattle.sg_output.proofs.Opened.{read_opened, played_opened, read_as, script_quiet}
use Rattle.sg_output.proofs.Requests.{played_as, played_after}
use Rattle.sg_output.proofs.Turns.{session_quiet, session_from}
use Rattle.sg_run.proofs.running.run_script.Goals as goal

pub returns-in_err-opened : goal.returns-in_err-opened
returns-in_err-opened g c = record {
  known = read_as _ _ _ _ _ _ (ended_is c.in_err-opened.field-0.0 _ c.from_residual.ensures.1) (c.in_err-opened.ensures.known (counted c.args.journal.now));
  played = λ r right. played_as _ _ _ _ _ _ _ (ended_is c.in_err-opened.field-0.0 _ c.from_residual.ensures.1)
      (c.in_err-opened.ensures.played r.verdict right.verdict (performed c.args.script_name.now c.args.width c.args.height r.readers)
      (λ spec. script_quiet (session (desk spec c.args.width c.args.height r.readers) start) c.args.script_name.now) (counted c.args.journal.now));
}

pub returns-in_err-commands : goal.returns-in_err-commands
returns-in_err-commands g c =
    let o = c.in_ok-opened.ensures.opened in
    let spec = c.in_ok-opened.opened.spec in
    let w = c.args.width in
    let h = c.args.height in
    let over = ended_is c.in_err-commands.field-0.0 _ c.from_residual-in_err-commands.ensures.1 in
    record {
      known = read_as _ _ _ _ _ _ over (read_opened c.args.name.now spec _ _ _ _ (λ readers. performed c.args.script_name.now w h readers spec) _ _ _ _ o
          (λ readers read. c.in_err-commands.ensures.played (session (desk spec w h readers) start) (λ cs. session_quiet (desk spec w h readers) cs start) (counted c.args.journal.now)));
      played = λ r right. played_as _ _ _ _ _ _ _ over (played_opened c.args.name.now spec _ _ _ _ _ _ _ (performed c.args.script_name.now w h) _ _ o c.in_ok-opened.ensures.quiet
          (λ readers read. c.in_err-commands.ensures.played (session (desk spec w h readers) start) (λ cs. session_quiet (desk spec w h readers) cs start) (counted c.args.journal.now)) r right);
    }

pub returns : goal.returns
returns g c =
    let o = c.in_ok-opened.ensures.opened in
    let spec = c.in_ok-opened.opened.spec in
    let w = c.args.width in
    let h = c.args.height in
    record {
      known = read_opened c.args.name.now spec _ _ _ _ (λ readers. performed c.args.script_name.now w h readers spec) _ _ _ _ o
          (λ readers read. played_after _ _ _ _ _ _ _ _ _ (c.in_ok-commands.ensures.passed (session (desk spec w h readers) start) (counted c.args.journal.now))
          (session_from _ (desk spec w h readers) _ start _ c.in_ok-commands.commands.items _ _ _ _ _ refl refl c.as_slice.ensures.value (c.play_all.ensures readers read)));
      played = λ r right. played_opened c.args.name.now spec _ _ _ _ _ _ _ (performed c.args.script_name.now w h) _ _ o c.in_ok-opened.ensures.quiet
          (λ readers read. played_after _ _ _ _ _ _ _ _ _ (c.in_ok-commands.ensures.passed (session (desk spec w h readers) start) (counted c.args.journal.now))
          (session_from _ (desk spec w h readers) _ start _ c.in_ok-commands.commands.items _ _ _ _ _ refl refl c.as_slice.ensures.value (c.play_all.ensures readers read))) r right;
    }
