use Rattle.sg_eval.specs.Journal.{counted}
use Rattle.sg_output.specs.Filed.{reported}
use Rattle.sg_output.proofs.Exits.{ended_is}
use Rattle.sg_output.proofs.Filing.{report_quiet}
use Rattle.sg_output.proofs.Opened.{read_opened, played_opened, read_as}
use Rattle.sg_output.proofs.Requests.{played_as}
use Rattle.sg_run.proofs.reports.report_on.Goals as goal

pub returns-in_err-loaded : goal.returns-in_err-loaded
returns-in_err-loaded g c = record {
  known = read_as _ _ _ _ _ _ (ended_is c.in_err-loaded.field-0.0 _ c.from_residual.ensures.1) (c.in_err-loaded.ensures.known (counted c.args.journal.now));
  played = λ r right. played_as _ _ _ _ _ _ _ (ended_is c.in_err-loaded.field-0.0 _ c.from_residual.ensures.1)
      (c.in_err-loaded.ensures.played r.verdict right.verdict (reported c.args.file_name.now c.args.word.now r.readers) (report_quiet c.args.file_name.now c.args.word.now r.readers) (counted c.args.journal.now));
}

pub returns : goal.returns
returns g c =
    let o = c.in_ok-loaded.ensures.opened in
    let spec = c.in_ok-loaded.loaded.spec in
    record {
      known = read_opened c.args.name.now spec _ _ _ _ (λ readers. reported c.args.file_name.now c.args.word.now readers spec) _ _ _ _ o c.attribute.ensures;
      played = λ r right. played_opened c.args.name.now spec _ _ _ _ _ _ _ (reported c.args.file_name.now c.args.word.now) _ _ o c.in_ok-loaded.ensures.quiet c.attribute.ensures r right;
    }
