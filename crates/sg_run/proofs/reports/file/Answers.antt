use Rattle.sg_output.specs.Filed.{report_file, filed}
use Rattle.sg_output.proofs.Exits.{ended_is}
use Rattle.sg_output.proofs.Fetches.{fetched_last}
use Rattle.sg_output.proofs.Requests.{played_as, played_fetched}
use Rattle.sg_eval.specs.Journal.{counted}
use Rattle.sg_run.proofs.reports.file.Goals as goal

pub returns-in_err-reply : goal.returns-in_err-reply
returns-in_err-reply g c = λ readers read a known.
    played_as _ _ _ _ _ _ _ (ended_is c.in_err-reply.field-0.0 _ c.from_residual.ensures.1) (c.in_err-reply.ensures.played (filed readers c.args.loaded.now.spec a) _ (counted c.args.journal.now))

pub returns : goal.returns
returns g c = λ readers read a known.
    played_fetched (report_file c.args.file_name.now) (filed readers c.args.loaded.now.spec a) _ _ _ _ _ _ _ _ _
    (fetched_last (report_file c.args.file_name.now) c.in_ok-reply.reply _ _ _ _ _ c.in_ok-reply.ensures.replied c.fetch.ensures.same c.add.ensures) (c.tell_reply-told.ensures readers read a known _)
