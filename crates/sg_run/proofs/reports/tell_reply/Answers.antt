use Rattle.std.proofs.Common.{◌≡◌, ℕ, List, [], Err, sym, ap, ◌∙◌}
use Rattle.std.specs.Option.{option_map_or}
use Rattle.sg_replies.specs.declared.reply.Reply.TheVariants.{Fetched}
use Rattle.sg_report.specs.Reports.{report_of}
use Rattle.sg_report.specs.declared.answers.ReportFault.TheVariants.{NoAttribute}
use Rattle.sg_output.specs.Filed.{report_end}
use Rattle.sg_output.specs.declared.status.Status.TheVariants.{ReadFault}
use Rattle.sg_output.proofs.Endings.{ends_as, ends_text}
use Rattle.sg_output.proofs.Filing.{file_missing, file_there}
use Rattle.sg_run.proofs.reports.tell_reply.Goals as goal

pub returns-in-Fetched : goal.returns-in-Fetched
returns-in-Fetched g c = λ readers read a known shelf.
    let spec = c.args.loaded.now.spec in
    let bytes = c.as_slice.result.now in
    let is : c.args.reply.now ≡ Fetched bytes = c.in-Fetched.is ∙ ap (λ (b : List ℕ). Fetched b) (sym c.as_slice.ensures) in
    ends_as _ _ _ _ [] _ (file_there readers spec a c.args.reply.now [] bytes is
    ∙ sym (ap (λ o. report_end (option_map_or (λ b. report_of spec readers.text readers.file b bytes) o (Err NoAttribute))) known)) (c.tell.ensures readers read shelf)

pub returns-in_default : goal.returns-in_default
returns-in_default g c = λ readers read a known shelf.
    ends_as _ _ _ _ [] _ (file_missing readers c.args.loaded.now.spec a c.args.reply.now [] c.in_default.not-Fetched) (ends_text shelf _ _ _ ReadFault _ _ c.finish.ensures)
