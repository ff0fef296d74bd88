-- A run that is done and is no session put one block.
use Rattle.std.specs.Prelude.{◌≡◌, refl, ◌+◌, ℕ, List, [], ◌∷◌, length, Option, None, Some, Result, Ok, Err}
use Rattle.std.specs.Option.{option_map_or}
use Rattle.std.proofs.Common.{ap, ◌∙◌, subst, arith, append-nil}
use Rattle.std.proofs.lemmas.Option.{none-some}
use Rattle.sg_kinds.specs.declared.spec.Spec.{Spec}
use Rattle.sg_load.specs.Verdict.{IsVerdict, Verdict}
use Rattle.sg_load.specs.Verdict.Verdict.{Accepted, Refused}
use Rattle.sg_outside.specs.Sink.{appended}
use Rattle.sg_replies.specs.declared.reply.Reply.{Reply}
use Rattle.sg_replies.specs.declared.reply.Reply.TheVariants.{Fetched, FetchFailed, Kept, KeepFailed}
use Rattle.sg_report.specs.Attrs.{attr_of}
use Rattle.sg_report.specs.Reports.{report_of}
use Rattle.sg_report.specs.declared.answers.Report.{Report}
use Rattle.sg_report.specs.declared.answers.ReportFault.{ReportFault as NoReport}
use Rattle.sg_report.specs.declared.answers.ReportFault.TheVariants.{NoAttribute}
use Rattle.sg_report.specs.declared.attrs.Named.{Named}
use Rattle.sg_workload.specs.Lines.{lines_text}
use Rattle.sg_workload.specs.Loads.{work, work_line}
use Rattle.sg_output.specs.Filed.{filed, refusal, report_end, report_file, reported}
use Rattle.sg_output.specs.Output.{asked, before, taking}
use Rattle.sg_output.specs.OutputOf.{checked, judged, ok_text, whole_file, with_spec}
use Rattle.sg_output.specs.Ran.{IsWhole}
use Rattle.sg_output.specs.Reading.{IsRight, IsRightLines, Reading}
use Rattle.sg_output.specs.Work.{told_once, work_told}
use Rattle.sg_output.specs.World.{World}
use Rattle.sg_output.specs.declared.status.Status.TheVariants.{Done, ReadFault, ReportFault, SpecFault}
use Rattle.sg_run.specs.Sessions.{IsChecked, IsReported, IsWorked}
use Rattle.sg_run.proofs.Sessions.{fetched_spec, other_status}

-- no reply is left over
no_more : (more : List Reply) → length more ≡ 0 → more ≡ []
no_more [] is = refl
no_more (reply ∷ more) is = absurd (omega (arith, is))

module _ (r : Reading) (old new : World) where
  -- that a specification has no fault
  module _ (name : List ℕ) where
    by_verdict : (bytes : List ℕ) (more : List Reply) → IsRight (Fetched bytes ∷ more) r → (v : Verdict) → r.verdict ≡ v
        → IsWhole (before (taking (whole_file name)) (judged v (λ spec. checked spec more))) old (Fetched bytes ∷ more) Done new
        → IsChecked name r old (Fetched bytes ∷ more) new
    by_verdict bytes more right (Refused f) is whole = absurd (other_status SpecFault 3 refl whole.finished)
    by_verdict bytes more right (Accepted spec) is whole =
        let taken = whole.replies in
        record {
          bytes = bytes;
          fetched = fetched_spec r old new bytes more spec right is;
          put = record {
            written = whole.bytes ∙ ap (appended old.sink.written) (append-nil ok_text);
            puts = whole.puts;
            replied = ap (λ rs. Fetched bytes ∷ rs) (no_more more (omega (arith, taken)));
            served = whole.requests;
            evaluated = whole.evaluated;
          };
        }

    pub check_done : (got : List Reply) → IsRight got r → IsWhole (with_spec checked name r.verdict got) old got Done new → IsChecked name r old got new
    check_done [] right whole = absurd (none-some Done whole.finished)
    check_done (Fetched bytes ∷ more) right whole = by_verdict bytes more right r.verdict refl whole
    check_done (FetchFailed ∷ more) right whole = absurd (other_status ReadFault 2 refl whole.finished)
    check_done (Kept ∷ more) right whole = absurd (none-some Done whole.finished)
    check_done (KeepFailed ∷ more) right whole = absurd (none-some Done whole.finished)

  -- the line of a workload
  pub load_done : (count : ℕ) (got : List Reply) → IsRightLines r → IsWhole (work_told count r) old got Done new → IsWorked count r old got new
  load_done count got right whole = by r.verdict refl whole
    where
      by : (v : Verdict) → r.verdict ≡ v → IsWhole (judged v (λ (spec : Spec). told_once (work_line spec r.readers count) (work spec r.readers count))) old got Done new
          → IsWorked count r old got new
      by (Refused f) is done = absurd (other_status SpecFault 3 refl done.finished)
      by (Accepted spec) is done =
          let taken = done.replies in
          let evaluated = done.evaluated in
          record {
            spec = spec;
            verdict = is;
            right = subst (IsVerdict lines_text) is right.verdict;
            put = record {
              written = done.bytes ∙ ap (appended old.sink.written) (append-nil (work_line spec r.readers count));
              puts = done.puts;
              replied = no_more got (omega (arith, taken));
              served = done.requests;
              evaluated = omega (arith, evaluated);
            };
          }

  -- a report
  module _ (name file word : List ℕ) where
    by_report : (bytes text : List ℕ) (more : List Reply) (spec : Spec) → IsRight (Fetched bytes ∷ Fetched text ∷ more) r → r.verdict ≡ Accepted spec
        → (a : Named) → attr_of spec word ≡ Some a → (x : Result Report NoReport) → report_of spec r.readers.text r.readers.file a text ≡ x
        → IsWhole (before (taking (whole_file name)) (before (taking (report_file file)) (report_end x))) old (Fetched bytes ∷ Fetched text ∷ more) Done new
        → IsReported name file word r old (Fetched bytes ∷ Fetched text ∷ more) new
    by_report bytes text more spec right is a named (Err f) told whole = absurd (other_status ReportFault 6 refl whole.finished)
    by_report bytes text more spec right is a named (Ok report) told whole =
        let taken = whole.replies in
        let evaluated = whole.evaluated in
        record {
          bytes = bytes;
          fetched = fetched_spec r old new bytes (Fetched text ∷ more) spec right is;
          asked = a;
          named = named;
          text = text;
          report = report;
          right = told;
          put = record {
            written = whole.bytes ∙ ap (appended old.sink.written) (append-nil report.lines);
            puts = whole.puts;
            replied = ap (λ rs. Fetched bytes ∷ Fetched text ∷ rs) (no_more more (omega (arith, taken)));
            served = whole.requests;
            evaluated = omega (arith, evaluated);
          };
        }

    by_file : (bytes : List ℕ) (more : List Reply) (spec : Spec) → IsRight (Fetched bytes ∷ more) r → r.verdict ≡ Accepted spec → (a : Named) → attr_of spec word ≡ Some a
        → IsWhole (before (taking (whole_file name)) (asked (report_file file) (filed r.readers spec a) more)) old (Fetched bytes ∷ more) Done new
        → IsReported name file word r old (Fetched bytes ∷ more) new
    by_file bytes [] spec right is a named whole = absurd (none-some Done whole.finished)
    by_file bytes (Fetched text ∷ more) spec right is a named whole = by_report bytes text more spec right is a named (report_of spec r.readers.text r.readers.file a text) refl whole
    by_file bytes (FetchFailed ∷ more) spec right is a named whole = absurd (other_status ReadFault 2 refl whole.finished)
    by_file bytes (Kept ∷ more) spec right is a named whole = absurd (none-some Done whole.finished)
    by_file bytes (KeepFailed ∷ more) spec right is a named whole = absurd (none-some Done whole.finished)

    by_word : (bytes : List ℕ) (more : List Reply) (spec : Spec) → IsRight (Fetched bytes ∷ more) r → r.verdict ≡ Accepted spec → (o : Option Named) → attr_of spec word ≡ o
        → IsWhole (before (taking (whole_file name)) (option_map_or (λ a. asked (report_file file) (filed r.readers spec a) more) o (refusal NoAttribute))) old (Fetched bytes ∷ more) Done new
        → IsReported name file word r old (Fetched bytes ∷ more) new
    by_word bytes more spec right is None named whole = absurd (other_status ReportFault 6 refl whole.finished)
    by_word bytes more spec right is (Some a) named whole = by_file bytes more spec right is a named whole

    by_spec : (bytes : List ℕ) (more : List Reply) → IsRight (Fetched bytes ∷ more) r → (v : Verdict) → r.verdict ≡ v
        → IsWhole (before (taking (whole_file name)) (judged v (λ spec. reported file word r.readers spec more))) old (Fetched bytes ∷ more) Done new
        → IsReported name file word r old (Fetched bytes ∷ more) new
    by_spec bytes more right (Refused f) is whole = absurd (other_status SpecFault 3 refl whole.finished)
    by_spec bytes more right (Accepted spec) is whole = by_word bytes more spec right is (attr_of spec word) refl whole

    pub report_done : (got : List Reply) → IsRight got r → IsWhole (with_spec (reported file word r.readers) name r.verdict got) old got Done new → IsReported name file word r old got new
    report_done [] right whole = absurd (none-some Done whole.finished)
    report_done (Fetched bytes ∷ more) right whole = by_spec bytes more right r.verdict refl whole
    report_done (FetchFailed ∷ more) right whole = absurd (other_status ReadFault 2 refl whole.finished)
    report_done (Kept ∷ more) right whole = absurd (none-some Done whole.finished)
    report_done (KeepFailed ∷ more) right whole = absurd (none-some Done whole.finished)
