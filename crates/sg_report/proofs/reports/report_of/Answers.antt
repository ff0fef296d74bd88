use Rattle.std.proofs.Common.{◌≡◌, ◌≢◌, ◌≤◌, ◌+◌, length, refl, sym, ap, ◌∙◌, subst, arith, Ok}
use Rattle.sg_kinds.specs.Terms.{Term}
use Rattle.sg_eval.specs.Journal.{now_of}
use Rattle.sg_report.specs.Answers.{evaluated_by}
use Rattle.sg_report.specs.Found.{and_then, term_read}
use Rattle.sg_report.specs.Lines.{report_on}
use Rattle.sg_report.specs.Reports.{report_of}
use Rattle.sg_report.specs.declared.answers.Report.{Report}
use Rattle.sg_report.specs.declared.answers.ReportFault.{ReportFault}
use Rattle.sg_report.specs.declared.answers.ReportFault.TheVariants as fault
use Rattle.std.specs.Prelude.{Result}
use Rattle.sg_report.proofs.Reading.{told_as, refused_exit, wanted, report_is, err_is, on_err, no_ok, no_if_ok, each_err}
use Rattle.sg_report.proofs.reports.report_of.Goals as goal

pub returns-in_err-ev : goal.returns-in_err-ev
returns-in_err-ev c =
    let r = c.from_residual.result in
    record {
      told = λ reads opens read saved. wanted r c.from_residual.ensures.1 _;
      noted = λ reads opens read saved. no_ok r _ c.from_residual.ensures.0;
      evaluated = no_if_ok r _ c.from_residual.ensures.0;
      quiet = each_err r _ (λ f other. refl);
      least = omega arith;
      most = λ reads opens read saved. on_err r (omega arith);
      total = refl;
    }

pub returns-in_err-t : goal.returns-in_err-t
returns-in_err-t c =
    let r = c.from_residual-in_err-t.result in
    let spec = c.args.loaded.now.spec in
    let a = c.args.a.now in
    let file = c.args.file.now in
    record {
      told = λ reads opens read saved.
          told_as _ _ _ (refused_exit r c.in_err-t.field-0.0 c.from_residual-in_err-t.ensures.1 (term_read spec reads opens file) (λ (t : Term). Ok (report_on spec t a)) (c.in_err-t.ensures.told reads opens read saved)) (sym (report_is spec reads opens a file));
      noted = λ reads opens read saved. no_ok r _ c.from_residual-in_err-t.ensures.0;
      evaluated = no_if_ok r _ c.from_residual-in_err-t.ensures.0;
      quiet = each_err r _ (λ f other. refl);
      least = omega arith;
      most = λ reads opens read saved. on_err r (omega arith);
      total = refl;
    }

pub returns-in_err-report : goal.returns-in_err-report
returns-in_err-report c =
    let r = c.from_residual-in_err-report.result in
    let spec = c.args.loaded.now.spec in
    let a = c.args.a.now in
    let file = c.args.file.now in
    let t = c.in_ok-t.t in
    let was = now_of c.args.journal.now in
    let now = now_of c.told.new.journal in
    record {
      told = λ reads opens read saved. wanted r c.from_residual-in_err-report.ensures.1 _;
      noted = λ reads opens read saved. no_ok r _ c.from_residual-in_err-report.ensures.0;
      evaluated = no_if_ok r _ c.from_residual-in_err-report.ensures.0;
      quiet = err_is r fault.NoMemory (λ (f : ReportFault). f ≢ fault.NoMemory → now ≡ was) c.from_residual-in_err-report.ensures.1 (λ other. absurd (other refl));
      least = c.in_err-report.ensures.least;
      most = λ reads opens read saved.
          let is : report_of spec reads opens a file ≡ Ok (report_on spec t a) = report_is spec reads opens a file ∙ ap (and_then (λ (s : Term). Ok (report_on spec s a))) (sym (c.in_ok-t.ensures.told reads opens read saved)) in
          on_err r (subst (λ (x : Result Report ReportFault). length now ≤ length was + evaluated_by x) (sym is) c.in_err-report.ensures.most);
      total = c.in_err-report.ensures.total;
    }

pub returns : goal.returns
returns c =
    let spec = c.args.loaded.now.spec in
    let a = c.args.a.now in
    let file = c.args.file.now in
    let t = c.in_ok-t.t in
    record {
      told = λ reads opens read saved.
          ap Ok c.in_ok-report.ensures.told ∙ ap (and_then (λ (s : Term). Ok (report_on spec s a))) (c.in_ok-t.ensures.told reads opens read saved) ∙ sym (report_is spec reads opens a file);
      noted = λ reads opens read saved. (t, sym (c.in_ok-t.ensures.told reads opens read saved), c.in_ok-report.ensures.noted);
      evaluated = c.in_ok-report.ensures.evaluated;
      quiet = tt;
      least = c.in_ok-report.ensures.least;
      most = λ reads opens read saved. tt;
      total = c.in_ok-report.ensures.total;
    }
