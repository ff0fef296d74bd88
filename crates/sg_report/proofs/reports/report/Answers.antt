use Rattle.std.proofs.Common.{◌≡◌, ◌≤◌, ◌+◌, length, sym, ap, ◌∙◌, subst, Some, None, Err}
use Rattle.std.specs.Prelude.{Result, OnErr}
use Rattle.std.specs.Option.{option_map_or}
use Rattle.sg_eval.specs.Journal.{now_of}
use Rattle.sg_load.specs.Loaded.{Contents}
use Rattle.sg_report.specs.Answers.{evaluated_by}
use Rattle.sg_report.specs.Attrs.{attr_in}
use Rattle.sg_report.specs.Reports.{report_of}
use Rattle.sg_report.specs.declared.answers.Report.{Report}
use Rattle.sg_report.specs.declared.answers.ReportFault.{ReportFault}
use Rattle.sg_report.specs.declared.answers.ReportFault.TheVariants as fault
use Rattle.sg_report.proofs.Reading.{told_as}
use Rattle.sg_report.proofs.reports.report.Goals as goal

pub returns-in-Some-clause-told : goal.returns-in-Some-clause-told
returns-in-Some-clause-told c = λ reads opens read saved.
    let spec = c.args.loaded.now.spec in
    let a = c.in-Some.a in
    let found = subst (λ (l : Contents). attr_in l.spec c.args.phylum.now c.args.name.now ≡ Some a) c.loaded.view_is (sym c.attr_in.ensures.is ∙ c.in-Some.is) in
    told_as _ _ _ (c.report_of.ensures.told reads opens read saved)
    (sym (ap (λ o. option_map_or (λ b. report_of spec reads opens b c.args.file.now) o (Err fault.NoAttribute)) found))

pub returns-in-Some-clause-most : goal.returns-in-Some-clause-most
returns-in-Some-clause-most c = λ reads opens read saved.
    let spec = c.args.loaded.now.spec in
    let a = c.in-Some.a in
    let was = now_of c.args.journal.now in
    let now = now_of c.report_of.new.journal in
    let found = subst (λ (l : Contents). attr_in l.spec c.args.phylum.now c.args.name.now ≡ Some a) c.loaded.view_is (sym c.attr_in.ensures.is ∙ c.in-Some.is) in
    subst (λ (x : Result Report ReportFault). OnErr c.report_of.result (length now ≤ length was + evaluated_by x))
    (sym (ap (λ o. option_map_or (λ b. report_of spec reads opens b c.args.file.now) o (Err fault.NoAttribute)) found)) (c.report_of.ensures.most reads opens read saved)

pub returns-in-None-clause-told : goal.returns-in-None-clause-told
returns-in-None-clause-told c = λ reads opens read saved.
    let spec = c.args.loaded.now.spec in
    let none = subst (λ (l : Contents). attr_in l.spec c.args.phylum.now c.args.name.now ≡ None) c.loaded.view_is (sym c.attr_in.ensures.is ∙ c.in-None.is) in
    sym (ap (λ o. option_map_or (λ b. report_of spec reads opens b c.args.file.now) o (Err fault.NoAttribute)) none)
