use Rattle.std.proofs.Common.{ap, length, arith}
use Rattle.sg_eval.specs.Journal.{counted}
use Rattle.sg_output.proofs.Endings.{ends_with}
use Rattle.sg_output.proofs.Filing.{ends_reported}
use Rattle.sg_run.proofs.reports.tell.Goals as goal

pub returns-in-Ok : goal.returns-in-Ok
returns-in-Ok g c = λ readers read shelf.
    let told = c.in-Ok.ensures.told readers.text readers.file read.0 read.1 in
    let rose = c.in-Ok.ensures.evaluated in
    let total = c.in-Ok.ensures.total in
    ends_with _ _ _ _ _ _ (ends_reported shelf _ _ (counted c.args.journal.now) (counted c.report.new.journal) _ c.in-Ok.report _ _ told c.as_slice.ensures c.finish.ensures (omega (arith, rose, total))) c.end.ensures

pub returns-in-Err : goal.returns-in-Err
returns-in-Err g c = λ readers read shelf.
    let total = c.in-Err.ensures.total in
    let least = c.in-Err.ensures.least in
    let most = c.in-Err.ensures.most readers.text readers.file read.0 read.1 in
    ends_with _ _ _ _ _ _ (c.end_by.ensures _ (c.in-Err.ensures.told readers.text readers.file read.0 read.1) shelf (counted c.args.journal.now) (counted c.report.new.journal)
    (λ other. let long = ap length (c.in-Err.ensures.quiet other) in omega (arith, total, long)) (omega (arith, total, least)) (omega (arith, total, most))) c.end-in-Err.ensures
