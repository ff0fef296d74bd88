use Rattle.sg_report.proofs.Reading.{told_fault}
use Rattle.sg_output.proofs.Filing.{ends_unreported, ends_refused}
use Rattle.sg_run.proofs.reports.end_by.Goals as goal

pub returns-in-NoMemory : goal.returns-in-NoMemory
returns-in-NoMemory g c = λ x told shelf n m same least most. ends_unreported shelf _ n m x least most

pub returns-in_default : goal.returns-in_default
returns-in_default g c = λ x told shelf n m same least most.
    ends_refused shelf _ _ n m _ c.args.fault x (told_fault c.args.fault x c.in_default.not-NoMemory told) (same c.in_default.not-NoMemory) (c.refuse.ensures shelf n)
