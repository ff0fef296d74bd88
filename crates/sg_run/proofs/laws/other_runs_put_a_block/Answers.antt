use Rattle.std.proofs.Common.{Option, subst}
use Rattle.sg_output.specs.Job.{Job}
use Rattle.sg_output.specs.Reading.{IsRightFor}
use Rattle.sg_run.proofs.Whole.{whole_of}
use Rattle.sg_run.proofs.Blocks.{check_done, load_done, report_done}
use Rattle.sg_run.proofs.laws.other_runs_put_a_block.Goals as goal

pub returns-clause-checks : goal.returns-clause-checks
returns-clause-checks c = λ words name r old new got is right ran.
    check_done r old new name got (subst (λ (x : Option Job). IsRightFor x got r) is right) (whole_of _ _ r old new got is ran)

pub returns-clause-workloads : goal.returns-clause-workloads
returns-clause-workloads c = λ words count r old new got is right ran.
    load_done r old new count got (subst (λ (x : Option Job). IsRightFor x got r) is right) (whole_of _ _ r old new got is ran)

pub returns-clause-reports : goal.returns-clause-reports
returns-clause-reports c = λ words name file word r old new got is right ran.
    report_done r old new name file word got (subst (λ (x : Option Job). IsRightFor x got r) is right) (whole_of _ _ r old new got is ran)
