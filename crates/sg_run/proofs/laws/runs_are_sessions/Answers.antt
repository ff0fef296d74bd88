use Rattle.std.proofs.Common.{Option, subst}
use Rattle.sg_output.specs.Job.{Job}
use Rattle.sg_output.specs.Reading.{IsRightFor}
use Rattle.sg_run.proofs.Whole.{whole, whole_of}
use Rattle.sg_run.proofs.Sessions.{session_done, first_done}
use Rattle.sg_run.proofs.Refusals.{refused}
use Rattle.sg_run.proofs.laws.runs_are_sessions.Goals as goal

pub returns-clause-scripts : goal.returns-clause-scripts
returns-clause-scripts c = λ words name script width height r old new got is right ran.
    session_done r old new name script width height got (subst (λ (x : Option Job). IsRightFor x got r) is right) (whole_of _ _ r old new got is ran)

pub returns-clause-first_screens : goal.returns-clause-first_screens
returns-clause-first_screens c = λ words name r old new got is right ran.
    first_done r old new name got (subst (λ (x : Option Job). IsRightFor x got r) is right) (whole_of _ _ r old new got is ran)

pub returns-clause-refusals : goal.returns-clause-refusals
returns-clause-refusals c = λ words r old new got status right ran is other.
    refused r status other _ old new got (whole _ old new got status ran is)
