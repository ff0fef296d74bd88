use Rattle.std.proofs.Common.{[]}
use Rattle.sg_script.specs.Script.{script_of}
use Rattle.sg_output.proofs.Endings.{ends_as, ends_early}
use Rattle.sg_output.proofs.Opened.{scanned_quiet, scanned_err}
use Rattle.sg_run.proofs.scripts.end_by.Goals as goal

pub returns-in-NoMemory : goal.returns-in-NoMemory
returns-in-NoMemory g c = λ next quiet shelf n. ends_early shelf _ n _ (scanned_quiet (script_of c.args.bytes.now) next quiet)

pub returns-in_default : goal.returns-in_default
returns-in_default g c = λ next quiet shelf n.
    ends_as _ _ _ _ [] _ (scanned_err c.args.bytes.now c.args.fault.now next (c.requires c.in_default.not-NoMemory)) (c.refuse.ensures shelf n)
