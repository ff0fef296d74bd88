use Rattle.std.proofs.Common.{sym}
use Rattle.sg_output.proofs.Jobs.{size_bounds}
use Rattle.sg_run.proofs.words.sized.Goals as goal

pub returns-clause-window : goal.returns-clause-window
returns-clause-window c =
    let w = size_bounds c.args.width.now c.in_ok-width.width (sym c.in_ok-width.ensures) in
    let h = size_bounds c.args.height.now c.in_ok-height.height (sym c.in_ok-height.ensures) in
    record { least = (w.0, h.0); most = (w.1, h.1) }
