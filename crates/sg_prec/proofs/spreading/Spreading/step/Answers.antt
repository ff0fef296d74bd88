use Rattle.sg_prec.proofs.Made.{step_is}
use Rattle.sg_prec.proofs.spreading.Spreading.step.Goals as goal

pub returns : goal.returns
returns c =
    let self = c.args.self.now in
    step_is self.lines.lines.now self.written.now self.levels c.args.n c.args.level c.in_ok-number.field-0 c.line.result self.known c.in_ok-number.ensures c.line.ensures
