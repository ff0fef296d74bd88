use Rattle.std.proofs.Common.{◌∙◌}
use Rattle.sg_prec.proofs.Made.{rule_is}
use Rattle.sg_prec.proofs.spreading.Spreading.rule.Goals as goal

pub returns : goal.returns
returns c =
    let self = c.args.self.now in
    rule_is self.lines.lines.now self.written.now c.args.production.now c.infix_line-line.result (c.in_ok-first.first, c.in_ok-first.rest) c.in_ok-level.level c.infix_line-line.ensures c.in_ok-first.ensures
    (c.in_ok-level.ensures ∙ c.level.ensures)
