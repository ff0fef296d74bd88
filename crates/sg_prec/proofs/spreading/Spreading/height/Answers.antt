use Rattle.std.proofs.Common.{length, ap, ◌∙◌}
use Rattle.sg_prec.specs.Levels.{row_at}
use Rattle.sg_prec.proofs.RisingRows.{row_of_levels}
use Rattle.sg_prec.proofs.spreading.Spreading.height.Goals as goal

pub returns-clause-number : goal.returns-clause-number
returns-clause-number c =
    c.height.ensures.number ∙ ap (λ rows. length (row_at rows c.args.n)) c.args.self.now.known ∙ ap length (row_of_levels c.args.self.now.lines.lines.now c.args.self.now.written.now c.args.n)
