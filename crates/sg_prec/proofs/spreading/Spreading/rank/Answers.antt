use Rattle.std.proofs.Common.{nat_lt, count_by, ap, ◌∙◌}
use Rattle.sg_prec.specs.Levels.{row_at}
use Rattle.sg_prec.proofs.RisingRows.{row_of_levels}
use Rattle.sg_prec.proofs.spreading.Spreading.rank.Goals as goal

pub returns-clause-number : goal.returns-clause-number
returns-clause-number c =
    c.rank.ensures.number ∙ ap (λ rows. count_by (λ j. nat_lt j c.args.line) (row_at rows c.args.n)) c.args.self.now.known
    ∙ ap (count_by (λ j. nat_lt j c.args.line)) (row_of_levels c.args.self.now.lines.lines.now c.args.self.now.written.now c.args.n)
