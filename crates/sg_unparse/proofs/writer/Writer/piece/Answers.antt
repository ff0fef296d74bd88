use Rattle.std.proofs.Common.{sym, subst}
use Rattle.sg_unparse.specs.Cells.{piece}
use Rattle.sg_unparse.specs.Written.{Wrote}
use Rattle.sg_unparse.proofs.Writing.{on_ok}
use Rattle.sg_unparse.proofs.writer.Writer.piece.Goals as goal

pub returns-in-Margin : goal.returns-in-Margin
returns-in-Margin c = on_ok c.step.result _ _ (λ f at u is. subst (λ p. Wrote at c.args.self.now c.step.new.self (piece u p)) (sym c.in-Margin.is) (f at u)) c.step.ensures
