use Rattle.std.proofs.Common.{arith, refl}
use Rattle.sg_unparse.proofs.Writing.{step_written}
use Rattle.sg_unparse.proofs.writer.Writer.step.Goals as goal

pub returns-in-Some : goal.returns-in-Some
returns-in-Some c = λ at u. step_written at c.args.self.now _ u c.args.back c.args.on refl refl refl refl (omega (arith, c.in-Some.ensures.1, c.saturating_sub-less.ensures))
