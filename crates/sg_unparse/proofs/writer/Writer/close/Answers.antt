use Rattle.std.proofs.Common.{refl}
use Rattle.sg_unparse.proofs.Writing.{closed_written}
use Rattle.sg_unparse.proofs.writer.Writer.close.Goals as goal

pub returns : goal.returns
returns c = λ at u f before is low w. closed_written at before c.args.self.now _ u c.args.n c.args.from c.len-to.result f is low c.len-to.ensures refl refl c.in_ok-push.ensures.items refl refl w
