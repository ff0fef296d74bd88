use Rattle.std.proofs.Common.{arith}
use Rattle.sg_unparse.proofs.writer.Writer.bytes.Goals as goal

pub fill-requires : goal.fill-requires
fill-requires c = omega (arith, c.if-text-saturating_sub.true, c.saturating_sub.ensures, c.len.ensures, c.args.self.now.text.ok.0)
