use Rattle.sg_unparse.proofs.Writing.{plain_newline, plain_other}
use Rattle.sg_unparse.proofs.writer.Writer.plain_byte.Goals as goal

pub returns-then-b-eq10 : goal.returns-then-b-eq10
returns-then-b-eq10 c = λ at u is. plain_newline at c.args.self.now c.newline.new.self u c.args.b c.if-b-eq10.true (c.in_ok-newline.ensures at u is)

pub returns : goal.returns
returns c = λ at u is. plain_other at c.args.self.now c.put.new.self u c.args.b c.if-b-eq10.false (c.in_ok-put.ensures at u is)
