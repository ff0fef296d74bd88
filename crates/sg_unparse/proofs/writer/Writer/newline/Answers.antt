use Rattle.sg_unparse.proofs.Writing.{newline_flat, newline_written}
use Rattle.sg_unparse.proofs.writer.Writer.newline.Goals as goal

pub returns-then-self-eq0 : goal.returns-then-self-eq0
returns-then-self-eq0 c = λ at u is. newline_flat at c.args.self.now c.put.new.self u c.if-self-eq0.true (c.in_ok-put.ensures at u is)

pub returns : goal.returns
returns c = λ at u is. newline_written at c.args.self.now c.put.new.self c.blanks.new.self u (c.in_ok-put.ensures at u is) (c.in_ok-blanks.ensures at u is)
