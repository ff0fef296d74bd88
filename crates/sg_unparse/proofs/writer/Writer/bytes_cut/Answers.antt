use Rattle.sg_unparse.proofs.Writing.{cut_bytes, bytes_begun, bytes_more, bytes_done}
use Rattle.sg_unparse.proofs.writer.Writer.bytes_cut.Goals as goal

pub returns-then-self : goal.returns-then-self
returns-then-self c = λ at u is. cut_bytes at c.args.self.now u c.args.text.now c.if-self.true

pub loop-b-init : goal.loop-b-init
loop-b-init c = λ at u is. bytes_begun at c.args.self.now u c.args.text.now

pub loop-b-preserved : goal.loop-b-preserved
loop-b-preserved c = λ at u is. bytes_more at c.args.self.now c.loop-b.self c.put.new.self u c.args.text.now c.loop-b.b-index c.loop-b-test.true (c.loop-b.invariant at u is) (c.in_ok-put.ensures at u is)

pub returns : goal.returns
returns c = λ at u is. bytes_done at c.args.self.now c.loop-b.self u c.args.text.now c.loop-b.b-index c.loop-b-test.false (c.loop-b.invariant at u is)
