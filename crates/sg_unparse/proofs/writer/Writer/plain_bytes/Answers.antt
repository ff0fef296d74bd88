use Rattle.sg_unparse.proofs.Writing.{cut_plain, plain_begun, plain_more, plain_done}
use Rattle.sg_unparse.proofs.writer.Writer.plain_bytes.Goals as goal

pub returns-then-self : goal.returns-then-self
returns-then-self c = λ at u is. cut_plain at c.args.self.now u c.args.text.now c.if-self.true

pub loop-b-init : goal.loop-b-init
loop-b-init c = λ at u is. plain_begun at c.args.self.now u c.args.text.now

pub loop-b-preserved : goal.loop-b-preserved
loop-b-preserved c = λ at u is. plain_more at c.args.self.now c.loop-b.self c.plain_byte.new.self u c.args.text.now c.loop-b.b-index c.loop-b-test.true (c.loop-b.invariant at u is) (c.in_ok-plain_byte.ensures at u is)

pub returns : goal.returns
returns c = λ at u is. plain_done at c.args.self.now c.loop-b.self u c.args.text.now c.loop-b.b-index c.loop-b-test.false (c.loop-b.invariant at u is)
