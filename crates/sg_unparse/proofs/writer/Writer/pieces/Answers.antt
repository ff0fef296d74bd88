use Rattle.sg_unparse.proofs.Writing.{pieces_begun, pieces_more, pieces_done}
use Rattle.sg_unparse.proofs.writer.Writer.pieces.Goals as goal

pub loop-piece-init : goal.loop-piece-init
loop-piece-init c = λ at u is. pieces_begun at c.args.self.now u c.args.pieces.now

pub loop-piece-preserved : goal.loop-piece-preserved
loop-piece-preserved c = λ at u is. pieces_more at c.args.self.now c.loop-piece.self c.piece.new.self u c.args.pieces.now c.loop-piece.piece-index c.piece-item.result c.loop-piece-test.true c.piece-item.is (c.loop-piece.invariant at u is) (c.in_ok-piece.ensures at u is)

pub returns : goal.returns
returns c = λ at u is. pieces_done at c.args.self.now c.loop-piece.self u c.args.pieces.now c.loop-piece.piece-index c.loop-piece-test.false (c.loop-piece.invariant at u is)
