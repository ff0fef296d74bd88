use Rattle.std.proofs.Common.{◌∙◌, arith}
use Rattle.std.proofs.lemmas.List.{take-replicate}
use Rattle.sg_unparse.proofs.Writing.{blanks_begun, blanks_more, blanks_all}
use Rattle.sg_unparse.proofs.writer.Writer.blanks.Goals as goal

pub loop-done-init : goal.loop-done-init
loop-done-init c = record {
  bound = omega arith;
  written = λ at u is. blanks_begun at c.args.self.now u;
}

pub loop-done-preserved : goal.loop-done-preserved
loop-done-preserved c = record {
  bound = omega (arith, c.loop-done-test.true, c.min-some.ensures);
  written = λ at u is. blanks_more at c.args.self.now c.loop-done.self c.bytes.new.self u c.loop-done.done c.min-some.result c.split_at.result.0.now (c.split_at.ensures.front ∙ take-replicate c.min-some.result 64 32 (omega (arith, c.min-some.ensures)))
      (c.loop-done.invariant.written at u is) (c.in_ok-bytes.ensures at u is);
}

pub returns : goal.returns
returns c = λ at u is. blanks_all at c.args.self.now c.loop-done.self u c.blank_count-count.result c.loop-done.done c.blank_count-count.ensures c.loop-done.invariant.bound c.loop-done-test.false (c.loop-done.invariant.written at u is)
