use Rattle.std.proofs.Common.{◌<◌, length, arith}
use Rattle.sg_patterns.proofs.Flags.{finals-more, dead-more}
use Rattle.sg_patterns.proofs.marks.step.Goals as goal

pub loop-k-preserved : goal.loop-k-preserved
loop-k-preserved c =
    let p = c.args.program.now in
    let l = c.loop-k in
    let within : l.k < length l.finals = omega arith in
    let there : l.k < length p.nodes.items = omega arith in (
      finals-more p c.args.begins.now l.finals c.args.byte l.k c.final_at-last.result c.requires.ordered within c.final_at-last.ensures l.invariant.0,
      rw c.is_leaf.ensures (dead-more p l.finals l.k l.alive c.final_at-last.result c.index.result.now within there c.index.ensures l.invariant.1),
    )
