use Rattle.std.proofs.Common.{◌-◌, arith}
use Rattle.sg_patterns.proofs.Flags.{begins-more}
use Rattle.sg_patterns.proofs.marks.mark_begins.Goals as goal

pub loop-k-preserved : goal.loop-k-preserved
loop-k-preserved c =
    let p = c.args.program.now in
    let l = c.loop-k in
    (omega (arith, l.invariant.0), begins-more p c.args.starts c.args.finals.now l.begins (l.k - 1) l.k c.begins_at.result c.requires.ordered (omega arith) (omega (arith, l.invariant.0, c.requires.ordered.each)) c.begins_at.ensures l.invariant.1)
