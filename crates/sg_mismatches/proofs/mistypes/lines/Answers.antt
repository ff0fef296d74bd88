use Rattle.sg_mismatches.specs.Mistypes.{mistyped_text}
use Rattle.sg_mismatches.proofs.Lines.{one_more}
use Rattle.sg_mismatches.proofs.mistypes.lines.Goals as goal

pub loop-mistyped-preserved : goal.loop-mistyped-preserved
loop-mistyped-preserved c = record {
  text =
      one_more (mistyped_text c.args.bytes.now c.args.tokens.now c.args.names.now.phyla) c.args.found.now c.loop-mistyped.mistyped-index c.mistyped-item.result c.loop-mistyped.out.items
      c.write_mistyped.new.out.items c.loop-mistyped-test.true c.mistyped-item.is c.loop-mistyped.invariant.text c.in_ok-known.ensures.text;
  known = c.in_ok-known.ensures.point;
}
