use Rattle.std.proofs.Common.{refl}
use Rattle.sg_live.proofs.TextLemmas.{escaped_more}
use Rattle.sg_live.proofs.texts.write_string.Goals as goal

pub loop-b-preserved : goal.loop-b-preserved
loop-b-preserved c =
    escaped_more c.push.new.self.items c.loop-b.out.items c.write_byte.new.out.items c.args.text.now c.loop-b.b-index _ c.loop-b-test.true refl c.loop-b.invariant c.in_ok-write_byte.ensures
