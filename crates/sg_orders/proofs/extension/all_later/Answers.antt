use Rattle.sg_orders.proofs.Later.{all_later_more}
use Rattle.sg_orders.proofs.extension.all_later.Goals as goal

pub loop-row-preserved : goal.loop-row-preserved
loop-row-preserved c = all_later_more c.args.layers.now c.loop-row.all.items c.push.new.self.items c.loop-row.row-index c.row-item.result c.as_slice.result.now c.in_ok-later.field-0 c.loop-row.invariant c.loop-row-test.true c.row-item.is c.as_slice.ensures c.in_ok-later.ensures.size c.in_ok-later.ensures.holds c.in_ok-push.ensures.items
