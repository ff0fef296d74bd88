use Rattle.std.proofs.Common.{arith}
use Rattle.std.specs.Prelude.{flat_map}
use Rattle.sg_useless.specs.Useless.{production_steps}
use Rattle.sg_useless.proofs.Numbers.{drop_flat}
use Rattle.sg_useless.proofs.finding.production_steps.Goals as goal

pub loop-production-preserved : goal.loop-production-preserved
loop-production-preserved c =
    drop_flat production_steps c.args.productions.now c.loop-production.production-index c.production-item.result c.loop-production.steps.items c.add_production_steps.new.steps.items
    (flat_map production_steps c.args.productions.now) (omega arith) c.production-item.is c.in_ok-add_production_steps.ensures c.loop-production.invariant
