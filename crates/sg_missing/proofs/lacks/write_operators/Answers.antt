use Rattle.sg_missing.specs.Lacks.{lacks_of}
use Rattle.sg_missing.proofs.Below.{flat_step}
use Rattle.sg_missing.proofs.lacks.write_operators.Goals as goal

pub loop-number-preserved : goal.loop-number-preserved
loop-number-preserved c = flat_step (lacks_of c.args.names.now c.args.defined.now) c.loop-number.number _ _ _ c.loop-number.invariant c.in_ok-write_operator.ensures
