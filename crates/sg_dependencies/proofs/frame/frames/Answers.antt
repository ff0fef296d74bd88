use Rattle.std.specs.Prelude.{◌≡◌, length}
use Rattle.std.proofs.Common.{arith}
use Rattle.sg_dependencies.proofs.Framed.{frames_all}
use Rattle.sg_dependencies.proofs.frame.frames.Goals as goal

pub returns : goal.returns
returns c = frames_all c.args.rules.now c.loop-op.op c.loop-op.frames.items (let end : c.loop-op.op ≡ length c.args.rules.now.ops = omega arith in end) c.loop-op.invariant
