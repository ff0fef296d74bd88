use Rattle.std.proofs.Common.{◌≡◌}
use Rattle.std.specs.Prelude.{map}
use Rattle.sg_kinds.specs.Instances.{below}
use Rattle.sg_dependencies.specs.Frames.{frame_of}
use Rattle.sg_dependencies.proofs.frame.frames.Given as goal

abbrev pub invariant-loop-op : goal.invariant-loop-op
invariant-loop-op l = l.frames.items ≡ map (frame_of l.rules) (below l.op)
