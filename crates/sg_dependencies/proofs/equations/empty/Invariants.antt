use Rattle.std.proofs.Common.{◌≡◌, take}
use Rattle.std.specs.Prelude.{map}
use Rattle.sg_dependencies.specs.Frames.{Frame}
use Rattle.sg_dependencies.specs.Rounds.{no_pairs}
use Rattle.sg_dependencies.proofs.equations.empty.Given as goal

abbrev pub invariant-loop-frame : goal.invariant-loop-frame
invariant-loop-frame l = l.relations.items ≡ map (λ (f : Frame). no_pairs f.count) (take l.frame-index l.frames)
