use Rattle.std.proofs.Common.{◌≡◌, map, take}
use Rattle.sg_reasons.specs.Reasons.{Step}
use Rattle.sg_reasons.proofs.seeking.way.Given as goal

abbrev pub invariant-loop-to : goal.invariant-loop-to
invariant-loop-to l = map (λ (s : Step). s.to) l.steps.items ≡ take l.to-index l.others
