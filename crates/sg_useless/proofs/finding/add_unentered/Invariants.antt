use Rattle.std.proofs.Common.{◌≡◌, ◌++◌}
use Rattle.std.specs.Prelude.{flat_map}
use Rattle.sg_kinds.specs.Instances.{below}
use Rattle.sg_useless.specs.Reach.{flag}
use Rattle.sg_useless.specs.Useless.{unentered_parts}
use Rattle.sg_useless.proofs.finding.add_unentered.Given as goal

abbrev pub invariant-loop-n : goal.invariant-loop-n
invariant-loop-n l = l.parts.items ≡ l.initial.parts.items ++ flat_map (unentered_parts (flag l.entered)) (below l.n)
