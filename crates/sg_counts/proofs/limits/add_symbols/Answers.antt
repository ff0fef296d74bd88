use Rattle.std.proofs.Common.{arith}
use Rattle.std.proofs.lemmas.Grind.{common_steps}
use Rattle.std.proofs.lemmas.Simd.{map-map}
use Rattle.sg_counts.proofs.limits.add_symbols.Goals as goal

pub returns-after-loop-right : goal.returns-after-loop-right
returns-after-loop-right c = grind (arith, common_steps, map-map)
