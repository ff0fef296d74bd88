use Rattle.std.proofs.Common.{◌≡◌, ◌++◌, drop}
use Rattle.std.specs.Prelude.{flat_map}
use Rattle.sg_useless.specs.Useless.{production_steps}
use Rattle.sg_useless.proofs.finding.production_steps.Given as goal

abbrev pub invariant-loop-production : goal.invariant-loop-production
invariant-loop-production l = l.steps.items ++ flat_map production_steps (drop l.production-index l.productions) ≡ flat_map production_steps l.productions
