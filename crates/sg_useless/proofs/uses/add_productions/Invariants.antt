use Rattle.std.proofs.Common.{◌≡◌, ◌++◌, drop}
use Rattle.std.specs.Prelude.{flat_map}
use Rattle.sg_useless.specs.Uses.{production_uses}
use Rattle.sg_useless.proofs.uses.add_productions.Given as goal

abbrev pub invariant-loop-production : goal.invariant-loop-production
invariant-loop-production l = l.uses.items ++ flat_map (production_uses l.spec) (drop l.production-index l.spec.productions) ≡ l.initial.uses.items ++ flat_map (production_uses l.spec) l.spec.productions
