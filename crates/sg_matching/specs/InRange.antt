-- The phyla of which a pattern names made terms.
use Rattle.std.specs.Prelude.{◌<◌, length, ⊤}
use Rattle.sg_kinds.specs.Expressions.{Pattern, Patterns, MadeAs, Applied, NoPattern, AndPattern}
use Rattle.sg_kinds.specs.declared.spec.Spec.{Spec}

-- each of them is there
abbrev mutual
  pub IsInRange : Spec → Pattern → Type 0
  IsInRange spec (MadeAs made p) = p < length spec.phyla
  IsInRange spec (Applied op ps) = AreInRange spec ps
  IsInRange spec p = ⊤

  pub AreInRange : Spec → Patterns → Type 0
  AreInRange spec NoPattern = ⊤
  AreInRange spec (AndPattern p ps) = IsInRange spec p × AreInRange spec ps
