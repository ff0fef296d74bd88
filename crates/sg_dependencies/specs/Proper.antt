-- Equations that define what is theirs to define, and nothing twice.
use Rattle.std.specs.Prelude.{◌≡◌, ◌≢◌, ℕ, zero, suc, Bool, true, not, All, AllPairs}
use Rattle.sg_kinds.specs.declared.spec.Rules.{Rules}
use Rattle.sg_kinds.specs.declared.spec.Rule.{Rule}
use Rattle.sg_kinds.specs.Dependencies.{is_inherited_there}

-- whether p's equations define it: a synthesized attribute or a local of the left side, an inherited attribute of an
-- argument
abbrev pub is_owed : Rules → ℕ → ℕ → ℕ → Bool
is_owed rules p zero slot = not (is_inherited_there rules p zero slot)
is_owed rules p (suc k) slot = is_inherited_there rules p (suc k) slot

abbrev pub IsOwed : Rules → Rule → Type 0
IsOwed rules r = is_owed rules r.op r.target.at r.target.slot ≡ true

-- two equations do not define the same
abbrev pub AreApart : Rule → Rule → Type 0
AreApart r s = r.op ≡ s.op → r.target ≢ s.target

pub record AreProper (rules : Rules) : Type 0 where
  pub owed : All (IsOwed rules) rules.rules
  pub once : AllPairs AreApart rules.rules
