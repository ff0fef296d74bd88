-- When attribute equations are ordered.
use Rattle.std.specs.Prelude.{ℕ, ◌<◌, length}
use Rattle.sg_kinds.specs.declared.spec.Rules.{Rules}
use Rattle.sg_kinds.specs.declared.spec.Occurrence.{Occurrence}
use Rattle.sg_kinds.specs.Layers.{IsLayering, Extended}

-- a chain of related vertices
pub data Leads (R : Occurrence → Occurrence → Type 0) : Occurrence → Occurrence → Type 0 where
  one : (u v : Occurrence) → R u v → Leads R u v
  more : (u v w : Occurrence) → R u v → Leads R v w → Leads R u w

abbrev pub IsAcyclic : (Occurrence → Occurrence → Type 0) → Type 0
IsAcyclic R = (u : Occurrence) → Leads R u u → ⊥

-- there are layers with which no operator's extended dependencies have a cycle
pub record IsOrdered (rules : Rules) : Type 0 where
  pub layer : ℕ → ℕ → ℕ
  pub layers : (X : ℕ) → X < length rules.phyla → IsLayering rules X (layer X)
  pub acyclic : (p : ℕ) → p < length rules.ops → IsAcyclic (Extended rules layer p)
