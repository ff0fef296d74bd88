-- What is reported of equations that have no order.
use Rattle.std.specs.Prelude.{ℕ, ◌<◌, List, length, ⊤}
use Rattle.sg_kinds.specs.declared.spec.Rules.{Rules}
use Rattle.sg_kinds.specs.declared.spec.Occurrence.{Occurrence}
use Rattle.sg_kinds.specs.Dependencies as depend
use Rattle.sg_kinds.specs.Layers.{IsLayering, Extended}
use Rattle.sg_dependencies.specs.Ordered.{IsAcyclic}
use Rattle.sg_dependencies.specs.Vertices.{Numbered}
use Rattle.sg_dependencies.specs.Reported.{IsReported}
use Rattle.sg_dependencies.specs.declared.fault.OrderFault.{OrderFault}
use Rattle.sg_dependencies.specs.declared.fault.OrderFault.TheVariants.{Direct, Induced, Ordered, NoMemory}

-- a relation for each operator, of which none has a cycle
abbrev pub AreAcyclic : Rules → (ℕ → Occurrence → Occurrence → Type 0) → Type 0
AreAcyclic rules R = (p : ℕ) → p < length rules.ops → IsAcyclic (R p)

-- the first operator whose relation has a cycle, and that cycle in numbers of vertices
pub record IsFirst (rules : Rules) (R : ℕ → Occurrence → Occurrence → Type 0) (p : ℕ) (c : List ℕ) : Type 0 where
  pub there : p < length rules.ops
  pub before : (q : ℕ) → q < p → IsAcyclic (R q)
  pub cycle : IsReported (Numbered rules p (R p)) c

-- the first operator whose extended dependencies have a cycle under the layers, and that cycle
pub record IsUnordered (rules : Rules) (p : ℕ) (c : List ℕ) : Type 0 where
  pub layer : ℕ → ℕ → ℕ
  pub layers : (X : ℕ) → X < length rules.phyla → IsLayering rules X (layer X)
  pub first : IsFirst rules (Extended rules layer) p c

abbrev pub IsFault : Rules → OrderFault → Type 0
IsFault rules (Direct p c) = IsFirst rules (depend.Direct rules) p c
IsFault rules (Induced p c) = AreAcyclic rules (depend.Direct rules) × IsFirst rules (depend.InOperator rules) p c
IsFault rules (Ordered p c) = AreAcyclic rules (depend.Direct rules) × AreAcyclic rules (depend.InOperator rules)
    × IsUnordered rules p c
IsFault rules NoMemory = ⊤
