-- Why the vertices of an operator depend on each other: ways of steps, and the reasons of their steps.
use Rattle.std.specs.Prelude.{◌≡◌, ℕ, suc, ◌≤◌, List, [], ◌∷◌, ◌++◌, map, Some, slice_get, All, Contains, ⊤}
use Rattle.sg_kinds.specs.declared.spec.Rules.{Rules}
use Rattle.sg_kinds.specs.declared.spec.Rule.{Rule}
use Rattle.sg_kinds.specs.declared.spec.Occurrence.{Occurrence}
use Rattle.sg_kinds.specs.Dependencies.{IsAttr, phylum_there, occurrence}
use Rattle.sg_kinds.specs.Layers.{IsLayering, IsEarlier}
use Rattle.sg_kinds.specs.Visits.{vertex}
use Rattle.sg_dependencies.specs.declared.fault.OrderFault.{OrderFault}
use Rattle.sg_dependencies.specs.declared.fault.OrderFault.TheVariants.{Direct, Induced, Ordered, NoMemory}
pub use Rattle.sg_reasons.specs.declared.why.Cause.{Cause}
use Rattle.sg_reasons.specs.declared.why.Cause.TheVariants.{ByEquation, ByPhylum, ByLayers}
pub use Rattle.sg_reasons.specs.declared.why.Step.{Step}
pub use Rattle.sg_reasons.specs.declared.why.Way.{Way}
pub use Rattle.sg_reasons.specs.declared.why.Reason.{Reason}
pub use Rattle.sg_reasons.specs.declared.why.Path.{Path}

-- equation k, of operator p, names the vertex m and defines the vertex n
pub record IsByEquation (rules : Rules) (p m n k : ℕ) : Type 0 where
  pub rule : Rule
  pub stands : slice_get rules.rules k ≡ Some rule
  pub of_operator : rule.op ≡ p
  pub named : Occurrence
  pub names : Contains rule.args named
  pub from : vertex rules p named ≡ m
  pub to : vertex rules p rule.target ≡ n

-- at an occurrence of p the attributes a and b of X have the numbers m and n
pub record AreAt (rules : Rules) (p at X a b m n : ℕ) : Type 0 where
  pub phylum : phylum_there rules.ops p at ≡ Some X
  pub from_there : IsAttr rules X a
  pub to_there : IsAttr rules X b
  pub from : vertex rules p (occurrence at a) ≡ m
  pub to : vertex rules p (occurrence at b) ≡ n

-- what reason i relates stands so at an occurrence of p; it is none of the first `low`
pub record IsByPhylum (rules : Rules) (reasons : List Reason) (low p m n at i : ℕ) : Type 0 where
  pub reason : Reason
  pub stands : slice_get reasons i ≡ Some reason
  pub later : low ≤ i
  pub placed : AreAt rules p at reason.phylum reason.from reason.to m n

-- at an occurrence of p an attribute comes in an earlier evaluated layer of its phylum than another
pub record IsByLayers (rules : Rules) (p m n at a b : ℕ) : Type 0 where
  pub phylum : ℕ
  pub layer : ℕ → ℕ
  pub layers : IsLayering rules phylum layer
  pub earlier : IsEarlier layer a b
  pub placed : AreAt rules p at phylum a b m n

-- the vertex n of p depends on m for this cause, by reasons of which none is one of the first `low`
abbrev pub IsCause : Rules → List Reason → ℕ → ℕ → ℕ → ℕ → Cause → Type 0
IsCause rules reasons low p m n (ByEquation k) = IsByEquation rules p m n k
IsCause rules reasons low p m n (ByPhylum at i) = IsByPhylum rules reasons low p m n at i
IsCause rules reasons low p m n (ByLayers at a b) = IsByLayers rules p m n at a b

-- the cause is not the layers
abbrev pub IsInducing : Cause → Type 0
IsInducing (ByEquation k) = ⊤
IsInducing (ByPhylum at i) = ⊤
IsInducing (ByLayers at a b) = ⊥

-- steps of p from the vertex m to n
abbrev pub AreSteps : Rules → List Reason → ℕ → ℕ → ℕ → List Step → ℕ → Type 0
AreSteps rules reasons low p m [] n = m ≡ n
AreSteps rules reasons low p m (s ∷ ss) n =
    IsCause rules reasons low p m s.to s.cause × AreSteps rules reasons low p s.to ss n

-- its phylum relates its two attributes: in its operator one step at least, for causes that stand behind the first
-- `low` reasons, leads from the one to the other at an occurrence of the phylum
pub record IsReason (rules : Rules) (reasons : List Reason) (low : ℕ) (r : Reason) : Type 0 where
  pub last : ℕ
  pub placed : AreAt rules r.op r.at r.phylum r.from r.to r.way.from last
  pub steps : AreSteps rules reasons low r.op r.way.from r.way.steps last
  pub some : r.way.steps ≡ [] → ⊥
  pub induced : All (λ (s : Step). IsInducing s.cause) r.way.steps

-- each reason rests on those behind it, so none on itself
abbrev pub AreReasons : Rules → List Reason → Type 0
AreReasons rules reasons = (i : ℕ) (r : Reason) → slice_get reasons i ≡ Some r → IsReason rules reasons (suc i) r

-- the vertices of a way
abbrev pub all_vertices : Way → List ℕ
all_vertices w = w.from ∷ map (λ (s : Step). s.to) w.steps

-- a cycle step by step, and the reasons of its steps
pub record IsPath (rules : Rules) (w : Path) : Type 0 where
  pub steps : AreSteps rules w.reasons 0 w.op w.cycle.from w.cycle.steps w.cycle.from
  pub reasons : AreReasons rules w.reasons

-- the steps lead through the vertices of a cycle, and back to the first
pub record IsAlong (cycle : List ℕ) (w : Way) : Type 0 where
  pub some : cycle ≡ [] → ⊥
  pub vertices : all_vertices w ≡ cycle ++ w.from ∷ []

-- the path is of the fault's operator, along its cycle
abbrev pub IsOf : OrderFault → Path → Type 0
IsOf (Direct op cycle) w = (w.op ≡ op) × IsAlong cycle w.cycle
IsOf (Induced op cycle) w = (w.op ≡ op) × IsAlong cycle w.cycle
IsOf (Ordered op cycle) w = (w.op ≡ op) × IsAlong cycle w.cycle
IsOf NoMemory w = ⊥
