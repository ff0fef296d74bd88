-- The vertices of an operator, and relations between their numbers.
use Rattle.std.specs.Prelude.{◌≡◌, ℕ, zero, suc, ◌+◌, ◌<◌, ◌^◌, Bool, List, All, length}
use Rattle.sg_sets.specs.Rows.{Holds}
use Rattle.sg_kinds.specs.declared.spec.Rules.{Rules}
use Rattle.sg_kinds.specs.declared.spec.Phylum.{Phylum}
use Rattle.sg_kinds.specs.declared.spec.Operator.{Operator}
use Rattle.sg_kinds.specs.declared.spec.Rule.{Rule}
use Rattle.sg_kinds.specs.declared.spec.Occurrence.{Occurrence}
use Rattle.sg_kinds.specs.Specification.{locals_of}
use Rattle.sg_kinds.specs.Instances.{attr_count}
use Rattle.sg_kinds.specs.Dependencies.{phylum_there}
use Rattle.sg_kinds.specs.Visits.{vertex}
use Rattle.sg_kinds.specs.ValidPlans.{vertices}

-- the locals of an operator stand at its left side
abbrev pub locals_there : Rules → ℕ → ℕ → ℕ
locals_there rules p zero = length (locals_of rules.ops p)
locals_there rules p (suc k) = 0

-- an attribute occurrence or a local that is there
abbrev pub IsVertex : Rules → ℕ → Occurrence → Type 0
IsVertex rules p o = o.slot < attr_count rules (phylum_there rules.ops p o.at) + locals_there rules p o.at

-- so few operators, attributes, arguments, locals and equations that vertices and equations have small numbers
pub record AreFew (rules : Rules) : Type 0 where
  pub ops : length rules.ops < 2 ^ 32
  pub attrs : All (λ (x : Phylum). length x.attrs < 2 ^ 22) rules.phyla
  pub args : All (λ (o : Operator). length o.args < 2 ^ 8) rules.ops
  pub locals : All (λ (o : Operator). length o.locals < 2 ^ 20) rules.ops
  pub equations : length rules.rules < 2 ^ 32

-- the phyla of each operator and of its arguments are there
pub record HavePhyla (rules : Rules) : Type 0 where
  pub left : All (λ (o : Operator). o.phylum < length rules.phyla) rules.ops
  pub args : All (λ (o : Operator). All (λ X. X < length rules.phyla) o.args) rules.ops

-- each equation defines and names vertices of its operator
pub record HaveVertices (rules : Rules) : Type 0 where
  pub targets : All (λ (r : Rule). IsVertex rules r.op r.target) rules.rules
  pub args : All (λ (r : Rule). All (IsVertex rules r.op) r.args) rules.rules

-- equations whose numbers are in range
pub record AreInRange (rules : Rules) : Type 0 where
  pub few : AreFew rules
  pub phyla : HavePhyla rules
  pub equations : HaveVertices rules

-- the numbers of two occurrences of p that are related
pub record Numbered (rules : Rules) (p : ℕ) (R : Occurrence → Occurrence → Type 0) (m n : ℕ) : Type 0 where
  pub from : Occurrence
  pub to : Occurrence
  pub related : R from to
  pub from_number : vertex rules p from ≡ m
  pub to_number : vertex rules p to ≡ n

-- rows that relate just the numbers of what R relates
pub record AreRowsOf (rules : Rules) (p : ℕ) (R : Occurrence → Occurrence
    → Type 0) (rows : List (List Bool)) : Type 0 where
  pub size : length rows ≡ vertices rules p
  pub sound : (m n : ℕ) → Holds rows m n → Numbered rules p R m n
  pub whole : (u v : Occurrence) → R u v → Holds rows (vertex rules p u) (vertex rules p v)
