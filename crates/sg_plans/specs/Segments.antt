-- The visits of a node as segments of the equations at it and below it, and what each visit takes and gives.
use Rattle.std.specs.Prelude.{◌≡◌, ℕ, ◌≤◌, true, List, [], ◌∷◌, ◌++◌, Some, slice_index}
use Rattle.sg_kinds.specs.Values.{Value}
use Rattle.sg_kinds.specs.Terms.{Term}
use Rattle.sg_kinds.specs.declared.spec.Rules.{Rules}
use Rattle.sg_kinds.specs.Specification.{phylum_of, is_inherited}
use Rattle.sg_kinds.specs.Places.{Place, sub}
use Rattle.sg_kinds.specs.Nets.{Reference, Operation, Holding, label_of, phylum_at, referred, net_of}
use Rattle.sg_kinds.specs.Instances.{Site, site_of}
use Rattle.sg_orders.specs.Keys.{operator_in}
use Rattle.sg_kinds.specs.declared.plans.Plans.{Plans}
use Rattle.sg_kinds.specs.Visits.{row_at, visit_count, belongs, seat, position_in}
use Rattle.sg_orders.specs.LiveSites.{IsLive}

-- a node of an operator stands at u
abbrev pub IsNodeAt : Term → Place → Type 0
IsNodeAt t u = label_of (sub t u) ≡ Operation (operator_in t u)

-- it has a visit j
pub record HasVisit (rules : Rules) (plans : Plans) (t : Term) (u : Place) (j : ℕ) : Type 0 where
  pub node : IsNodeAt t u
  pub phylum : ℕ
  pub left : phylum_of rules.ops (operator_in t u) ≡ Some phylum
  pub low : 1 ≤ j
  pub high : j ≤ visit_count plans phylum

-- the position of the node at u at which position q of the node w steps below it is reached, read upward as keys are
abbrev pub position_at : Rules → Plans → Term → List ℕ → Place → ℕ → ℕ
position_at rules plans t [] u q = q
position_at rules plans t (k ∷ w) u q = position_at rules plans t w u
    (seat rules plans (operator_in t (w ++ u)) k (belongs rules plans (operator_in t (k ∷ w ++ u)) q))

-- the visit of the node at u in which it is reached
abbrev pub visit_at : Rules → Plans → Term → List ℕ → Place → ℕ → ℕ
visit_at rules plans t w u q = belongs rules plans (operator_in t u) (position_at rules plans t w u q)

-- the position of an equation at its own node, and what it defines
abbrev pub position_of : Rules → Plans → Site Place → ℕ
position_of rules plans i = position_in rules plans i.rule.op i.rule.target

abbrev pub bearer : Term → Site Place → Reference Place
bearer t i = referred (net_of t) i.node i.rule.target

-- an equation of visit j of the node at u
pub record IsOfVisit (rules : Rules) (plans : Plans) (t : Term) (u : Place) (j : ℕ) (i : Site Place) : Type 0 where
  pub live : IsLive rules t i
  pub way : List ℕ
  pub below : i.node ≡ way ++ u
  pub visit : visit_at rules plans t way u (position_of rules plans i) ≡ j

-- what visit j of the node at u gives: the references that its equations define
pub record IsGivenBy (rules : Rules) (plans : Plans) (t : Term) (u : Place) (j : ℕ) (a : Reference Place) : Type 0 where
  pub site : Site Place
  pub found : site_of rules (net_of t) a ≡ Some site
  pub of_visit : IsOfVisit rules plans t u j site

-- what it takes: the inherited attributes of the node of visits up to j
pub record IsTaken (rules : Rules) (plans : Plans) (t : Term) (u : Place) (j : ℕ) (a : Reference Place) : Type 0 where
  pub node : a.node ≡ u
  pub phylum : ℕ
  pub left : phylum_at rules.ops (label_of (sub t u)) ≡ Some phylum
  pub inherited : is_inherited rules.phyla phylum a.slot ≡ true
  pub visit : slice_index (row_at plans.visits phylum) a.slot ≤ j

-- a slot of a leaf, whose value is the leaf's own
pub record IsLeafSlot (t : Term) (a : Reference Place) : Type 0 where
  pub phylum : ℕ
  pub value : Value
  pub label : label_of (sub t a.node) ≡ Holding phylum value

-- a place that is not at u nor below it
abbrev pub IsOutside : Place → Place → Type 0
IsOutside u v = (w : List ℕ) → v ≡ w ++ u → ⊥
