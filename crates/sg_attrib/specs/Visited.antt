-- What a visit of a node needs and what it stores.
use Rattle.std.specs.Prelude.{◌≡◌, ℕ, ◌<◌, ◌≤◌, List, ◌∷◌, Some, slice_get, Contains, map, Result, OnOk, MatchResult}
use Rattle.sg_kinds.specs.Terms.{Term}
use Rattle.sg_kinds.specs.declared.spec.Rules.{Rules}
use Rattle.sg_kinds.specs.declared.spec.Rule.{Rule}
use Rattle.sg_kinds.specs.declared.spec.Occurrence.{Occurrence}
use Rattle.sg_kinds.specs.Outcome.{outcome}
use Rattle.sg_kinds.specs.Places.{Place}
use Rattle.sg_kinds.specs.Nets.{Reference, net_of, referred}
use Rattle.sg_kinds.specs.Instances.{Site, site_of}
use Rattle.sg_kinds.specs.declared.plans.Plans.{Plans}
use Rattle.sg_kinds.specs.declared.plans.PlanStep.{PlanStep}
use Rattle.sg_kinds.specs.declared.plans.PlanStep.TheVariants.{Eval, Visit}
use Rattle.sg_kinds.specs.Visits.{visit_count}
use Rattle.sg_eval.specs.declared.journal.Instance.{Instance}
use Rattle.sg_forest.specs.declared.node_id.NodeId.{NodeId}
use Rattle.sg_forest.specs.Trees.{Climbs, IsInside}
use Rattle.sg_groves.specs.Grove.{Grove, nodes}
use Rattle.sg_groves.specs.Stored.{value_there}
use Rattle.sg_groves.specs.Holds.{IsPlaced}
use Rattle.sg_groves.specs.IsRight.{IsRightAt}
use Rattle.sg_groves.specs.Unchanged.{OnlyStored}
use Rattle.sg_plans.specs.Segments.{IsGivenBy, IsTaken}
use Rattle.sg_plans.specs.Stepping.{IsOfStep, steps_of}
use Rattle.sg_terms.specs.Found.{op_at}
use Rattle.sg_terms.specs.Occurrences.{IsBearer, value_for}
use Rattle.sg_terms.specs.Entries.{Gained, GainedAll}

-- the references of a set have their from-scratch values, at the nodes of the term that a root holds
abbrev pub AreRight : Grove → NodeId → Term → (Reference Place → Type 0) → Type 0
AreRight g root t refs = (a : Reference Place) (m : NodeId) → refs a → Climbs (nodes g) a.node m root
    → IsRightAt g t a.node m a.slot

-- what is known as visit k of the node at u begins: what it takes, and what the visits before it gave
pub data IsKnown (rules : Rules) (plans : Plans) (k : ℕ) (t : Term) (u : Place) (a : Reference Place) : Type 0 where
  taken : IsTaken rules plans t u k a → IsKnown rules plans k t u a
  earlier : (j : ℕ) → j < k → IsGivenBy rules plans t u j a → IsKnown rules plans k t u a

-- what it gives
abbrev pub IsGiven : Rules → Plans → ℕ → Term → Place → Reference Place → Type 0
IsGiven rules plans k t u a = IsGivenBy rules plans t u k a

-- what a step of the node at u needs: the arguments of its equation, or what is known as the child's visit begins
pub record IsArgument (rules : Rules) (r : ℕ) (t : Term) (u : Place) (a : Reference Place) : Type 0 where
  pub rule : Rule
  pub at : slice_get rules.rules r ≡ Some rule
  pub occurrence : Occurrence
  pub names : Contains rule.args occurrence
  pub is : a ≡ referred (net_of t) u occurrence

abbrev pub IsNeeded : Rules → Plans → PlanStep → Term → Place → Reference Place → Type 0
IsNeeded rules plans (Eval r) t u a = IsArgument rules r t u a
IsNeeded rules plans (Visit k j) t u a = IsKnown rules plans j t (k ∷ u) a

-- what the step gives
pub record IsStepGiven (rules : Rules) (plans : Plans) (s : PlanStep) (t : Term) (u : Place)
    (a : Reference Place) : Type 0 where
  pub site : Site Place
  pub found : site_of rules (net_of t) a ≡ Some site
  pub of_step : IsOfStep rules plans t u s site

-- a slot of a node of the node's own term, which is one of a set of references
pub record IsSlotOf (refs : Term → Place → Reference Place
    → Type 0) (g : Grove) (n m : NodeId) (slot : ℕ) : Type 0 where
  pub root : NodeId
  pub term : Term
  pub place : Place
  pub placed : IsPlaced g root term place n
  pub way : Place
  pub climbs : Climbs (nodes g) way m root
  pub of_refs : refs term place (record { node = way; slot = slot })

-- the node has a visit k
pub record IsVisited (plans : Plans) (g : Grove) (n : NodeId) (k : ℕ) : Type 0 where
  pub op : ℕ
  pub is : op_at g n ≡ Some op
  pub low : 1 ≤ k
  pub high : (x : _) → nodes g n ≡ Some x → k ≤ visit_count plans x.label.phylum

-- a step of one of its visits
pub record IsStepAt (plans : Plans) (g : Grove) (n : NodeId) (s : PlanStep) : Type 0 where
  pub visit : ℕ
  pub visited : IsVisited plans g n visit
  pub place : ℕ
  pub at : slice_get (steps_of plans visited.op visit) place ≡ Some s

-- a call at a node stores what it gives, rightly where what it needs is right, and lists it once
pub record Gives {A E : Type 0} (needs gives : Term → Place → Reference Place
    → Type 0) (old new : Grove) (was now : List Instance) (n : NodeId) (r : Result A E) : Type 0 where
  pub values : (root : NodeId) (t : Term) (u : Place) → IsPlaced old root t u n → AreRight old root t (needs t u)
      → OnOk r (AreRight new root t (gives t u))
  pub frame : OnlyStored old new (IsSlotOf gives old n)
  pub noted : (root : NodeId) (t : Term) (u : Place) → IsPlaced old root t u n
      → MatchResult r (λ _. GainedAll old root t (gives t u) was now) (λ _. Gained old root t (gives t u) was now)

-- nothing
abbrev pub IsNothing : Term → Place → Reference Place → Type 0
IsNothing t u a = ⊥

-- what the visits of the node at u before visit k give
pub record IsGivenUpTo (rules : Rules) (plans : Plans) (k : ℕ) (t : Term) (u : Place)
    (a : Reference Place) : Type 0 where
  pub visit : ℕ
  pub less : visit < k
  pub given : IsGivenBy rules plans t u visit a

-- what has an equation
abbrev pub HasEquation : Rules → Term → Place → Reference Place → Type 0
HasEquation rules t u a = (i : Site Place) × (site_of rules (net_of t) a ≡ Some i)

-- each equation at the nodes of a tree has there, as the stored value of what it defines, its outcome on the stored
-- values of its arguments
pub record IsSolved (g : Grove) (root : NodeId) : Type 0 where
  pub each : (n m : NodeId) (slot : ℕ) (r : Rule) → IsInside (nodes g) n root → op_at g n ≡ Some r.op
      → Contains g.spec.rules r → IsBearer g n r m slot
      → value_there g m slot ≡ outcome g.spec r (map (value_for g n) r.args)
