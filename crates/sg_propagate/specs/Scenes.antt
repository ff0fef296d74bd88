-- A tree in which a subtree has just taken another's place, and what of it has its value of now.
use Rattle.std.specs.Prelude.{◌≡◌, ◌≢◌, ℕ, suc, Some, Contains}
use Rattle.sg_kinds.specs.Values.{Value}
use Rattle.sg_kinds.specs.Terms.{Term}
use Rattle.sg_kinds.specs.Specification.{rules_of}
use Rattle.sg_kinds.specs.Places.{Place, sub, put}
use Rattle.sg_kinds.specs.Nets.{Reference, label_of, net_of, phylum_at}
use Rattle.sg_kinds.specs.Instances.{Site, site_of}
use Rattle.sg_kinds.specs.FromScratch.{value_in}
use Rattle.sg_kinds.specs.Dependencies.{IsAttr}
use Rattle.sg_kinds.specs.declared.plans.Plans.{Plans}
use Rattle.sg_kinds.specs.declared.spec.Occurrence.{Occurrence}
use Rattle.sg_kinds.specs.declared.spec.Spec.{Spec}
use Rattle.sg_forest.specs.declared.node_id.NodeId.{NodeId}
use Rattle.sg_forest.specs.Trees.{IsInside, IsLive, Climbs}
use Rattle.sg_forest.specs.Steps.{SameSort}
use Rattle.sg_groves.specs.Evaluated.{IsChanged, IsEvaluated}
use Rattle.sg_groves.specs.Grove.{Grove, nodes}
use Rattle.sg_groves.specs.Holds.{IsPlaced}
use Rattle.sg_groves.specs.Stored.{number_at, value_there}
use Rattle.sg_plans.specs.Planned.{IsPlanned}
use Rattle.sg_plans.specs.Segments.{IsOutside}
use Rattle.sg_terms.specs.Occurrences.{node_there}
use Rattle.sg_propagate.specs.Worklist.{Worklist}

-- the root of the tree, the term that it held, the place of the exchange, the new subterm with its top, and the old one's top
pub record Scene : Type 0 where
  pub spec : Spec
  pub root : NodeId
  pub was : Term
  pub place : Place
  pub part : Term
  pub top : NodeId
  pub left : NodeId

-- the term that it holds now
abbrev pub term_now : Scene → Term
term_now sc = put sc.was sc.place sc.part

-- what a reference's value is, and what it was
abbrev pub value_now : Scene → Reference Place → Value
value_now sc a = value_in sc.spec (put sc.was sc.place sc.part) a

abbrev pub value_was : Scene → Reference Place → Value
value_was sc a = value_in sc.spec sc.was a

-- whether that is another one, and whether its equation is to be evaluated
abbrev pub IsOther : Scene → Reference Place → Type 0
IsOther sc a = IsChanged sc.spec sc.was sc.place sc.part a

abbrev pub IsMeant : Scene → Reference Place → Type 0
IsMeant sc a = IsEvaluated sc.spec sc.was sc.place sc.part a

-- a reference has an equation, which is not to be evaluated
pub record IsCalm (sc : Scene) (a : Reference Place) : Type 0 where
  pub site : Site Place
  pub found : site_of (rules_of sc.spec) (net_of (term_now sc)) a ≡ Some site
  pub still : IsMeant sc a → ⊥

-- each slot that is noted has another value
pub record IsNoted (sc : Scene) (g : Grove) (x : ℕ × ℕ) : Type 0 where
  pub ref : Reference Place
  pub node : NodeId
  pub is : x ≡ (node.key, ref.slot)
  pub climbs : Climbs (nodes g) ref.node node sc.root
  pub other : IsOther sc ref

abbrev pub AreNoted : Scene → Grove → Worklist → Type 0
AreNoted sc g w = (x : ℕ × ℕ) → Contains w.changed x → IsNoted sc g x

-- the tree and the worklist while values are brought up to date: the old top keeps its values, and what is not to be
-- evaluated has its value
pub record IsStaged (plans : Plans) (sc : Scene) (g : Grove) (w : Worklist) : Type 0 where
  pub spec_is : g.spec ≡ sc.spec
  pub placed : IsPlaced g sc.root (term_now sc) sc.place sc.top
  pub was_planned : IsPlanned sc.spec plans sc.was
  pub planned : IsPlanned sc.spec plans (term_now sc)
  pub apart : IsInside (nodes g) sc.left sc.root → ⊥
  pub kept : (X slot : ℕ) → phylum_at sc.spec.ops (label_of (sub (term_now sc) sc.place)) ≡ Some X → IsAttr (rules_of sc.spec) X slot → value_there g sc.left slot ≡ value_was sc (record { node = sc.place; slot = slot })
  pub calm : (a : Reference Place) (m : NodeId) → IsCalm sc a → Climbs (nodes g) a.node m sc.root → value_there g m a.slot ≡ value_now sc a
  pub noted : AreNoted sc g w

-- a reference has its value; outside the new subterm its slot is noted where that is another one, and its node is active
-- where besides the equation is that of the node above
pub record IsFine (sc : Scene) (g : Grove) (w : Worklist) (a : Reference Place) (m : NodeId) : Type 0 where
  pub right : value_there g m a.slot ≡ value_now sc a
  pub noted : IsOutside sc.place a.node → IsOther sc a → Contains w.changed (m.key, a.slot)
  pub awake : IsOutside sc.place a.node → IsOther sc a → (i : Site Place) → site_of (rules_of sc.spec) (net_of (term_now sc)) a ≡ Some i → i.node ≢ a.node → Contains w.active m.key

abbrev pub AreFine : Scene → Grove → Worklist → (Reference Place → Type 0) → Type 0
AreFine sc g w refs = (a : Reference Place) (m : NodeId) → refs a → Climbs (nodes g) a.node m sc.root → IsFine sc g w a m

-- what equations outside the new subterm define has the values of before still
abbrev pub AreStale : Scene → Grove → (Reference Place → Type 0) → Type 0
AreStale sc g refs = (a : Reference Place) (m : NodeId) (i : Site Place) → refs a → site_of (rules_of sc.spec) (net_of (term_now sc)) a ≡ Some i → IsOutside sc.place i.node → Climbs (nodes g) a.node m sc.root → value_there g m a.slot ≡ value_was sc a

-- two nodes of one phylum, whose attributes have numbers at both
pub record AreTops (g : Grove) (top left : NodeId) : Type 0 where
  pub top_live : IsLive (nodes g) top
  pub left_live : IsLive (nodes g) left
  pub phyla : SameSort (λ k. k.phylum) (nodes g) top left
  pub slots : (x : _) (slot id : ℕ) → nodes g top ≡ Some x → IsAttr (rules_of g.spec) x.label.phylum slot → number_at g top slot ≡ Some id → (other : ℕ) × (number_at g left slot ≡ Some other)

-- an argument at a node shows another value: at the new top, than the old one has; elsewhere its slot is noted
pub data ShowsOther (g : Grove) (top left n : NodeId) (w : Worklist) (o : Occurrence) : Type 0 where
  own : o.at ≡ 0 → Contains w.changed (n.key, o.slot) → ShowsOther g top left n w o
  at_top : (k : ℕ) → o.at ≡ suc k → node_there g.trees n o.at ≡ Some top → value_there g top o.slot ≢ value_there g left o.slot → ShowsOther g top left n w o
  below : (k : ℕ) (m : NodeId) → o.at ≡ suc k → node_there g.trees n o.at ≡ Some m → m ≢ top → Contains w.changed (m.key, o.slot) → ShowsOther g top left n w o

-- the tree just after the exchange: the old top has its values, and so has what is defined outside the new subterm
pub record IsSetUp (plans : Plans) (sc : Scene) (g : Grove) : Type 0 where
  pub spec_is : g.spec ≡ sc.spec
  pub placed : IsPlaced g sc.root (term_now sc) sc.place sc.top
  pub was_planned : IsPlanned sc.spec plans sc.was
  pub planned : IsPlanned sc.spec plans (term_now sc)
  pub apart : IsInside (nodes g) sc.left sc.root → ⊥
  pub kept : (X slot : ℕ) → phylum_at sc.spec.ops (label_of (sub (term_now sc) sc.place)) ≡ Some X → IsAttr (rules_of sc.spec) X slot → value_there g sc.left slot ≡ value_was sc (record { node = sc.place; slot = slot })
  pub stale : (a : Reference Place) (m : NodeId) (i : Site Place) → site_of (rules_of sc.spec) (net_of (term_now sc)) a ≡ Some i → IsOutside sc.place i.node → a.node ≢ sc.place → Climbs (nodes g) a.node m sc.root → value_there g m a.slot ≡ value_was sc a
