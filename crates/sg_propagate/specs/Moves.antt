-- What a call of a propagation does.
use Rattle.std.specs.Prelude.{◌≡◌, ◌≢◌, ◌⊎◌, ℕ, ◌-◌, ◌<◌, ◌≤◌, false, List, ◌∷◌, ◌++◌, length, Some, slice_get, slice_index, Contains, Result, OnOk, MatchResult}
use Rattle.sg_kinds.specs.Terms.{Term}
use Rattle.sg_kinds.specs.Places.{Place}
use Rattle.sg_kinds.specs.Nets.{Reference, net_of}
use Rattle.sg_kinds.specs.Instances.{Site, site_of}
use Rattle.sg_kinds.specs.Specification.{is_inherited, rules_of}
use Rattle.sg_kinds.specs.Dependencies.{IsAttr}
use Rattle.sg_kinds.specs.Visits.{row_at}
use Rattle.sg_kinds.specs.declared.plans.PlanStep.TheVariants.{Visit}
use Rattle.sg_kinds.specs.declared.plans.Plans.{Plans}
use Rattle.sg_kinds.specs.declared.spec.Rules.{Rules}
use Rattle.sg_eval.specs.declared.journal.Instance.{Instance}
use Rattle.sg_forest.specs.declared.node_id.NodeId.{NodeId}
use Rattle.sg_forest.specs.Trees.{Climbs, IsChild, IsInside}
use Rattle.sg_groves.specs.Grove.{Grove, nodes}
use Rattle.sg_groves.specs.Stored.{value_there}
use Rattle.sg_groves.specs.Unchanged.{OnlyStored}
use Rattle.sg_attrib.specs.Visited.{IsKnown, IsVisited}
use Rattle.sg_plans.specs.Segments.{IsGivenBy, IsOutside}
use Rattle.sg_plans.specs.Stepping.{IsGivenBefore, steps_of}
use Rattle.sg_terms.specs.Entries.{Gained, GainedAll}
use Rattle.sg_trail.specs.Trails.{AreCovered, AreStorable, IsAnySlot, TellsNumbers, Way}
use Rattle.sg_propagate.specs.Worklist.{Worklist}
use Rattle.sg_propagate.specs.Scenes.{Scene, term_now, value_now, IsMeant, IsStaged, AreFine, AreNoted, AreStale}

-- references of a term at a place
abbrev pub Refs : Type 1
Refs = Rules → Term → Place → Reference Place → Type 0

-- what is known as step `from` of visit k begins, and what that step and those behind it give
abbrev pub IsKnownFrom : Plans → ℕ → ℕ → Refs
IsKnownFrom plans k from rules t u a = IsKnown rules plans k t u a ⊎ IsGivenBefore rules plans t u k from a

abbrev pub IsGivenFrom : Plans → ℕ → ℕ → Refs
IsGivenFrom plans k from rules t u a = IsGivenBy rules plans t u k a × (IsGivenBefore rules plans t u k from a → ⊥)

-- what is to be evaluated of these
abbrev pub AreMeant : Scene → (Reference Place → Type 0) → Reference Place → Type 0
AreMeant sc refs a = refs a × IsMeant sc a

-- a slot of a node of the tree, as one of these references
pub record IsRefSlot (g : Grove) (sc : Scene) (refs : Reference Place → Type 0) (m : NodeId) (slot : ℕ) : Type 0 where
  pub ref : Reference Place
  pub of_refs : refs ref
  pub climbs : Climbs (nodes g) ref.node m sc.root
  pub same : slot ≡ ref.slot

-- nothing is forgotten
pub record IsMore (old new : Worklist) : Type 0 where
  pub changed : (x : ℕ × ℕ) → Contains old.changed x → Contains new.changed x
  pub active : (n : ℕ) → Contains old.active n → Contains new.active n

-- a call stores and lists those of these references that are to be evaluated, each once, and then all of them are fine
pub record Moves {A E : Type 0} (sc : Scene) (gives : Reference Place → Type 0) (old new : Grove) (before after : Worklist) (was now : List Instance) (r : Result A E) : Type 0 where
  pub frame : OnlyStored old new (IsRefSlot old sc (AreMeant sc gives))
  pub listed : MatchResult r (λ _. GainedAll old sc.root (term_now sc) (AreMeant sc gives) was now) (λ _. Gained old sc.root (term_now sc) (AreMeant sc gives) was now)
  pub fine : OnOk r (AreFine sc new after gives)
  pub noted : OnOk r (AreNoted sc new after)
  pub more : OnOk r (IsMore before after)

-- the entries tell the numbers of an earlier grove, and cover the tree under a node
pub record IsTracked (first now : Grove) (top : NodeId) (way : Way) : Type 0 where
  pub numbers : TellsNumbers first now way.entries
  pub storable : AreStorable now way.entries
  pub covered : AreCovered now top way.entries

-- a node outside the new subterm, as the scene shows it; the nodes between them are active
pub record IsOnStage (plans : Plans) (sc : Scene) (g : Grove) (w : Worklist) (top left n : NodeId) (v : Place) : Type 0 where
  pub staged : IsStaged plans sc g w
  pub top_is : sc.top ≡ top
  pub left_is : sc.left ≡ left
  pub climbs : Climbs (nodes g) v n sc.root
  pub outside : IsOutside sc.place v
  pub awake : (x y : List ℕ) (j l : ℕ) (m : NodeId) → sc.place ≡ (j ∷ x) ++ ((l ∷ y) ++ v) → Climbs (nodes g) ((l ∷ y) ++ v) m sc.root → Contains w.active m.key

-- a call at a node: whatever the scene, the trail leads back from what it stores; and from a node outside the new subterm it
-- moves on where what it needs is fine, and what it may give is stale
pub record Repairs {A E : Type 0} (plans : Plans) (needs whole gives : Refs) (top left n : NodeId) (old new : Grove) (before after : Worklist) (from to : Way) (was now : List Instance) (r : Result A E) : Type 0 where
  pub stored : OnlyStored old new IsAnySlot
  pub at : to.at ≡ from.at
  pub detached : to.detached ≡ from.detached
  pub tracked : (first : Grove) → IsTracked first old top from → IsTracked first new top to
  pub moves : (sc : Scene) (v : Place) → IsOnStage plans sc old before top left n v → AreFine sc old before (needs (rules_of sc.spec) (term_now sc) v) → AreStale sc old (whole (rules_of sc.spec) (term_now sc) v)
      → Moves sc (gives (rules_of sc.spec) (term_now sc) v) old new before after was now r

-- no synthesized attribute of a visit of a node is noted
abbrev pub IsQuiet : Plans → Grove → NodeId → ℕ → Worklist → Type 0
IsQuiet plans g n k w = (x : _) (slot : ℕ) → nodes g n ≡ Some x → IsAttr (rules_of g.spec) x.label.phylum slot → is_inherited g.spec.phyla x.label.phylum slot ≡ false → slice_index (row_at plans.visits x.label.phylum) slot ≡ k
    → Contains w.changed (n.key, slot) → ⊥

-- the step before step `from` of visit i of an operator is visit k of a child
pub record IsSeat (plans : Plans) (op kid k i from : ℕ) : Type 0 where
  pub low : 1 ≤ i
  pub row : i - 1 < length (row_at plans.steps op)
  pub begun : 1 ≤ from
  pub at : slice_get (steps_of plans op i) (from - 1) ≡ Some (Visit kid k)

-- and it stands so in the plan of the node above a node
pub record IsUp (plans : Plans) (g : Grove) (n : NodeId) (k : ℕ) (above : NodeId) (i from : ℕ) : Type 0 where
  pub kid : ℕ
  pub hangs : IsChild (nodes g) n above kid
  pub visited : IsVisited plans g above i
  pub begun : 1 ≤ from
  pub at : slice_get (steps_of plans visited.op i) (from - 1) ≡ Some (Visit kid k)

-- what became of a value is noted
pub record Announces {A E : Type 0} (old new : Worklist) (n node : NodeId) (slot was now : ℕ) (r : Result A E) : Type 0 where
  pub more : OnOk r (IsMore old new)
  pub noted : OnOk r (was ≢ now → Contains new.changed (node.key, slot))
  pub awake : OnOk r (was ≢ now → node ≢ n → Contains new.active node.key)
  pub only : OnOk r ((x : ℕ × ℕ) → Contains new.changed x → Contains old.changed x ⊎ ((was ≢ now) × (x ≡ (node.key, slot))))

-- the slots of one node
abbrev pub IsSlotAt : NodeId → NodeId → ℕ → Type 0
IsSlotAt top m slot = m ≡ top

-- a slot of the new subterm, or of a reference outside it that is to be evaluated
pub data IsTouched (g : Grove) (sc : Scene) (m : NodeId) (slot : ℕ) : Type 0 where
  within : IsInside (nodes g) m sc.top → IsTouched g sc m slot
  meant : IsRefSlot g sc (IsMeant sc) m slot → IsTouched g sc m slot

-- after the exchange every equation has its value, and those that are to be evaluated are listed, each once
pub record Finishes {A E : Type 0} (sc : Scene) (old new : Grove) (was now : List Instance) (r : Result A E) : Type 0 where
  pub frame : OnlyStored old new (IsTouched old sc)
  pub listed : MatchResult r (λ _. GainedAll old sc.root (term_now sc) (IsMeant sc) was now) (λ _. Gained old sc.root (term_now sc) (IsMeant sc) was now)
  pub right : OnOk r ((a : Reference Place) (m : NodeId) (i : Site Place) → site_of (rules_of sc.spec) (net_of (term_now sc)) a ≡ Some i → Climbs (nodes new) a.node m sc.root → value_there new m a.slot ≡ value_now sc a)
