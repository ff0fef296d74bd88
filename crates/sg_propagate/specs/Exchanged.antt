-- What an exchange of two trees does, and what is brought up to date then.
use Rattle.std.specs.Prelude.{◌≡◌, ◌≢◌, ◌↔◌, ℕ, List, [], ◌++◌, Some, Result, OnOk, MatchResult}
use Rattle.sg_kinds.specs.Terms.{Term}
use Rattle.sg_kinds.specs.Dependencies.{IsAttr}
use Rattle.sg_kinds.specs.FromScratch.{value_in}
use Rattle.sg_kinds.specs.Specification.{rules_of}
use Rattle.sg_kinds.specs.Places.{Place, put, sub}
use Rattle.sg_kinds.specs.Nets.{Reference, label_of, phylum_at}
use Rattle.sg_plans.specs.Segments.{IsOutside}
use Rattle.sg_kinds.specs.declared.spec.Spec.{Spec}
use Rattle.sg_eval.specs.declared.journal.Instance.{Instance}
use Rattle.sg_forest.specs.declared.node_id.NodeId.{NodeId}
use Rattle.sg_forest.specs.Trees.{IsInside, IsRoot, Climbs}
use Rattle.sg_groves.specs.Evaluated.{IsEvaluated}
use Rattle.sg_groves.specs.Grove.{Grove, nodes, IsGrove}
use Rattle.sg_groves.specs.Holds.{Holds}
use Rattle.sg_groves.specs.IsRight.{IsRight}
use Rattle.sg_groves.specs.Unchanged.{OnlyStored}
use Rattle.sg_terms.specs.Entries.{Gained, GainedAll}
use Rattle.sg_terms.specs.Kept.{KeepsTermsNotOver}
use Rattle.sg_trail.specs.Trails.{IsAnySlot, IsExchanged, Way}
use Rattle.sg_propagate.specs.Asked.{IsAsked, root_then}
use Rattle.sg_propagate.specs.Moves.{IsTracked}
use Rattle.sg_propagate.specs.Scenes.{Scene}

-- a slot of the new subtree, or of a reference whose equation is evaluated
pub data IsRenewed (spec : Spec) (g : Grove) (detached root : NodeId) (t : Term) (u : Place) (s : Term) (m : NodeId) (slot : ℕ) : Type 0 where
  by_subtree : IsInside (nodes g) m detached → IsRenewed spec g detached root t u s m slot
  by_equation : (a : Reference Place) → IsEvaluated spec t u s a → Climbs (nodes g) a.node m (root_then u root detached) → slot ≡ a.slot → IsRenewed spec g detached root t u s m slot

-- the roots but for the two
abbrev pub KeepsOtherRoots : Grove → Grove → NodeId → NodeId → Type 0
KeepsOtherRoots old new at detached = (n : NodeId) → n ≢ at → n ≢ detached → IsRoot (nodes new) n ↔ IsRoot (nodes old) n

-- what is stored after an exchange in a right tree, what is listed, and that the tree is right then
pub record Renews {A E : Type 0} (spec : Spec) (mid new : Grove) (detached root : NodeId) (t : Term) (u : Place) (s : Term) (was now : List Instance) (r : Result A E) : Type 0 where
  pub top : IsRoot (nodes new) (root_then u root detached)
  pub holds : Holds new (root_then u root detached) (put t u s)
  pub frame : OnlyStored mid new (IsRenewed spec mid detached root t u s)
  pub listed : MatchResult r (λ _. GainedAll mid (root_then u root detached) (put t u s) (IsEvaluated spec t u s) was now) (λ _. Gained mid (root_then u root detached) (put t u s) (IsEvaluated spec t u s) was now)
  pub right : OnOk r (IsRight new (root_then u root detached))

-- the node that a change reaches stands at the place of the exchange or above it: everything outside it has the values of
-- before, and so have its own attributes where it is not the root
pub record Reaches (spec : Spec) (g : Grove) (root : NodeId) (t : Term) (u : Place) (s : Term) (n : NodeId) : Type 0 where
  pub place : Place
  pub way : List ℕ
  pub over : u ≡ way ++ place
  pub climbs : Climbs (nodes g) place n root
  pub outside : (a : Reference Place) → IsOutside place a.node → value_in spec (put t u s) a ≡ value_in spec t a
  pub own : (X slot : ℕ) → place ≢ [] → phylum_at spec.ops (label_of (sub (put t u s) place)) ≡ Some X → IsAttr (rules_of spec) X slot
      → value_in spec (put t u s) (record { node = place; slot = slot }) ≡ value_in spec t (record { node = place; slot = slot })

-- the same, by a scene
abbrev pub IsReach : Scene → Grove → NodeId → Type 0
IsReach sc g n = Reaches sc.spec g sc.root sc.was sc.place sc.part n

-- two trees change places, numbers are stored then, and the trail leads back; a right tree is so again
pub record Exchanges {A E : Type 0} (old new : Grove) (at detached : NodeId) (from to : Way) (was now : List Instance) (r : Result A E) : Type 0 where
  pub between : Grove
  pub grove : IsGrove between
  pub exchanged : IsExchanged old between at detached
  pub stored : OnlyStored between new IsAnySlot
  pub at_is : to.at ≡ from.at
  pub detached_is : to.detached ≡ from.detached
  pub tracked : IsTracked old old detached from → IsTracked old new detached to
  pub freed : IsRoot (nodes new) at
  pub roots : KeepsOtherRoots old new at detached
  pub terms : KeepsTermsNotOver old new at
  pub renews : (root : NodeId) (t : Term) (u : Place) (s : Term) → IsAsked old at detached root t u s → Renews old.spec between new detached root t u s was now r
