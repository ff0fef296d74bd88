-- What calls note in a journal, as the entries of instances of the term that a root holds.
use Rattle.std.specs.Prelude.{◌≡◌, ◌≢◌, List, [], ◌∷◌, ◌++◌, All, AllPairs, Contains, Some, slice_get, ⊤}
use Rattle.sg_kinds.specs.Terms.{Term}
use Rattle.sg_kinds.specs.Specification.{rules_of}
use Rattle.sg_kinds.specs.Places.{Place}
use Rattle.sg_kinds.specs.Nets.{Reference, net_of}
use Rattle.sg_kinds.specs.Instances.{Site, site_of}
use Rattle.sg_eval.specs.declared.journal.Instance.{Instance}
use Rattle.sg_forest.specs.declared.node_id.NodeId.{NodeId}
use Rattle.sg_forest.specs.Trees.{Climbs}
use Rattle.sg_groves.specs.Grove.{Grove, nodes}

-- the entry of an instance: the node at its place, its slot, and the number of its equation
pub record IsEntry (g : Grove) (root : NodeId) (t : Term) (a : Reference Place) (e : Instance) : Type 0 where
  pub way : Climbs (nodes g) a.node e.node root
  pub slot_is : e.slot ≡ a.slot
  pub site : Site Place
  pub found : site_of (rules_of g.spec) (net_of t) a ≡ Some site
  pub rule_is : slice_get g.spec.rules e.rule ≡ Some site.rule

-- entry by entry those of the instances
abbrev pub AreEntries : Grove → NodeId → Term → List (Reference Place) → List Instance → Type 0
AreEntries g root t [] [] = ⊤
AreEntries g root t (a ∷ refs) (e ∷ es) = IsEntry g root t a e × AreEntries g root t refs es
AreEntries g root t refs es = ⊥

-- a journal's list gained the entries of instances, of which none stands twice and each is among some
pub record Gained (g : Grove) (root : NodeId) (t : Term) (IsAmong : Reference Place
    → Type 0) (old new : List Instance) : Type 0 where
  pub refs : List (Reference Place)
  pub entries : List Instance
  pub are : AreEntries g root t refs entries
  pub appended : new ≡ old ++ entries
  pub once : AllPairs ◌≢◌ refs
  pub among : All IsAmong refs

-- and of all of these
pub record GainedAll (g : Grove) (root : NodeId) (t : Term) (IsAmong : Reference Place
    → Type 0) (old new : List Instance) : Type 0 where
  pub gained : Gained g root t IsAmong old new
  pub every : (a : Reference Place) → IsAmong a → Contains gained.refs a
