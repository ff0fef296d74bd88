-- The numbers that a trail keeps, and where it leads back to.
use Rattle.std.specs.Prelude.{◌≡◌, ℕ, Bool, ◌&&◌, cond, nat_eq, List, [], ◌∷◌, Option, Some, Contains, ⊤}
use Rattle.sg_forest.specs.declared.node_id.NodeId.{NodeId}
use Rattle.sg_forest.specs.Trees.{IsLive, IsRoot, IsChild, IsInside}
use Rattle.sg_forest.specs.Steps.{SameSort, IsSwapped}
use Rattle.sg_groves.specs.Grove.{Grove, nodes, IsGrove}
use Rattle.sg_groves.specs.Stored.{number_at}
use Rattle.sg_groves.specs.Unchanged.{OnlyStored}
use Rattle.sg_terms.specs.Found.{op_at}
use Rattle.sg_terms.specs.Storable.{IsStorable}
use Rattle.sg_trail.specs.declared.entry.WasStored.{WasStored}

-- two nodes whose trees changed places, and numbers that slots had, the oldest first
pub record Way : Type 0 where
  pub at : NodeId
  pub detached : NodeId
  pub entries : List WasStored

abbrev pub is_of : WasStored → NodeId → ℕ → Bool
is_of e n slot = nat_eq e.node.key n.key && nat_eq e.slot slot

-- the number that a slot had at first: that of its oldest entry, else the one that it has now
abbrev pub was_in : List WasStored → NodeId → ℕ → Option ℕ → Option ℕ
was_in [] n slot now = now
was_in (e ∷ es) n slot now = cond (is_of e n slot) (Some e.number) (was_in es n slot now)

-- a slot has an entry, so that no number stored there from now on matters
pub record IsCovered (es : List WasStored) (n : NodeId) (slot : ℕ) : Type 0 where
  pub entry : WasStored
  pub listed : Contains es entry
  pub node_is : entry.node ≡ n
  pub slot_is : entry.slot ≡ slot

-- each slot of each node of an operator in a tree has one
abbrev pub AreCovered : Grove → NodeId → List WasStored → Type 0
AreCovered g root es = (n : NodeId) (op slot id : ℕ) → IsInside (nodes g) n root → op_at g n ≡ Some op
    → number_at g n slot ≡ Some id → IsCovered es n slot

-- each entry may be stored
abbrev pub AreStorable : Grove → List WasStored → Type 0
AreStorable g es = (e : WasStored) → Contains es e → IsStorable g e.node e.slot e.number

-- each entry has the number that its slot has, which may be stored again
pub record IsSaved (g : Grove) (e : WasStored) : Type 0 where
  pub number : number_at g e.node e.slot ≡ Some e.number
  pub storable : IsStorable g e.node e.slot e.number

abbrev pub AreSaved : Grove → List WasStored → Type 0
AreSaved g es = (e : WasStored) → Contains es e → IsSaved g e

-- the entries tell the numbers that slots had in an earlier grove
abbrev pub TellsNumbers : Grove → Grove → List WasStored → Type 0
TellsNumbers before now es = (n : NodeId) (slot : ℕ) → was_in es n slot (number_at now n slot) ≡ number_at before n slot

-- any slot of any node
abbrev pub IsAnySlot : NodeId → ℕ → Type 0
IsAnySlot n slot = ⊤

-- the tree under a node and that of a root change places, where the node is no root itself
pub record IsExchanged (before after : Grove) (at detached : NodeId) : Type 0 where
  pub spec : after.spec ≡ before.spec
  pub view : after.view ≡ before.view
  pub pool : after.pool ≡ before.pool
  pub live : IsLive (nodes before) at
  pub root : IsRoot (nodes before) detached
  pub apart : IsInside (nodes before) at detached → ⊥
  pub phyla : SameSort (λ k. k.phylum) (nodes before) at detached
  pub swapped : (p : NodeId) (k : ℕ) → IsChild (nodes before) at p k
      → IsSwapped (nodes before) (nodes after) at detached p k
  pub unchanged : IsRoot (nodes before) at → (n : NodeId) → nodes after n ≡ nodes before n
  pub numbers : (n : NodeId) (slot : ℕ) → number_at after n slot ≡ number_at before n slot

-- since then two trees changed places, numbers were stored, and the pool grew; the trail tells the numbers of then
pub record LeadsBack (before now : Grove) (way : Way) : Type 0 where
  pub grove : IsGrove before
  pub between : Grove
  pub exchanged : IsExchanged before between way.at way.detached
  pub stored : OnlyStored between now IsAnySlot
  pub storable : AreStorable now way.entries
  pub numbers : TellsNumbers before now way.entries
