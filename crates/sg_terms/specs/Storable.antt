-- What may be stored for a slot.
use Rattle.std.specs.Prelude.{◌≡◌, ℕ, Some}
use Rattle.sg_kinds.specs.Typing.{slot_type}
use Rattle.sg_forest.specs.declared.node_id.NodeId.{NodeId}
use Rattle.sg_groves.specs.Grove.{Grove, IsTyped}
use Rattle.sg_terms.specs.Found.{op_at}

-- the node is of an operator that has the slot, and the number stands for a value of the slot's type
pub record IsStorable (g : Grove) (n : NodeId) (slot id : ℕ) : Type 0 where
  pub op : ℕ
  pub is : op_at g n ≡ Some op
  pub type : ℕ
  pub has_type : slot_type g.spec op 0 slot ≡ Some type
  pub typed : IsTyped g.spec g.pool type id

-- this slot of this node, as the one that changes
pub record IsSlot (n : NodeId) (slot : ℕ) (m : NodeId) (other : ℕ) : Type 0 where
  pub node : m ≡ n
  pub same : other ≡ slot

-- no slot of any node
abbrev pub IsNoSlot : NodeId → ℕ → Type 0
IsNoSlot m slot = ⊥
