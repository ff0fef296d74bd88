-- The nodes and the values at the occurrences of a node's operator.
use Rattle.std.specs.Prelude.{◌≡◌, ◌⊎◌, ℕ, zero, suc, List, [], ◌∷◌, ◌++◌, Option, Some, option_map, option_and_then, slice_get, unwrap_or}
use Rattle.sg_kinds.specs.Values.{Value}
use Rattle.sg_kinds.specs.declared.spec.Occurrence.{Occurrence}
use Rattle.sg_kinds.specs.declared.spec.Rule.{Rule}
use Rattle.sg_kinds.specs.Evaluation.{untyped}
use Rattle.sg_pool.specs.Pools.{value_at}
use Rattle.sg_eval.specs.declared.journal.Instance.{Instance}
use Rattle.sg_forest.specs.declared.node_id.NodeId.{NodeId}
use Rattle.sg_forest.specs.Trees.{Trees, node_at, IsForest}
use Rattle.sg_groves.specs.declared.kind.Kind.{Kind}
use Rattle.sg_groves.specs.declared.part.Part.{Part}
use Rattle.sg_groves.specs.Grove.{Grove}

-- trees whose nodes have as many children as their labels say
abbrev pub AreTrees : Trees Kind Part → Type 0
AreTrees trees = IsForest (λ (k : Kind). k.arity) (λ (k : Kind). 0) (λ (k : Kind) (i : ℕ). 0) (node_at trees)

-- the number that a node of trees has in a slot
abbrev pub number_in : Trees Kind Part → NodeId → ℕ → Option ℕ
number_in trees n slot = option_and_then (λ x. slice_get x.part.values slot) (node_at trees n)

-- the node at an occurrence of a node's operator: the node itself, or a child
abbrev pub node_there : Trees Kind Part → NodeId → ℕ → Option NodeId
node_there trees n zero = Some n
node_there trees n (suc k) = option_and_then (λ x. slice_get x.kids k) (node_at trees n)

-- the number that is stored for an occurrence, and its value
abbrev pub number_for : Trees Kind Part → NodeId → Occurrence → Option ℕ
number_for trees n o = option_and_then (λ m. number_in trees m o.slot) (node_there trees n o.at)

abbrev pub value_for : Grove → NodeId → Occurrence → Value
value_for g n o = unwrap_or (option_map (value_at g.pool) (number_for g.trees n o)) untyped

-- what an equation defines at a node: the node at its target, and the slot
pub record IsBearer (g : Grove) (n : NodeId) (r : Rule) (m : NodeId) (slot : ℕ) : Type 0 where
  pub there : node_there g.trees n r.target.at ≡ Some m
  pub slot_is : slot ≡ r.target.slot

-- the entry of an evaluation at a node: what the equation defines there, and the number of the equation
pub record IsEntryAt (g : Grove) (n : NodeId) (rule : ℕ) (r : Rule) (e : Instance) : Type 0 where
  pub bearer : IsBearer g n r e.node e.slot
  pub rule_is : e.rule ≡ rule

-- a journal's list gained the entry, or nothing
abbrev pub NotedAtMost : Grove → NodeId → ℕ → Rule → List Instance → List Instance → Type 0
NotedAtMost g n rule r old new = (new ≡ old) ⊎ ((e : Instance) × IsEntryAt g n rule r e × (new ≡ old ++ e ∷ []))
