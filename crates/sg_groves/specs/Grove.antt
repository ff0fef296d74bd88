-- A forest that keeps terms: its specification, its trees, the pool of their values, and the view in which it is shown.
use Rattle.std.specs.Prelude.{◌≡◌, ℕ, ◌<◌, false, List, [], ◌∷◌, Option, Some, slice_get, length, MatchOption}
use Rattle.sg_kinds.specs.Values.{Value, Fault}
use Rattle.sg_kinds.specs.Specification.{args_of, phylum_of}
use Rattle.sg_kinds.specs.declared.spec.Spec.{Spec}
use Rattle.sg_kinds.specs.declared.spec.Phylum.{Phylum}
use Rattle.sg_kinds.specs.InView.{in_view}
use Rattle.sg_kinds.specs.Typing.{slots_there}
use Rattle.sg_kinds.specs.Fits.{MayHold}
use Rattle.sg_kinds.specs.OfType.{IsOfType}
use Rattle.sg_kinds.specs.Sound.{IsSound}
use Rattle.sg_pool.specs.Pools.{StandsFor}
use Rattle.sg_kinds.specs.declared.marks.FaultKind.TheVariants.{Fuel}
use Rattle.sg_forest.specs.declared.node_id.NodeId.{NodeId}
use Rattle.sg_forest.specs.Node.{Node}
use Rattle.sg_forest.specs.Trees.{Trees, node_at, IsForest}
use Rattle.sg_groves.specs.declared.kind.Kind.{Kind}
use Rattle.sg_groves.specs.declared.part.Part.{Part}

pub record Grove : Type 0 where
  pub spec : Spec
  pub trees : Trees Kind Part
  pub pool : List Value
  pub view : ℕ

-- its specification as it is seen in its view: what a scheme shows and where a selection rests is read in it
abbrev pub spec_shown : Grove → Spec
spec_shown g = in_view g.spec g.view

-- the node under a number
abbrev pub nodes : Grove → NodeId → Option (Node Kind Part)
nodes g n = node_at g.trees n

-- a number stands for a value of a type
pub record IsTyped (spec : Spec) (pool : List Value) (type id : ℕ) : Type 0 where
  pub value : Value
  pub stands : StandsFor pool id value
  pub typed : IsOfType spec type value

-- a number for each slot, of a value of its type
pub record AreTyped (spec : Spec) (pool : List Value) (types values : List ℕ) : Type 0 where
  pub count : length values ≡ length types
  pub each : (slot type id : ℕ) → slice_get types slot ≡ Some type → slice_get values slot ≡ Some id
      → IsTyped spec pool type id

-- a node of an operator: its children are of the argument phyla, its values of its slots' types
pub record IsOperation (g : Grove) (x : Node Kind Part) (op : ℕ) : Type 0 where
  pub phylum : phylum_of g.spec.ops op ≡ Some x.label.phylum
  pub arity : x.label.arity ≡ length (args_of g.spec.ops op)
  pub kids : (k : ℕ) (n : NodeId) (y : Node Kind Part) → slice_get x.kids k ≡ Some n → nodes g n ≡ Some y
      → slice_get (args_of g.spec.ops op) k ≡ Some y.label.phylum
  pub scheme : x.part.scheme < 16
  pub values : AreTyped g.spec g.pool (slots_there g.spec op 0) x.part.values

-- a leaf: it has one value, which its phylum may hold
pub record IsLeaf (g : Grove) (x : Node Kind Part) : Type 0 where
  pub arity : x.label.arity ≡ 0
  pub scheme : x.part.scheme ≡ 0
  pub elided : x.part.elided ≡ false
  pub id : ℕ
  pub value : Value
  pub values : x.part.values ≡ id ∷ []
  pub stands : StandsFor g.pool id value
  pub held : MatchOption (slice_get g.spec.phyla x.label.phylum) ⊥ (λ (p : Phylum). MayHold g.spec p.shape value)

abbrev pub IsNode : Grove → Node Kind Part → Type 0
IsNode g x = MatchOption x.label.op (IsLeaf g x) (IsOperation g x)

-- the trees hold terms of a sound specification; number 0 stands for a value that is not known yet
pub record IsGrove (g : Grove) : Type 0 where
  pub sound : IsSound g.spec
  pub unknown : StandsFor g.pool 0 (Fault Fuel)
  pub forest : IsForest (λ (k : Kind). k.arity) (λ (k : Kind). 0) (λ (k : Kind) (i : ℕ). 0) (nodes g)
  pub each : (n : NodeId) (x : Node Kind Part) → nodes g n ≡ Some x → IsNode g x
