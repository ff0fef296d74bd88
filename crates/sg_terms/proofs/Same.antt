-- Values of a pool that grows, and groves of the same nodes.
use Rattle.std.proofs.Common.{◌≡◌, ℕ, List, Some, refl, sym, ◌∙◌, ap, subst}
use Rattle.std.specs.FinMap as finmap
use Rattle.sg_kinds.proofs.Elementary.{slice_get-before}
use Rattle.sg_kinds.specs.Values.{Value}
use Rattle.sg_kinds.specs.declared.spec.Spec.{Spec}
use Rattle.sg_pool.specs.Pools.{IsGrown, StandsFor}
use Rattle.sg_forest.specs.declared.node_id.NodeId.{NodeId}
use Rattle.sg_forest.specs.Node.{Node}
use Rattle.sg_forest.specs.Trees.{Trees, node_at, room_below}
use Rattle.sg_forest.specs.Steps.{KeepsShape}
use Rattle.sg_forest.proofs.Shape.{KeepsShape-same}
use Rattle.sg_groves.specs.declared.kind.Kind.{Kind}
use Rattle.sg_groves.specs.declared.part.Part.{Part}
use Rattle.sg_groves.specs.Grove.{IsTyped, AreTyped}
use Rattle.sg_groves.specs.Unchanged.{KeepsPart, OnlyStored}
use Rattle.sg_terms.specs.Storable.{IsNoSlot}

pub Stands-grown : (was now : List Value) (id : ℕ) (v : Value) → IsGrown was now → StandsFor was id v → StandsFor now id v
Stands-grown was now id v grown stands = subst (λ l. StandsFor l id v) (sym grown.is) (slice_get-before was grown.more id v stands)

module _ (spec : Spec) (was now : List Value) (grown : IsGrown was now) where
  pub IsTyped-grown : (type id : ℕ) → IsTyped spec was type id → IsTyped spec now type id
  IsTyped-grown type id t = record { value = t.value; stands = Stands-grown was now id t.value grown t.stands; typed = t.typed }

  pub AreTyped-grown : (types values : List ℕ) → AreTyped spec was types values → AreTyped spec now types values
  AreTyped-grown types values t = record { count = t.count; each = λ slot type id has there. IsTyped-grown type id (t.each slot type id has there) }

-- equal nodes
module _ (old new : Trees Kind Part) (same : new.nodes ≡ old.nodes) where
  pub node_at-same : (n : NodeId) → node_at new n ≡ node_at old n
  node_at-same n = ap (λ ns. finmap.get ns n.key) same

  pub room_below-same : (n : NodeId) → room_below new n ≡ room_below old n
  room_below-same n = ap (λ ns. room_below (record { nodes = ns; spare = old.spare }) n) same

  pub KeepsShape-nodes : KeepsShape (node_at old) (node_at new)
  KeepsShape-nodes = subst (λ ns. KeepsShape (node_at old) (λ n. finmap.get ns n.key)) (sym same) (KeepsShape-same (node_at old))

  pub OnlyStored-none : (spec : Spec) (view : ℕ) (was now : List Value) → IsGrown was now → OnlyStored (record { spec = spec; trees = old; pool = was; view = view }) (record { spec = spec; trees = new; pool = now; view = view }) IsNoSlot
  OnlyStored-none spec view was now grown = record {
    spec = refl;
    view = refl;
    pool = grown;
    shape = KeepsShape-nodes;
    room = room_below-same;
    parts = λ n x y there then.
        let one : Some y ≡ Some x = sym then ∙ node_at-same n ∙ there in
        let is : y ≡ x = cc one in
        subst (λ (z : Node Kind Part). KeepsPart x.label x.part z.part (IsNoSlot n)) (sym is)
        (record { scheme = refl; elided = refl; count = refl; others = λ slot out. refl; leaf = λ at. refl });
  }
