use Rattle.std.proofs.Common.{◌≡◌, ◌≢◌, ◌↔◌, ℕ, Some}
use Rattle.std.specs.List.{slice_get}
use Rattle.sg_forest.specs.declared.node_id.NodeId.{NodeId}
use Rattle.sg_forest.specs.Trees.{node_in, IsRoot}
use Rattle.sg_forest.specs.Tree.{GrowsTree, KeepsTrees, KeepsWays}
use Rattle.sg_forest.specs.Steps.{KeepsKids, IsRootMade}
use Rattle.sg_forest.proofs.Mapped.{node_at-slab, carried}
use Rattle.sg_forest.proofs.Paths.{root_is_live}
use Rattle.sg_forest.proofs.Grown.{KeepsKids-grown, IsForest-grown, new_root, new_kid, same_roots}
use Rattle.sg_forest.proofs.Laws.{KeepsKids-same, KeepsTrees-kids, GrowsTree-grown, KeepsWays-grown}
use Rattle.sg_forest.proofs.forest.Forest.grow.Goals as goal

pub invariant_of-self : goal.invariant_of-self
invariant_of-self g c = rw c.reserve.ensures.rest_kept c.self.invariant

pub add_root-requires-clause-live : goal.add_root-requires-clause-live
add_root-requires-clause-live g c = λ k kid listed.
    let roots = rw (← c.self.view_is, node_at-slab c.self.inside.nodes) at c.requires.roots in
    rw c.reserve.ensures.rest_kept (root_is_live (node_in c.self.inside.nodes) kid (roots k kid listed).0)

pub invariant_of-self-2 : goal.invariant_of-self-2
invariant_of-self-2 g c =
    let fits = rw (← c.self.view_is, node_at-slab c.self.inside.nodes) at c.requires.roots in
    let roots = λ (k : ℕ) (kid : NodeId) (listed : slice_get c.args.kids.items k ≡ Some kid). (fits k kid listed).0 in
    let grown : IsRootMade (node_in c.self.inside.nodes) (node_in c.add_root.new.nodes) c.args.label c.args.part c.args.kids.items c.add_root.result = rw c.reserve.ensures.rest_kept at c.add_root.ensures.grown in
    IsForest-grown (node_in c.self.inside.nodes) (node_in c.add_root.new.nodes) c.args.label c.args.part c.args.kids.items c.add_root.result c.self.invariant.linked roots grown _ _ _ c.self.invariant c.requires.count fits

pub returns-then-is_err-clause-kids : goal.returns-then-is_err-clause-kids
returns-then-is_err-clause-kids g c =
    carried (λ old new. KeepsKids old new) c.self.inside.nodes c.reserve.new.self c.args.self.now c.self.view_is
    (rw c.reserve.ensures.rest_kept (KeepsKids-same (node_in c.self.inside.nodes)))

pub returns-then-is_err-clause-trees : goal.returns-then-is_err-clause-trees
returns-then-is_err-clause-trees g c =
    carried (λ old new. KeepsTrees old new) c.self.inside.nodes c.reserve.new.self c.args.self.now c.self.view_is
    (rw c.reserve.ensures.rest_kept (λ m t stands. stands))

pub returns-then-is_err-clause-ways : goal.returns-then-is_err-clause-ways
returns-then-is_err-clause-ways g c =
    carried (λ old new. KeepsWays old new) c.self.inside.nodes c.reserve.new.self c.args.self.now c.self.view_is
    (rw c.reserve.ensures.rest_kept (λ path n m climbs. climbs))

pub returns-then-is_err-clause-forest : goal.returns-then-is_err-clause-forest
returns-then-is_err-clause-forest g c = rw (node_at-slab c.reserve.new.self) (invariant_of-self g c)

pub returns-clause-forest : goal.returns-clause-forest
returns-clause-forest g c = rw (node_at-slab c.add_root.new.nodes) (invariant_of-self-2 g c)

pub returns-clause-kids : goal.returns-clause-kids
returns-clause-kids g c =
    let fits = rw (← c.self.view_is, node_at-slab c.self.inside.nodes) at c.requires.roots in
    let roots = λ (k : ℕ) (kid : NodeId) (listed : slice_get c.args.kids.items k ≡ Some kid). (fits k kid listed).0 in
    let grown : IsRootMade (node_in c.self.inside.nodes) (node_in c.add_root.new.nodes) c.args.label c.args.part c.args.kids.items c.add_root.result = rw c.reserve.ensures.rest_kept at c.add_root.ensures.grown in
    carried (λ old new. KeepsKids old new) c.self.inside.nodes c.add_root.new.nodes c.args.self.now c.self.view_is
    (KeepsKids-grown (node_in c.self.inside.nodes) (node_in c.add_root.new.nodes) c.args.label c.args.part c.args.kids.items c.add_root.result c.self.invariant.linked roots grown)

pub returns-clause-trees : goal.returns-clause-trees
returns-clause-trees g c =
    let fits = rw (← c.self.view_is, node_at-slab c.self.inside.nodes) at c.requires.roots in
    let roots = λ (k : ℕ) (kid : NodeId) (listed : slice_get c.args.kids.items k ≡ Some kid). (fits k kid listed).0 in
    let grown : IsRootMade (node_in c.self.inside.nodes) (node_in c.add_root.new.nodes) c.args.label c.args.part c.args.kids.items c.add_root.result = rw c.reserve.ensures.rest_kept at c.add_root.ensures.grown in
    carried (λ old new. KeepsTrees old new) c.self.inside.nodes c.add_root.new.nodes c.args.self.now c.self.view_is
    (KeepsTrees-kids (node_in c.self.inside.nodes) (node_in c.add_root.new.nodes) (KeepsKids-grown (node_in c.self.inside.nodes) (node_in c.add_root.new.nodes) c.args.label c.args.part c.args.kids.items c.add_root.result c.self.invariant.linked roots grown))

pub returns-clause-ways : goal.returns-clause-ways
returns-clause-ways g c =
    let fits = rw (← c.self.view_is, node_at-slab c.self.inside.nodes) at c.requires.roots in
    let roots = λ (k : ℕ) (kid : NodeId) (listed : slice_get c.args.kids.items k ≡ Some kid). (fits k kid listed).0 in
    let grown : IsRootMade (node_in c.self.inside.nodes) (node_in c.add_root.new.nodes) c.args.label c.args.part c.args.kids.items c.add_root.result = rw c.reserve.ensures.rest_kept at c.add_root.ensures.grown in
    carried (λ old new. KeepsWays old new) c.self.inside.nodes c.add_root.new.nodes c.args.self.now c.self.view_is
    (KeepsWays-grown (node_in c.self.inside.nodes) (node_in c.add_root.new.nodes) c.args.label c.args.part c.args.kids.items c.add_root.result c.self.invariant.linked roots grown)

pub returns-clause-tree : goal.returns-clause-tree
returns-clause-tree g c =
    let fits = rw (← c.self.view_is, node_at-slab c.self.inside.nodes) at c.requires.roots in
    let roots = λ (k : ℕ) (kid : NodeId) (listed : slice_get c.args.kids.items k ≡ Some kid). (fits k kid listed).0 in
    let grown : IsRootMade (node_in c.self.inside.nodes) (node_in c.add_root.new.nodes) c.args.label c.args.part c.args.kids.items c.add_root.result = rw c.reserve.ensures.rest_kept at c.add_root.ensures.grown in
    carried (λ old new. GrowsTree old new c.args.label c.args.part c.args.kids.items c.add_root.result) c.self.inside.nodes c.add_root.new.nodes c.args.self.now c.self.view_is
    (GrowsTree-grown (node_in c.self.inside.nodes) (node_in c.add_root.new.nodes) c.args.label c.args.part c.args.kids.items c.add_root.result c.self.invariant.linked roots grown)

pub returns-clause-roots : goal.returns-clause-roots
returns-clause-roots g c =
    let fits = rw (← c.self.view_is, node_at-slab c.self.inside.nodes) at c.requires.roots in
    let roots = λ (k : ℕ) (kid : NodeId) (listed : slice_get c.args.kids.items k ≡ Some kid). (fits k kid listed).0 in
    let grown : IsRootMade (node_in c.self.inside.nodes) (node_in c.add_root.new.nodes) c.args.label c.args.part c.args.kids.items c.add_root.result = rw c.reserve.ensures.rest_kept at c.add_root.ensures.grown in
    carried (λ old new. (n : NodeId) → n ≢ c.add_root.result → IsRoot new n ↔ IsRoot old n × ((k : ℕ) → slice_get c.args.kids.items k ≢ Some n)) c.self.inside.nodes c.add_root.new.nodes c.args.self.now c.self.view_is
    (same_roots (node_in c.self.inside.nodes) (node_in c.add_root.new.nodes) c.args.label c.args.part c.args.kids.items c.add_root.result c.self.invariant.linked roots grown)

pub returns-clause-root : goal.returns-clause-root
returns-clause-root g c =
    let fits = rw (← c.self.view_is, node_at-slab c.self.inside.nodes) at c.requires.roots in
    let roots = λ (k : ℕ) (kid : NodeId) (listed : slice_get c.args.kids.items k ≡ Some kid). (fits k kid listed).0 in
    let grown : IsRootMade (node_in c.self.inside.nodes) (node_in c.add_root.new.nodes) c.args.label c.args.part c.args.kids.items c.add_root.result = rw c.reserve.ensures.rest_kept at c.add_root.ensures.grown in
    rw (node_at-slab c.add_root.new.nodes) (new_root (node_in c.self.inside.nodes) (node_in c.add_root.new.nodes) c.args.label c.args.part c.args.kids.items c.add_root.result c.self.invariant.linked roots grown)

pub returns-clause-hung : goal.returns-clause-hung
returns-clause-hung g c =
    let fits = rw (← c.self.view_is, node_at-slab c.self.inside.nodes) at c.requires.roots in
    let roots = λ (k : ℕ) (kid : NodeId) (listed : slice_get c.args.kids.items k ≡ Some kid). (fits k kid listed).0 in
    let grown : IsRootMade (node_in c.self.inside.nodes) (node_in c.add_root.new.nodes) c.args.label c.args.part c.args.kids.items c.add_root.result = rw c.reserve.ensures.rest_kept at c.add_root.ensures.grown in
    rw (node_at-slab c.add_root.new.nodes) (new_kid (node_in c.self.inside.nodes) (node_in c.add_root.new.nodes) c.args.label c.args.part c.args.kids.items c.add_root.result c.self.invariant.linked roots grown)
