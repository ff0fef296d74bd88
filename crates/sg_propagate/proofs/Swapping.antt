-- Trees in which two trees changed places, made as values.
use Rattle.std.specs.Prelude.{◌≡◌, ◌≢◌, ℕ, true, false, cond, ◌==◌, [], ◌∷◌, Option, Some, None, option_and_then, slice_get, slice_set}
use Rattle.std.proofs.Common.{refl, sym, ap, ◌∙◌, subst, inl, inr, arith}
use Rattle.std.proofs.lemmas.Bool.Decides.{nat_tests}
use Rattle.std.proofs.lemmas.Option.{same_Some}
use Rattle.std.specs.Cmp.{unsigned_tied}
use Rattle.std.proofs.lemmas.Cmp.{nat_cmp_total}
use Rattle.std.specs.FinMap as map
use Rattle.std.specs.Ordering.{nat_cmp}
use Rattle.sg_forest.specs.declared.node_id.NodeId.{NodeId}
use Rattle.sg_forest.specs.Node.{Node}
use Rattle.sg_forest.specs.Trees.{Trees, node_at, IsLive, IsRoot, IsChild, IsInside, Lists}
use Rattle.sg_forest.specs.Steps.{IsSwapped, SameSort}
use Rattle.sg_forest.proofs.Paths.{cases_id, child_has_root, one_parent, parent_differs, root_is_no_child, root_or_child, same_id}
use Rattle.sg_groves.specs.declared.kind.Kind.{Kind}
use Rattle.sg_groves.specs.declared.part.Part.{Part}
use Rattle.sg_groves.specs.Grove.{Grove, nodes, IsGrove}
use Rattle.sg_trail.specs.Trails.{IsExchanged}

module _ {X : Type 0} (m : map.FinMap nat_cmp X) (k : ℕ) (x : X) where
  get_same : map.get (map.insert m k x) k ≡ Some x
  get_same = let test : (k == k) ≡ true = grind (arith, nat_tests) in map.get-insert nat_cmp_total m k x k ∙ ap (λ b. cond b (Some x) (map.get m k)) (unsigned_tied k k ∙ test)

  get_other : (q : ℕ) → q ≢ k → map.get (map.insert m k x) q ≡ map.get m q
  get_other q differs = let test : (q == k) ≡ false = grind (arith, nat_tests, differs) in map.get-insert nat_cmp_total m k x q ∙ ap (λ b. cond b (Some x) (map.get m q)) (unsigned_tied q k ∙ test)

module _ {L D : Type 0} (t : Trees L D) (a d p : NodeId) (k : ℕ) (x y z : Node L D) (d_is : d ≢ a) (p_is_a : p ≢ a) (p_is_d : p ≢ d) (at_a : node_at t a ≡ Some x) (at_d : node_at t d ≡ Some y) (at_p : node_at t p ≡ Some z) where
  with_parent : map.FinMap nat_cmp (Node L D)
  with_parent = map.insert t.nodes p.key (record z { kids = slice_set z.kids k d })

  with_both : map.FinMap nat_cmp (Node L D)
  with_both = map.insert with_parent d.key (record y { up = Some (p, k) })

  pub swapped_trees : Trees L D
  swapped_trees = record { nodes = map.insert with_both a.key (record x { up = None }); spare = t.spare }

  keys_differ : (n m : NodeId) → n ≢ m → n.key ≢ m.key
  keys_differ n m differs e = differs (same_id n m e)

  at_a_now : node_at swapped_trees a ≡ Some (record x { up = None })
  unfolding swapped_trees
  at_a_now = get_same with_both a.key (record x { up = None })

  beside_a : (n : NodeId) → n ≢ a → node_at swapped_trees n ≡ map.get with_both n.key
  unfolding swapped_trees
  beside_a n differs = get_other with_both a.key (record x { up = None }) n.key (keys_differ n a differs)

  at_d_now : node_at swapped_trees d ≡ Some (record y { up = Some (p, k) })
  unfolding with_both
  at_d_now = beside_a d d_is ∙ get_same with_parent d.key (record y { up = Some (p, k) })

  beside_d : (n : NodeId) → n ≢ a → n ≢ d → node_at swapped_trees n ≡ map.get with_parent n.key
  unfolding with_both
  beside_d n not_a not_d = beside_a n not_a ∙ get_other with_parent d.key (record y { up = Some (p, k) }) n.key (keys_differ n d not_d)

  at_p_now : node_at swapped_trees p ≡ Some (record z { kids = slice_set z.kids k d })
  unfolding with_parent
  at_p_now = beside_d p p_is_a p_is_d ∙ get_same t.nodes p.key (record z { kids = slice_set z.kids k d })

  beside_p : (n : NodeId) → n ≢ a → n ≢ d → n ≢ p → node_at swapped_trees n ≡ node_at t n
  unfolding with_parent
  beside_p n not_a not_d not_p = beside_d n not_a not_d ∙ get_other t.nodes p.key (record z { kids = slice_set z.kids k d }) n.key (keys_differ n p not_p)

  pub is_swapped : IsSwapped (node_at t) (node_at swapped_trees) a d p k
  is_swapped = record {
    freed = λ v found. subst (λ (w : Node L D). node_at swapped_trees a ≡ Some (record w { up = None })) (same_Some x v (sym at_a ∙ found)) at_a_now;
    placed = λ v found. subst (λ (w : Node L D). node_at swapped_trees d ≡ Some (record w { up = Some (p, k) })) (same_Some y v (sym at_d ∙ found)) at_d_now;
    listed = λ v found. subst (λ (w : Node L D). node_at swapped_trees p ≡ Some (record w { kids = slice_set w.kids k d })) (same_Some z v (sym at_p ∙ found)) at_p_now;
    others = beside_p;
  }

  -- what is told of parts alone stays
  pub same_parts : {B : Type 0} (f : D → Option B) (n : NodeId) → option_and_then (λ v. f v.part) (node_at swapped_trees n) ≡ option_and_then (λ v. f v.part) (node_at t n)
  same_parts {B} f n = elim (cases_id n a) [
    | inl e ↦ by x (record x { up = None }) (ap (node_at t) e ∙ at_a) (ap (node_at swapped_trees) e ∙ at_a_now) refl
    | inr not_a ↦ elim (cases_id n d) [
      | inl e ↦ by y (record y { up = Some (p, k) }) (ap (node_at t) e ∙ at_d) (ap (node_at swapped_trees) e ∙ at_d_now) refl
      | inr not_d ↦ elim (cases_id n p) [
        | inl e ↦ by z (record z { kids = slice_set z.kids k d }) (ap (node_at t) e ∙ at_p) (ap (node_at swapped_trees) e ∙ at_p_now) refl
        | inr not_p ↦ ap (option_and_then (λ (v : Node L D). f v.part)) (beside_p n not_a not_d not_p)
      ]
    ]
  ]
    where
      by : (v w : Node L D) → node_at t n ≡ Some v → node_at swapped_trees n ≡ Some w → w.part ≡ v.part → option_and_then (λ (u : Node L D). f u.part) (node_at swapped_trees n) ≡ option_and_then (λ (u : Node L D). f u.part) (node_at t n)
      by v w was now part = ap (option_and_then (λ (u : Node L D). f u.part)) now ∙ ap f part ∙ sym (ap (option_and_then (λ (u : Node L D). f u.part)) was)

-- where two trees could change places there is the grove in which they did
module _ (g : Grove) (is : IsGrove g) (at detached : NodeId) (live : IsLive (nodes g) at) (root : IsRoot (nodes g) detached) (apart : IsInside (nodes g) at detached → ⊥) (phyla : SameSort (λ (k : Kind). k.phylum) (nodes g) at detached) where
  nothing_moved : IsRoot (nodes g) at → IsExchanged g g at detached
  nothing_moved top = record {
    spec = refl;
    view = refl;
    pool = refl;
    live = live;
    root = root;
    apart = apart;
    phyla = phyla;
    swapped = λ p k hangs. absurd (root_is_no_child (nodes g) at p k top hangs);
    unchanged = λ is_root n. refl;
    numbers = λ n slot. refl;
  }

  module _ (p : NodeId) (k : ℕ) (hangs : IsChild (nodes g) at p k) where
    abbrev parent : Lists (nodes g) p k at
    parent = is.forest.linked.upward p k at hangs

    detached_is : detached ≢ at
    detached_is e = apart (record { path = []; climbs = sym e })

    parent_is_at : p ≢ at
    parent_is_at = parent_differs (nodes g) at p k (child_has_root (nodes g) is.forest.linked at p k hangs) hangs

    parent_is_detached : p ≢ detached
    parent_is_detached e = apart (record { path = k ∷ []; climbs = (p, hangs, e) })

    abbrev later : Grove
    later = record { spec = g.spec; trees = swapped_trees g.trees at detached p k hangs.node root.node parent.node detached_is parent_is_at parent_is_detached hangs.found root.found parent.found; pool = g.pool; view = g.view }

    moved : IsExchanged g later at detached
    moved = record {
      spec = refl;
      view = refl;
      pool = refl;
      live = live;
      root = root;
      apart = apart;
      phyla = phyla;
      swapped = λ q j other.
          let both = one_parent (nodes g) at p q k j hangs other in
          subst (λ c. IsSwapped (nodes g) (nodes later) at detached c j) both.0
          (subst (IsSwapped (nodes g) (nodes later) at detached p) both.1 (is_swapped g.trees at detached p k hangs.node root.node parent.node detached_is parent_is_at parent_is_detached hangs.found root.found parent.found));
      unchanged = λ top n. absurd (root_is_no_child (nodes g) at p k top hangs);
      numbers = λ n slot. same_parts g.trees at detached p k hangs.node root.node parent.node detached_is parent_is_at parent_is_detached hangs.found root.found parent.found (λ (part : Part). slice_get part.values slot) n;
    }

  pub exchange_there : (h : Grove) × IsExchanged g h at detached
  exchange_there = elim (root_or_child (nodes g) at live) [
    | inl top ↦ (g, nothing_moved top)
    | inr up ↦ (later up.0 up.1 up.2, moved up.0 up.1 up.2)
  ]
