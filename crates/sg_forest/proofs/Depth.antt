-- A node is not deeper than there are nodes.
use Rattle.std.proofs.Common.{◌≡◌, ◌<◌, ◌≤◌, ◌-◌, ◌+◌, ℕ, zero, suc, true, cond, List, [], ◌∷◌, length, Option, Some, None, refl, sym, ap, ◌∙◌, inl, inr, arith}
use Rattle.std.specs.FinMap as map
use Rattle.std.proofs.lemmas.Bool.{cases_lt}
use Rattle.std.specs.Ordering.{nat_cmp, is_eq}
use Rattle.std.specs.Cmp.{nat_cmp_is}
use Rattle.std.proofs.lemmas.Cmp.{nat_cmp_total}
use Rattle.std.specs.declared.cmp.Ordering.TheVariants.{Less, Greater}
use Rattle.sg_forest.specs.declared.node_id.NodeId.{NodeId}
use Rattle.sg_forest.specs.Node.{Node}
use Rattle.sg_forest.specs.Trees.{Trees, trees_of, node_at, node_in, IsLive, IsRoot, IsChild, Climbs, IsInside, IsLinked, depth_within, room_below}
use Rattle.slab.specs.Slab.{Slab, entries, slab_len}
use Rattle.sg_forest.specs.Steps.{KeepsShape}
use Rattle.sg_forest.proofs.Shape.{depth_within-shape}
use Rattle.sg_forest.proofs.Mapped.{get-from_slab, len-from_slab, node_at-slab}
use Rattle.sg_forest.proofs.Paths.{same_id, no_cycle, child_has_root, parent_is_live, inside_by_parent, inside_itself}

module _ {X : Type 0} where
  -- the map without a key that it has is shorter by one
  len-remove_present : (m : map.FinMap nat_cmp X) (k : ℕ) (x : X) → map.get m k ≡ Some x → map.len (map.remove m k) + 1 ≡ map.len m
  len-remove_present m k x present =
      let some : map.contains_key m k ≡ true = rw present refl in
      let short : map.len (map.remove m k) ≡ map.len m - 1 = map.len-remove nat_cmp_total m k ∙ ap (λ b. cond b (map.len m - 1) (map.len m)) some in
      omega (arith, short, by_len (map.len m) refl)
    where
      by_len : (n : ℕ) → map.len m ≡ n → 0 < map.len m
      by_len zero none =
          let empty = map.empty_of_len m none in
          let nothing : map.get m k ≡ None = ap (λ n. map.get n k) empty ∙ map.get-empty nat_cmp k in
          absurd (cc (present, nothing))
      by_len (suc n) e = omega arith

  get-remove_other : (m : map.FinMap nat_cmp X) (k q : ℕ) → (q ≡ k → ⊥) → map.get (map.remove m k) q ≡ map.get m q
  get-remove_other m k q differs =
      map.get-remove nat_cmp_total m k q ∙ elim (cases_lt q k) [
        | inl below ↦ ap (λ r. cond (is_eq r) None (map.get m q)) (sym (nat_cmp_is q k Less below))
        | inr past ↦ ap (λ r. cond (is_eq r) None (map.get m q)) (sym (nat_cmp_is q k Greater (let above : k < q = omega (arith, past, differs) in above)))
      ]

module _ {L D : Type 0} (at : NodeId → Option (Node L D)) (linked : IsLinked at) where
  -- a way up is shorter than a map that has each node on it
  path_shorter : {X : Type 0} (path : List ℕ) (n r : NodeId) (m : map.FinMap nat_cmp X) → IsLive at n → Climbs at path n r → ((x : NodeId) → IsInside at n x → (y : X) × (map.get m x.key ≡ Some y)) → length path < map.len m
  path_shorter [] n r m live climbs there =
      let here = there n (inside_itself at n) in
      omega (arith, len-remove_present m n.key here.0 here.1)
  path_shorter (k ∷ path) n r m live climbs there =
      let here = there n (inside_itself at n) in
      let p = climbs.0 in
      let shorter = path_shorter path p r (map.remove m n.key) (parent_is_live at linked n p k climbs.1) climbs.2
      (λ x inside.
      let found = there x (inside_by_parent at n p x k climbs.1 inside) in
      let differs : x.key ≡ n.key → ⊥ = λ e.
      let same = same_id x n e in
      let back : IsInside at p n = rw same at inside in
      no_cycle at k back.path n (child_has_root at linked n p k climbs.1) (p, climbs.1, back.climbs) in
      (found.0, get-remove_other m n.key x.key differs ∙ found.1)) in
      omega (arith, shorter, len-remove_present m n.key here.0 here.1)

  pub depth_within-path : (path : List ℕ) (n r : NodeId) (most : ℕ) → length path ≤ most → IsRoot at r → Climbs at path n r → depth_within at most n ≡ length path
  depth_within-path [] n r zero enough root climbs = refl
  depth_within-path [] n r (suc most) enough root climbs = let here : IsRoot at n = rw climbs root in rw (here.found, here.top) refl
  depth_within-path (k ∷ path) n r zero enough root climbs = absurd (omega arith)
  depth_within-path (k ∷ path) n r (suc most) enough root climbs = rw (climbs.1.found, climbs.1.hangs) (ap suc (depth_within-path path climbs.0 r most (omega arith) root climbs.2))

-- over a map that has each live node, of so many entries
module _ {L D X : Type 0} (at : NodeId → Option (Node L D)) (linked : IsLinked at) (m : map.FinMap nat_cmp X) (count : ℕ) (len : map.len m ≡ count)
    (there : (n : NodeId) → IsLive at n → (y : X) × (map.get m n.key ≡ Some y)) where
  live_above : (path : List ℕ) (n x : NodeId) → IsLive at n → Climbs at path n x → IsLive at x
  live_above [] n x live same = rw (← same) live
  live_above (k ∷ path) n x live climbs = live_above path climbs.0 x (parent_is_live at linked n climbs.0 k climbs.1) climbs.2

  pub path-lt-count : (path : List ℕ) (n r : NodeId) → IsLive at n → Climbs at path n r → length path < count
  path-lt-count path n r live climbs =
      let shorter = path_shorter at linked path n r m live climbs (λ x inside. there x (live_above inside.path n x live inside.climbs)) in
      omega (arith, shorter, len)

  -- a child hangs one step deeper than its parent, and no deeper than there are nodes
  pub depth-child : (n p : NodeId) (k : ℕ) → IsChild at n p k → (depth_within at count n ≡ suc (depth_within at count p)) × (depth_within at count n < count)
  depth-child n p k child =
      let above = parent_is_live at linked n p k child in
      let has = linked.rooted p above in
      let live : IsLive at n = record { node = child.node; found = child.found } in
      let few = path-lt-count (k ∷ has.path) n has.root live (p, child, has.climbs) in
      let one = depth_within-path at linked (k ∷ has.path) n has.root count (omega (arith, few)) has.is_root (p, child, has.climbs) in
      let two = depth_within-path at linked has.path p has.root count (omega (arith, few)) has.is_root has.climbs in
      (omega (arith, one, two), omega (arith, few, one))

  pub depth-lt-count : (n : NodeId) → IsLive at n → depth_within at count n < count
  depth-lt-count n live =
      let has = linked.rooted n live in
      let few = path-lt-count has.path n has.root live has.climbs in
      let one = depth_within-path at linked has.path n has.root count (omega (arith, few)) has.is_root has.climbs in
      omega (arith, few, one)

module _ {L D : Type 0} (t : Trees L D) (linked : IsLinked (node_at t)) where
  pub room_below-child : (n p : NodeId) (k : ℕ) → IsChild (node_at t) n p k → room_below t n < room_below t p
  room_below-child n p k child =
      let deeper = depth-child (node_at t) linked t.nodes (map.len t.nodes) refl (λ x live. (live.node, live.found)) n p k child in
      omega (arith, deeper.0, deeper.1)

-- the same at a slab
abbrev pub depth_in : {L D : Type 0} → Slab (Node L D) → NodeId → ℕ
depth_in s n = depth_within (node_in s) (slab_len s) n

pub room_below-slab : {L D : Type 0} (s : Slab (Node L D)) (n : NodeId) → room_below (trees_of s) n ≡ slab_len s - depth_in s n
room_below-slab {L} {D} s n =
    ap (λ (f : NodeId → Option (Node L D)). map.len (trees_of s).nodes - depth_within f (map.len (trees_of s).nodes) n) (node_at-slab s)
    ∙ ap (λ (k : ℕ). k - depth_within (node_in s) k n) (len-from_slab s)

-- where only parts differ the room stays
pub room_below-shape : {L D : Type 0} (s t : Slab (Node L D)) → KeepsShape (node_in s) (node_in t) → slab_len t ≡ slab_len s → (n : NodeId) → room_below (trees_of t) n ≡ room_below (trees_of s) n
room_below-shape s t shape len n =
    room_below-slab t n
    ∙ ap (λ (k : ℕ). k - depth_within (node_in t) k n) len
    ∙ ap (λ (k : ℕ). slab_len s - k) (depth_within-shape (node_in s) (node_in t) shape (slab_len s) n)
    ∙ sym (room_below-slab s n)

module _ {L D : Type 0} (s : Slab (Node L D)) (linked : IsLinked (node_in s)) where
  there : (n : NodeId) → IsLive (node_in s) n → (y : Node L D) × (map.get (map.from_sorted {R = nat_cmp} (entries s)) n.key ≡ Some y)
  there n live = (live.node, get-from_slab s n.key ∙ live.found)

  pub depth_in-child : (n p : NodeId) (k : ℕ) → IsChild (node_in s) n p k → (depth_in s n ≡ suc (depth_in s p)) × (depth_in s n < slab_len s)
  depth_in-child n p k child = depth-child (node_in s) linked (map.from_sorted (entries s)) (slab_len s) (len-from_slab s) there n p k child

  pub depth_in-lt : (n : NodeId) → IsLive (node_in s) n → depth_in s n < slab_len s
  depth_in-lt n live = depth-lt-count (node_in s) linked (map.from_sorted (entries s)) (slab_len s) (len-from_slab s) there n live

  pub depth_in-path : (path : List ℕ) (n r : NodeId) → IsRoot (node_in s) r → IsLive (node_in s) n → Climbs (node_in s) path n r → (depth_in s n ≡ length path) × (length path < slab_len s)
  depth_in-path path n r root live climbs =
      let few = path-lt-count (node_in s) linked (map.from_sorted (entries s)) (slab_len s) (len-from_slab s) there path n r live climbs in
      (depth_within-path (node_in s) linked path n r (slab_len s) (omega (arith, few)) root climbs, few)

  pub room_below-slab_child : (n p : NodeId) (k : ℕ) → IsChild (node_in s) n p k → room_below (trees_of s) n < room_below (trees_of s) p
  room_below-slab_child n p k child =
      let deeper = depth_in-child n p k child in
      omega (arith, deeper.0, deeper.1, room_below-slab s n, room_below-slab s p)
