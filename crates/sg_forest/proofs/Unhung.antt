-- Trees stay linked where a last child without children is taken out.
use Rattle.std.proofs.Common.{◌≡◌, ◌≢◌, ◌<◌, ◌-◌, ℕ, suc, List, [], ◌∷◌, length, take, Option, Some, None, refl, sym, ap, ◌∙◌, inl, inr, arith}
use Rattle.std.proofs.lemmas.Option.{slice_get_within}
use Rattle.std.specs.List.{slice_get}
use Rattle.sg_forest.specs.declared.node_id.NodeId.{NodeId}
use Rattle.sg_forest.specs.Node.{Node}
use Rattle.sg_forest.specs.Trees.{IsLive, IsRoot, IsChild, Lists, Climbs, IsLinked}
use Rattle.sg_forest.proofs.Paths.{cases_id, root_is_no_child, one_parent, one_kid, parent_differs, child_has_root}
use Rattle.sg_forest.proofs.Moves.{slice_get-take, slice_get-take_below}

module _ {L D : Type 0} (old new : NodeId → Option (Node L D)) where
  -- a node without children is taken out, which was the last child of that parent
  pub record IsUnhung (n p : NodeId) : Type 0 where
    pub gone : new n ≡ None
    pub shorter : (x : Node L D) → old p ≡ Some x → new p ≡ Some (record x { kids = take (length x.kids - 1) x.kids })
    pub others : (m : NodeId) → m ≢ n → m ≢ p → new m ≡ old m

module _ {L D : Type 0} (old new : NodeId → Option (Node L D)) (n p : NodeId) (k : ℕ)
    (linked : IsLinked old) (child : IsChild old n p k)
    (leaf : (j : ℕ) (c : NodeId) → Lists old n j c → ⊥)
    (last : (x : Node L D) → old p ≡ Some x → length x.kids ≡ suc k)
    (unhung : IsUnhung old new n p) where
  p_is_not_n : p ≢ n
  p_is_not_n = parent_differs old n p k (child_has_root old linked n p k child) child

  parent : Lists old p k n
  parent = linked.upward p k n child

  pub not_gone : (m : NodeId) → IsLive new m → m ≢ n
  not_gone m live e = let there = ap new (sym e) ∙ live.found in cc (there, unhung.gone)

  -- a node that is left keeps its place
  pub kept_up : (m : NodeId) (x : Node L D) → m ≢ n → old m ≡ Some x → (y : Node L D) × (new m ≡ Some y) × (y.up ≡ x.up)
  kept_up m x not_n found =
      elim (cases_id m p) [
        | inl e ↦ (record x { kids = take (length x.kids - 1) x.kids }, ap new e ∙ unhung.shorter x (ap old (sym e) ∙ found), refl)
        | inr not_p ↦ (x, unhung.others m not_n not_p ∙ found, refl)
      ]

  pub was_up : (m : NodeId) (y : Node L D) → new m ≡ Some y → (x : Node L D) × (old m ≡ Some x) × (y.up ≡ x.up)
  was_up m y found =
      elim (cases_id m p) [
        | inl e ↦
            let there = ap new (sym e) ∙ found in
            let is : y ≡ record parent.node { kids = take (length parent.node.kids - 1) parent.node.kids } = cc (there, unhung.shorter parent.node parent.found) in
            (parent.node, ap old e ∙ parent.found, ap (λ z. z.up) is)
        | inr not_p ↦ (y, sym (unhung.others m (not_gone m (record { node = y; found = found })) not_p) ∙ found, refl)
      ]

  kept_child : (m q : NodeId) (j : ℕ) → m ≢ n → IsChild old m q j → IsChild new m q j
  kept_child m q j not_n below = let now = kept_up m below.node not_n below.found in record { node = now.0; found = now.1; hangs = now.2 ∙ below.hangs }

  pub was_child : (m q : NodeId) (j : ℕ) → IsChild new m q j → IsChild old m q j
  was_child m q j below = let was = was_up m below.node below.found in record { node = was.0; found = was.1; hangs = sym was.2 ∙ below.hangs }

  -- what is still listed was listed, and is another node
  was_listed : (q : NodeId) (j : ℕ) (m : NodeId) → Lists new q j m → Lists old q j m × (m ≢ n)
  was_listed q j m above =
      elim (cases_id q p) [
        | inl e ↦
            let there = ap new (sym e) ∙ above.found in
            let is : above.node ≡ record parent.node { kids = take (length parent.node.kids - 1) parent.node.kids } = cc (there, unhung.shorter parent.node parent.found) in
            let front : slice_get (take (length parent.node.kids - 1) parent.node.kids) j ≡ Some m = ap (λ z. slice_get z.kids j) (sym is) ∙ above.lists in
            let below = slice_get-take_below parent.node.kids (length parent.node.kids - 1) j m front in
            let lists = sym (slice_get-take parent.node.kids (length parent.node.kids - 1) j below) ∙ front in
            let was : Lists old q j m = record { node = parent.node; found = ap old e ∙ parent.found; lists = lists } in (
              was,
              λ f.
                  let as_n : IsChild old n q j = rw f at (linked.down q j m was) in
                  let one = one_parent old n q p j k as_n child in
                  omega (arith, one.1, below, last parent.node parent.found),
            )
        | inr not_p ↦
            let was : Lists old q j m = record { node = above.node; found = sym (unhung.others q (not_gone q (record { node = above.node; found = above.found })) not_p) ∙ above.found; lists = above.lists } in (
              was,
              λ f.
                  let as_n : IsChild old n q j = rw f at (linked.down q j m was) in
                  not_p (one_parent old n q p j k as_n child).0,
            )
      ]

  kept_lists : (q : NodeId) (j : ℕ) (m : NodeId) → m ≢ n → Lists old q j m → Lists new q j m
  kept_lists q j m not_n above =
      let not_leaf : q ≢ n = λ e. leaf j m (rw e at above) in
      elim (cases_id q p) [
        | inl e ↦
            let there : old p ≡ Some above.node = ap old (sym e) ∙ above.found in
            let within = slice_get_within above.node.kids j m above.lists in
            let differs : j ≢ k = λ f. not_n (one_kid old p m n k (rw (e, f) at above) parent) in
            let below : j < length above.node.kids - 1 = omega (arith, within, differs, last above.node there) in
            record {
              node = record above.node { kids = take (length above.node.kids - 1) above.node.kids };
              found = ap new e ∙ unhung.shorter above.node there;
              lists = slice_get-take above.node.kids (length above.node.kids - 1) j below ∙ above.lists;
            }
        | inr not_p ↦ record { node = above.node; found = unhung.others q not_leaf not_p ∙ above.found; lists = above.lists }
      ]

  parent_is_not_gone : (m q : NodeId) (j : ℕ) → IsChild old m q j → q ≢ n
  parent_is_not_gone m q j below e = leaf j m (rw e at (linked.upward q j m below))

  pub kept_climbs : (path : List ℕ) (m r : NodeId) → m ≢ n → Climbs old path m r → Climbs new path m r
  kept_climbs [] m r not_n same = same
  kept_climbs (j ∷ path) m r not_n climbs = (climbs.0, kept_child m climbs.0 j not_n climbs.1, kept_climbs path climbs.0 r (parent_is_not_gone m climbs.0 j climbs.1) climbs.2)

  pub kept_root : (r : NodeId) → IsRoot old r → IsRoot new r
  kept_root r root =
      let now = kept_up r root.node (λ e. root_is_no_child old n p k (rw e at root) child) root.found in
      record { node = now.0; found = now.1; top = now.2 ∙ root.top }

  pub IsLinked-unhung : IsLinked new
  IsLinked-unhung = record {
    down = λ q j m lists. let was = was_listed q j m lists in kept_child m q j was.1 (linked.down q j m was.0);
    upward = λ q j m below. kept_lists q j m (not_gone m (record { node = below.node; found = below.found })) (linked.upward q j m (was_child m q j below));
    rooted = λ m live.
        let was = was_up m live.node live.found in
        let has = linked.rooted m (record { node = was.0; found = was.1 }) in
        record { root = has.root; is_root = kept_root has.root has.is_root; path = has.path; climbs = kept_climbs has.path m has.root (not_gone m live) has.climbs };
  }
