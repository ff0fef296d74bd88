-- A forest stays one without a tree.
use Rattle.std.proofs.Common.{◌≡◌, ◌⊎◌, ℕ, List, [], ◌∷◌, Option, Some, None, refl, sym, ◌∙◌, inl, inr}
use Rattle.sg_forest.specs.declared.node_id.NodeId.{NodeId}
use Rattle.sg_forest.specs.Node.{Node}
use Rattle.sg_forest.specs.Trees.{IsLive, IsRoot, IsChild, Climbs, IsInside, IsLinked, IsForest}
use Rattle.sg_forest.specs.Steps.{IsDropped}
use Rattle.sg_forest.proofs.Paths.{cases_id, root_is_no_child, one_path, inside_by_parent, inside_cases}

module _ {L D : Type 0} (old new : NodeId → Option (Node L D)) (root : NodeId)
    (linked : IsLinked old) (top : IsRoot old root) (dropped : IsDropped old new root) where
  -- a node is in the tree, or not
  inside_or_not : (n : NodeId) → IsLive old n → IsInside old n root ⊎ (IsInside old n root → ⊥)
  inside_or_not n live =
      let has = linked.rooted n live in
      elim (cases_id has.root root) [
        | inl e ↦ inl (rw e at (let w : IsInside old n has.root = record { path = has.path; climbs = has.climbs } in w))
        | inr differs ↦ inr (λ inside. differs (one_path old has.path inside.path n has.root root has.is_root top has.climbs inside.climbs).1)
      ]

  -- a node that is left is as it was, and was in another tree
  pub left : (n : NodeId) (y : Node L D) → new n ≡ Some y → (old n ≡ Some y) × (IsInside old n root → ⊥)
  left n y found = by_slot (old n) refl
    where
      by_slot : (slot : Option (Node L D)) → old n ≡ slot → (old n ≡ Some y) × (IsInside old n root → ⊥)
      by_slot None e =
          let out : IsInside old n root → ⊥ = λ inside. let live = live_inside inside.path n inside.climbs in cc (e, live.found) in
          absurd (let same = dropped.others n out in cc (same, e, found))
        where
          live_inside : (path : List ℕ) (m : NodeId) → Climbs old path m root → IsLive old m
          live_inside [] m same = rw same (let w : IsLive old root = record { node = top.node; found = top.found } in w)
          live_inside (k ∷ path) m climbs = record { node = climbs.1.node; found = climbs.1.found }
      by_slot (Some x) e =
          elim (inside_or_not n (record { node = x; found = e })) [
            | inl inside ↦ let gone = dropped.gone n inside in absurd (cc (gone, found))
            | inr out ↦ (sym (dropped.others n out) ∙ found, out)
          ]

  -- outside the tree a child's parent is outside, and a parent's child
  pub out_up : (n p : NodeId) (k : ℕ) → IsChild old n p k → (IsInside old n root → ⊥) → IsInside old p root → ⊥
  out_up n p k child out inside = out (inside_by_parent old n p root k child inside)

  pub out_down : (n p : NodeId) (k : ℕ) → IsChild old n p k → (IsInside old p root → ⊥) → IsInside old n root → ⊥
  out_down n p k child out inside =
      elim (inside_cases old n p root k child inside) [
        | inl e ↦ root_is_no_child old root p k top (rw e at child)
        | inr above ↦ out above
      ]

  pub kept_climbs : (path : List ℕ) (n r : NodeId) → (IsInside old n root → ⊥) → Climbs old path n r → Climbs new path n r
  kept_climbs [] n r out same = same
  kept_climbs (k ∷ path) n r out climbs =
      let child = climbs.1 in
      let still : IsChild new n climbs.0 k = record { node = child.node; found = dropped.others n out ∙ child.found; hangs = child.hangs } in
      (climbs.0, still, kept_climbs path climbs.0 r (out_up n climbs.0 k child out) climbs.2)

  out_root : (path : List ℕ) (n r : NodeId) → (IsInside old n root → ⊥) → Climbs old path n r → IsInside old r root → ⊥
  out_root [] n r out same inside = out (rw same inside)
  out_root (k ∷ path) n r out climbs inside = out_root path climbs.0 r (out_up n climbs.0 k climbs.1 out) climbs.2 inside

  pub IsLinked-dropped : IsLinked new
  IsLinked-dropped = record {
    down = λ p k n above.
        let was = left p above.node above.found in
        let child = linked.down p k n (record { node = above.node; found = was.0; lists = above.lists }) in
        record { node = child.node; found = dropped.others n (out_down n p k child was.1) ∙ child.found; hangs = child.hangs };
    upward = λ p k n child.
        let was = left n child.node child.found in
        let below : IsChild old n p k = record { node = child.node; found = was.0; hangs = child.hangs } in
        let above = linked.upward p k n below in
        record { node = above.node; found = dropped.others p (out_up n p k below was.1) ∙ above.found; lists = above.lists };
    rooted = λ n live.
        let was = left n live.node live.found in
        let has = linked.rooted n (record { node = live.node; found = was.0 }) in
        let is_root = has.is_root in
        let still : IsRoot new has.root = record { node = is_root.node; found = dropped.others has.root (out_root has.path n has.root was.1 has.climbs) ∙ is_root.found; top = is_root.top } in
        record { root = has.root; is_root = still; path = has.path; climbs = kept_climbs has.path n has.root was.1 has.climbs };
  }

  pub IsForest-dropped : (arity sort : L → ℕ) (kid_sort : L → ℕ → ℕ) → IsForest arity sort kid_sort old → IsForest arity sort kid_sort new
  IsForest-dropped arity sort kid_sort forest = record {
    linked = IsLinked-dropped;
    arities = λ n y found. forest.arities n y (left n y found).0;
    sorts = λ p k n x y found lists below. forest.sorts p k n x y (left p x found).0 lists (left n y below).0;
  }
