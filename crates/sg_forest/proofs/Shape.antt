-- Where only parts differ.
use Rattle.std.proofs.Common.{◌≡◌, ℕ, zero, suc, List, [], ◌∷◌, length, Option, Some, None, refl, sym, ap, ◌∙◌, inl, inr}
use Rattle.std.specs.List.{slice_get}
use Rattle.sg_forest.specs.declared.node_id.NodeId.{NodeId}
use Rattle.sg_forest.specs.Node.{Node}
use Rattle.sg_forest.specs.Trees.{IsLive, IsRoot, IsChild, Lists, Climbs, IsInside, HasRoot, IsLinked, IsForest, depth_within}
use Rattle.sg_forest.specs.Steps.{IsPartSet, KeepsShape}
use Rattle.sg_forest.proofs.Paths.{cases_id}
use Rattle.sg_forest.proofs.Moves.{was_of}

pub KeepsShape-same : {L D : Type 0} (at : NodeId → Option (Node L D)) → KeepsShape at at
KeepsShape-same at = record { kept = λ n x found. (x, found, refl, refl, refl); dead = λ n none. none }

-- one step after another
pub KeepsShape-then : {L D : Type 0} (old mid new : NodeId → Option (Node L D)) → KeepsShape old mid → KeepsShape mid new → KeepsShape old new
KeepsShape-then old mid new one two = record {
  kept = λ n x found.
      let first = one.kept n x found in
      let last = two.kept n first.0 first.1 in
      (last.0, last.1, last.2 ∙ first.2, last.3 ∙ first.3, last.4 ∙ first.4);
  dead = λ n none. two.dead n (one.dead n none);
}

module _ {L D : Type 0} (old new : NodeId → Option (Node L D)) where
  -- a node with the same label, place and children
  pub record IsAlike (n : NodeId) (x y : Node L D) : Type 0 where
    pub label : y.label ≡ x.label
    pub up : y.up ≡ x.up
    pub kids : y.kids ≡ x.kids

  shape_after : KeepsShape old new → (n : NodeId) (x : Node L D) → old n ≡ Some x → (y : Node L D) × (new n ≡ Some y) × IsAlike n x y
  shape_after shape n x found =
      let now = shape.kept n x found in
      (now.0, now.1, record { label = now.2; up = now.3; kids = now.4 })

  pub KeepsShape-back : KeepsShape old new → KeepsShape new old
  KeepsShape-back shape = record {
    kept = λ n y found.
        let was = was_of old new IsAlike (shape_after shape) shape.dead n y found in
        (was.0, was.1, sym was.2.label, sym was.2.up, sym was.2.kids);
    dead = λ n none. by_slot n none (old n) refl;
  }
    where
      by_slot : (n : NodeId) → new n ≡ None → (slot : Option (Node L D)) → old n ≡ slot → old n ≡ None
      by_slot n none None e = e
      by_slot n none (Some x) e = let now = shape.kept n x e in absurd (cc (none, now.1))

  module _ (shape : KeepsShape old new) where
    pub IsLive-shape : (n : NodeId) → IsLive old n → IsLive new n
    IsLive-shape n live = let now = shape.kept n live.node live.found in record { node = now.0; found = now.1 }

    pub IsRoot-shape : (n : NodeId) → IsRoot old n → IsRoot new n
    IsRoot-shape n root = let now = shape.kept n root.node root.found in record { node = now.0; found = now.1; top = now.3 ∙ root.top }

    pub IsChild-shape : (n p : NodeId) (k : ℕ) → IsChild old n p k → IsChild new n p k
    IsChild-shape n p k child = let now = shape.kept n child.node child.found in record { node = now.0; found = now.1; hangs = now.3 ∙ child.hangs }

    pub Lists-shape : (p : NodeId) (k : ℕ) (n : NodeId) → Lists old p k n → Lists new p k n
    Lists-shape p k n above = let now = shape.kept p above.node above.found in record { node = now.0; found = now.1; lists = ap (λ ids. slice_get ids k) now.4 ∙ above.lists }

    pub Climbs-shape : (path : List ℕ) (n m : NodeId) → Climbs old path n m → Climbs new path n m
    Climbs-shape [] n m same = same
    Climbs-shape (k ∷ path) n m climbs = (climbs.0, IsChild-shape n climbs.0 k climbs.1, Climbs-shape path climbs.0 m climbs.2)

    pub IsInside-shape : (n m : NodeId) → IsInside old n m → IsInside new n m
    IsInside-shape n m inside = record { path = inside.path; climbs = Climbs-shape inside.path n m inside.climbs }

    pub HasRoot-shape : (n : NodeId) → HasRoot old n → HasRoot new n
    HasRoot-shape n has = record { root = has.root; is_root = IsRoot-shape has.root has.is_root; path = has.path; climbs = Climbs-shape has.path n has.root has.climbs }

module _ {L D : Type 0} (old new : NodeId → Option (Node L D)) (shape : KeepsShape old new) where
  pub IsLinked-shape : IsLinked old → IsLinked new
  IsLinked-shape linked =
      let back = KeepsShape-back old new shape in
      record {
        down = λ p k n lists. IsChild-shape old new shape n p k (linked.down p k n (Lists-shape new old back p k n lists));
        upward = λ p k n child. Lists-shape old new shape p k n (linked.upward p k n (IsChild-shape new old back n p k child));
        rooted = λ n live. HasRoot-shape old new shape n (linked.rooted n (IsLive-shape new old back n live));
      }

  pub IsForest-shape : (arity sort : L → ℕ) (kid_sort : L → ℕ → ℕ) → IsForest arity sort kid_sort old → IsForest arity sort kid_sort new
  IsForest-shape arity sort kid_sort forest =
      let back = KeepsShape-back old new shape in
      record {
        linked = IsLinked-shape forest.linked;
        arities = λ n y found.
            let was = back.kept n y found in
            ap length (sym was.4) ∙ forest.arities n was.0 was.1 ∙ ap arity was.2;
        sorts = λ p k n x y found lists below.
            let was = back.kept p x found in
            let was_kid = back.kept n y below in
            ap sort (sym was_kid.2) ∙ forest.sorts p k n was.0 was_kid.0 was.1 (ap (λ ids. slice_get ids k) was.4 ∙ lists) was_kid.1 ∙ ap (λ l. kid_sort l k) was.2;
      }

  pub depth_within-shape : (most : ℕ) (n : NodeId) → depth_within new most n ≡ depth_within old most n
  depth_within-shape zero n = refl
  depth_within-shape (suc most) n = by_slot (λ m. depth_within-shape most m) (old n) refl
    where
      by_up : ((m : NodeId) → depth_within new most m ≡ depth_within old most m) → (x y : Node L D) → old n ≡ Some x → new n ≡ Some y → (up : Option (NodeId × ℕ)) → x.up ≡ up → y.up ≡ up → depth_within new (suc most) n ≡ depth_within old (suc most) n
      by_up above x y was is None e f = rw (was, is, e, f) refl
      by_up above x y was is (Some (p, k)) e f = rw (was, is, e, f) (ap suc (above p))

      by_slot : ((m : NodeId) → depth_within new most m ≡ depth_within old most m) → (slot : Option (Node L D)) → old n ≡ slot → depth_within new (suc most) n ≡ depth_within old (suc most) n
      by_slot above None e = rw (e, shape.dead n e) refl
      by_slot above (Some x) e =
          let now = shape.kept n x e in
          by_up above x now.0 e now.1 x.up refl now.3

-- a node with another part has its shape
pub KeepsShape-part_set : {L D : Type 0} (old new : NodeId → Option (Node L D)) (a : NodeId) (part : D) → IsLive old a → IsPartSet old new a part → KeepsShape old new
KeepsShape-part_set old new a part live set = record {
  kept = λ n x found.
      elim (cases_id n a) [
        | inl e ↦ (record x { part = part }, ap new e ∙ set.changed x (ap old (sym e) ∙ found), refl, refl, refl)
        | inr other ↦ (x, set.others n other ∙ found, refl, refl, refl)
      ];
  dead = λ n none. set.others n (λ e. let there = ap old (sym e) ∙ none in cc (there, live.found)) ∙ none;
}
