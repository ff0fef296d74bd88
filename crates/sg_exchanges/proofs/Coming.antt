-- The tree of a root once another tree came at a place.
use Rattle.std.specs.Prelude.{◌≡◌, ◌≢◌, refl, ℕ, [], ◌∷◌, ◌++◌, Some}
use Rattle.std.proofs.Common.{sym, ap, ◌∙◌, subst, inl, inr}
use Rattle.std.proofs.lemmas.List.{append-nil}
use Rattle.std.proofs.lemmas.Option.{same_Some}
use Rattle.sg_kinds.specs.Terms.{Term}
use Rattle.sg_kinds.specs.Places.{Place, put}
use Rattle.sg_pool.proofs.Grown.{grown_itself}
use Rattle.sg_forest.specs.declared.node_id.NodeId.{NodeId}
use Rattle.sg_forest.specs.Node as forest
use Rattle.sg_forest.specs.Steps.{KeepsParts}
use Rattle.sg_forest.specs.Tree.{Stands}
use Rattle.sg_forest.specs.Trees.{Climbs, IsRoot}
use Rattle.sg_forest.proofs.Laws.{IsForest-swap, KeepsParts-swap, ReplacesTrees-swap, ways_over_at}
use Rattle.sg_forest.proofs.Paths.{root_or_child}
use Rattle.sg_forest.proofs.Swapped.{was_child}
use Rattle.sg_groves.specs.declared.kind.Kind.{Kind}
use Rattle.sg_groves.specs.declared.part.Part.{Part}
use Rattle.sg_groves.specs.Evaluated.{IsAtOrBelow}
use Rattle.sg_groves.specs.Grove.{Grove, nodes, IsGrove, IsNode}
use Rattle.sg_groves.specs.Holds.{Holds}
use Rattle.sg_groves.specs.Unchanged.{OnlyStored}
use Rattle.sg_groves.proofs.Frames.{only_climbed}
use Rattle.sg_groves.proofs.Ways.{one_node, one_way}
use Rattle.sg_terms.specs.Occurrences.{AreTrees}
use Rattle.sg_terms.proofs.Held.{IsGrove-after, KeepsKinds, kids_fit, node_after}
use Rattle.sg_terms.proofs.Moved.{Holds-replaced}
use Rattle.sg_terms.proofs.Steps.{IsGrove-swapped}
use Rattle.sg_trail.specs.Trails.{IsAnySlot, IsExchanged}
use Rattle.sg_propagate.specs.Asked.{root_then}
use Rattle.sg_exchanges.specs.Noted.{IsTreeThen}

-- two trees changed places
module _ (old mid : Grove) (is : IsGrove old) (at d : NodeId) (ex : IsExchanged old mid at d) where
  abbrev TheNode : Type 0
  TheNode = forest.Node Kind Part

  abbrev moved : Grove
  moved = record { spec = old.spec; trees = mid.trees; pool = old.pool; view = old.view }

  by_moved : (P : Grove → Type 0) → P moved → P mid
  by_moved P p = subst P (λ i. record { spec = sym ex.spec i; trees = mid.trees; pool = sym ex.pool i; view = sym ex.view i }) p

  same_nodes : IsRoot (nodes old) at → nodes mid ≡ nodes old
  same_nodes top = λ i n. ex.unchanged top n i

  keeps : KeepsParts (nodes old) (nodes mid)
  keeps = KeepsParts-swap (nodes old) (nodes mid) at d is.forest.linked ex.live ex.root ex.apart ex.swapped same_nodes

  trees : AreTrees mid.trees
  trees =
      IsForest-swap (nodes old) (nodes mid) at d is.forest.linked ex.live ex.root ex.apart ex.swapped same_nodes
      (λ (k : Kind). k.arity) (λ (k : Kind). 0) (λ (k : Kind) (i : ℕ). 0) is.forest (λ x y a b. refl)

  grove_same : IsRoot (nodes old) at → IsGrove moved
  grove_same top = IsGrove-after old.spec old.view old.trees mid.trees old.pool old.pool (grown_itself old.pool) is trees each
    where
      kinds : KeepsKinds old.spec old.view old.trees mid.trees old.pool old.pool
      kinds n x y there then =
          ap (λ (z : TheNode). z.label) (same_Some y x (sym then ∙ ex.unchanged top n ∙ there))

      each : (n : NodeId) (y : TheNode) → nodes mid n ≡ Some y → IsNode moved y
      each n y then =
          let there = sym (ex.unchanged top n) ∙ then in
          node_after old.spec old.view old.trees mid.trees old.pool old.pool (grown_itself old.pool) is n y y there refl refl
          (kids_fit old.spec old.view old.trees mid.trees old.pool old.pool (grown_itself old.pool) is kinds n y there)

  moved_grove : IsGrove moved
  moved_grove = elim (root_or_child (nodes old) at ex.live) [
    | inl top ↦ grove_same top
    | inr up ↦
        IsGrove-swapped old.spec old.view old.trees mid.trees old.pool old.pool (grown_itself old.pool) is at d up.0 up.1 up.2
        (record { node = ex.root.node; found = ex.root.found }) ex.phyla (ex.swapped up.0 up.1 up.2) keeps trees
  ]

  pub grove_then : IsGrove mid
  grove_then = by_moved IsGrove moved_grove

  module _ (root : NodeId) (u : Place) (top : IsRoot (nodes old) root) (way : Climbs (nodes old) u at root) (other : d ≢ root) where
    at_top : at ≡ root → IsRoot (nodes old) at
    at_top e = subst (IsRoot (nodes old)) (sym e) top

    pub holds_then : (t s : Term) → Holds old root t → Holds old d s → Holds mid (root_then u root d) (put t u s)
    holds_then t s holds comes = by_moved (λ g. Holds g (root_then u root d) (put t u s)) (by u way)
      where
        by : (w : Place) → Climbs (nodes old) w at root → Holds moved (root_then w root d) (put t w s)
        by [] e = record {
          tree = comes.tree;
          stands = subst (λ f. Stands f d comes.tree) (sym (same_nodes (at_top e))) comes.stands;
          term = comes.term;
        }
        by (k ∷ w) up =
            Holds-replaced old.spec old.view old.trees mid.trees old.pool is at d
            (ReplacesTrees-swap (nodes old) (nodes mid) at d is.forest.linked ex.live ex.root ex.apart ex.swapped same_nodes)
            k w root t s up holds comes

    -- a node of the tree stands where it stood, or is of the one that came
    outside : (w v : Place) (n : NodeId) → Climbs (nodes old) w at root → (IsAtOrBelow v w → ⊥) → Climbs (nodes mid) v n (root_then w root d) → Climbs (nodes old) v n root
    outside [] v n e out c = absurd (out (record { below = v; is = sym (append-nil v) }))
    outside (k ∷ w) [] n up out same = same
    outside (k ∷ w) (j ∷ v) n up out c =
        let above = outside (k ∷ w) v c.0 up (λ low. out (record { below = j ∷ low.below; is = ap (λ z. j ∷ z) low.is })) c.2 in
        elim (was_child (nodes old) (nodes mid) at d up.0 k is.forest.linked up.1 ex.root ex.apart (ex.swapped up.0 k up.1) n c.0 j c.1) [
          | inl new ↦
              let same = (one_way old is v w up.0 root root top top (subst (λ z. Climbs (nodes old) v z root) new.1 above) up.2).0 in
              absurd (out (record { below = []; is = λ i. new.2 i ∷ same i }))
          | inr was ↦ (c.0, was.1, above)
        ]

    inside : (w v : Place) (n : NodeId) → Climbs (nodes old) w at root → Climbs (nodes mid) (v ++ w) n (root_then w root d) → Climbs (nodes old) v n d
    inside [] v n e c =
        subst (λ f. Climbs f v n d) (same_nodes (at_top e))
        (subst (λ z. Climbs (nodes mid) z n d) (append-nil v) c)
    inside (k ∷ w) [] n up c =
        one_node mid grove_then (k ∷ w) n d root c
        (ways_over_at (nodes old) (nodes mid) at d is.forest.linked ex.live ex.root ex.apart ex.swapped same_nodes k w root up)
    inside (k ∷ w) (j ∷ v) n up c =
        let above = inside (k ∷ w) v c.0 up c.2 in
        elim (was_child (nodes old) (nodes mid) at d up.0 k is.forest.linked up.1 ex.root ex.apart (ex.swapped up.0 k up.1) n c.0 j c.1) [
          | inl new ↦ absurd (ex.apart (record { path = k ∷ v; climbs = (up.0, up.1, subst (λ z. Climbs (nodes old) v z d) new.1 above) }))
          | inr was ↦ (c.0, was.1, above)
        ]

    pub tree_there : IsTreeThen old root u (Some d) mid (root_then u root d)
    tree_there = record {
      outside = λ v n out c. outside u v n way out c;
      inside = λ v n c. (ex.root, other, inside u v n way c);
    }

    -- and once numbers are stored
    pub tree_then : (new : Grove) → OnlyStored mid new IsAnySlot → (now : NodeId) → now ≡ root_then u root d → IsTreeThen old root u (Some d) new now
    tree_then new stored now same = record {
      outside = λ v n out c. outside u v n way out (was v n c);
      inside = λ v n c. (ex.root, other, inside u v n way (was (v ++ u) n c));
    }
      where
        was : (v : Place) (n : NodeId) → Climbs (nodes new) v n now → Climbs (nodes mid) v n (root_then u root d)
        was v n c = only_climbed mid new IsAnySlot stored v n (root_then u root d) (subst (Climbs (nodes new) v n) same c)
