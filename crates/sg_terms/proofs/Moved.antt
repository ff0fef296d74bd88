-- What steps on the trees do to the terms that nodes hold, and to their numbers.
use Rattle.std.proofs.Common.{◌≡◌, ℕ, List, ◌∷◌, Option, Some, None, refl, sym, ◌∙◌, ap, inl, inr}
use Rattle.std.specs.List.{slice_get}
use Rattle.std.specs.Prelude.{option_and_then}
use Rattle.sg_kinds.specs.Values.{Value}
use Rattle.sg_kinds.specs.Terms.{Term}
use Rattle.sg_kinds.specs.Places.{Place, put}
use Rattle.sg_kinds.specs.declared.spec.Spec.{Spec}
use Rattle.sg_pool.specs.Pools.{IsGrown}
use Rattle.sg_pool.proofs.Grown.{grown_itself}
use Rattle.sg_forest.specs.declared.node_id.NodeId.{NodeId}
use Rattle.sg_forest.specs.Node.{Node}
use Rattle.sg_forest.specs.Trees.{Trees, node_at, IsLive, IsRoot, IsChild, Climbs}
use Rattle.sg_forest.specs.Tree.{Tree, Stands, ReplacesTrees, replaced}
use Rattle.sg_forest.specs.Steps.{KeepsParts, SameSort, IsSwapped}
use Rattle.sg_forest.proofs.Paths.{root_or_child}
use Rattle.sg_groves.specs.declared.kind.Kind.{Kind}
use Rattle.sg_groves.specs.declared.part.Part.{Part}
use Rattle.sg_groves.specs.Grove.{IsGrove}
use Rattle.sg_groves.specs.Stored.{number_at}
use Rattle.sg_groves.specs.Holds.{term_of, Holds}
use Rattle.sg_groves.proofs.Frames.{grown_term}
use Rattle.sg_groves.proofs.Held.{place_held}
use Rattle.sg_groves.proofs.Replacing.{tree_replaced}
use Rattle.sg_terms.specs.Occurrences.{AreTrees}
use Rattle.sg_terms.proofs.Steps.{grove, IsGrove-same, IsGrove-swapped}

-- the number that a node has in a slot
abbrev slot_in : ℕ → Option (Node Kind Part) → Option ℕ
slot_in slot s = option_and_then (λ x. slice_get x.part.values slot) s

module _ (spec : Spec) (view : ℕ) (old new : Trees Kind Part) (was now : List Value) (grown : IsGrown was now) (held : IsGrove (grove spec view old was)) where
  -- a tree that stays keeps its term
  pub Holds-stays : (m : NodeId) (t : Term) → ((tree : Tree Kind Part) → Stands (node_at old) m tree → Stands (node_at new) m tree) → Holds (grove spec view old was) m t → Holds (grove spec view new now) m t
  Holds-stays m t stays h = record { tree = h.tree; stands = stays h.tree h.stands; term = grown_term (grove spec view old was) held now grown h.tree m h.stands ∙ h.term }

module _ (spec : Spec) (view : ℕ) (old new : Trees Kind Part) (pool : List Value) (held : IsGrove (grove spec view old pool)) where
  -- a tree in the place of another is its term in that place
  pub Holds-replaced : (a d : NodeId) → ReplacesTrees (node_at old) (node_at new) a d → (k : ℕ) (u : Place) (m : NodeId) (t s : Term) → Climbs (node_at old) (k ∷ u) a m → Holds (grove spec view old pool) m t → Holds (grove spec view old pool) d s → Holds (grove spec view new pool) m (put t (k ∷ u) s)
  Holds-replaced a d replaces k u m t s climbs h other =
      let below = place_held (grove spec view old pool) held (k ∷ u) a m h.tree climbs h.stands in
      record {
        tree = replaced (k ∷ u) other.tree h.tree;
        stands = replaces k u m h.tree other.tree climbs h.stands other.stands;
        term = tree_replaced pool (k ∷ u) other.tree h.tree (term_of pool below.0) below.2
            ∙ ap (λ x. put x (k ∷ u) (term_of pool other.tree)) h.term ∙ ap (put t (k ∷ u)) other.term;
      }

  module _ (a d : NodeId) (live : IsLive (node_at old) a) (root : IsRoot (node_at old) d)
      (swapped : (p : NodeId) (k : ℕ) → IsChild (node_at old) a p k → IsSwapped (node_at old) (node_at new) a d p k) (unchanged : IsRoot (node_at old) a → new ≡ old) (keeps : KeepsParts (node_at old) (node_at new)) where
    -- each node keeps its numbers
    pub numbers_swapped : (m : NodeId) (slot : ℕ) → number_at (grove spec view new pool) m slot ≡ number_at (grove spec view old pool) m slot
    numbers_swapped m slot = by (node_at old m) refl
      where
        dead : node_at old m ≡ None → node_at new m ≡ None
        dead none =
            elim (root_or_child (node_at old) a live) [
              | inl top ↦ ap (λ t. node_at t m) (unchanged top) ∙ none
              | inr hangs ↦
                  let s = swapped hangs.0 hangs.1 hangs.2 in
                  s.others m (λ e. let l = live.found in let n = ap (node_at old) (sym e) ∙ none in cc (l, n)) (λ e. let l = root.found in let n = ap (node_at old) (sym e) ∙ none in cc (l, n))
                  (λ e. let l = (held.forest.linked.upward hangs.0 hangs.1 a hangs.2).found in let n = ap (node_at old) (sym e) ∙ none in cc (l, n)) ∙ none
            ]

        by : (s : Option (Node Kind Part)) → node_at old m ≡ s → number_at (grove spec view new pool) m slot ≡ number_at (grove spec view old pool) m slot
        by None e = ap (slot_in slot) (dead e) ∙ ap (slot_in slot) (sym e)
        by (Some x) e =
            let k = keeps.kept m x e in
            ap (slot_in slot) k.1 ∙ ap (λ (p : Part). slice_get p.values slot) k.3 ∙ ap (slot_in slot) (sym e)

    pub IsGrove-exchanged : SameSort (λ (l : Kind). l.phylum) (node_at old) a d → AreTrees new → IsGrove (grove spec view new pool)
    IsGrove-exchanged phyla trees =
        elim (root_or_child (node_at old) a live) [
          | inl top ↦ IsGrove-same spec view old new pool pool (grown_itself pool) held (ap (λ (t : Trees Kind Part). t.nodes) (unchanged top))
          | inr hangs ↦ IsGrove-swapped spec view old new pool pool (grown_itself pool) held a d hangs.0 hangs.1 hangs.2 (record { node = root.node; found = root.found }) phyla (swapped hangs.0 hangs.1 hangs.2) keeps trees
        ]
