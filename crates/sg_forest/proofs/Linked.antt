-- The loop that hangs nodes under a parent.
use Rattle.std.proofs.Common.{◌≡◌, ◌≢◌, ◌<◌, ◌+◌, ℕ, List, length, get_or, Option, Some, sym, ap, ◌∙◌, inl, inr, arith}
use Rattle.std.proofs.lemmas.Bool.{cases_eq}
use Rattle.std.proofs.lemmas.Option.{slice_get-get_or}
use Rattle.std.specs.List.{slice_get}
use Rattle.sg_forest.specs.declared.node_id.NodeId.{NodeId}
use Rattle.sg_forest.specs.Node.{Node}
use Rattle.sg_forest.specs.Trees.{IsLive}
use Rattle.sg_forest.specs.Steps.{AreDistinct}

module _ {L D : Type 0} (old now : NodeId → Option (Node L D)) (parent : NodeId) (kids : List NodeId) where
  -- the nodes before this place hang, and the others are as they were
  pub record IsHung (i : ℕ) : Type 0 where
    pub hung : (j : ℕ) (kid : NodeId) (x : Node L D) → j < i → slice_get kids j ≡ Some kid → old kid ≡ Some x → now kid ≡ Some (record x { up = Some (parent, j) })
    pub others : (n : NodeId) → ((j : ℕ) → j < i → slice_get kids j ≢ Some n) → now n ≡ old n

module _ {L D : Type 0} (old now : NodeId → Option (Node L D)) (parent : NodeId) (kids : List NodeId) (i : ℕ)
    (distinct : AreDistinct kids) (within : i < length kids) (so_far : IsHung old now parent kids i) where
  abbrev pub next : NodeId
  next = get_or kids i (record { key = 0 })

  at_place : slice_get kids i ≡ Some next
  at_place = slice_get-get_or kids i _ within

  untouched : now next ≡ old next
  untouched = so_far.others next (λ j below listed. let e = distinct j i next listed at_place in omega arith)

  pub next_live : ((k : ℕ) (kid : NodeId) → slice_get kids k ≡ Some kid → IsLive old kid) → IsLive now next
  next_live live = let here = live i next at_place in record { node = here.node; found = untouched ∙ here.found }

  pub IsHung-more : (new : NodeId → Option (Node L D)) → ((x : Node L D) → now next ≡ Some x → new next ≡ Some (record x { up = Some (parent, i) })) → ((n : NodeId) → n ≢ next → new n ≡ now n) → IsHung old new parent kids (i + 1)
  IsHung-more new written kept = record {
    hung = λ j kid x below listed there.
        elim (cases_eq j i) [
          | inl here ↦
              let listed_here : slice_get kids i ≡ Some kid = ap (slice_get kids) (sym here) ∙ listed in
              let is : next ≡ kid = cc (listed_here, at_place) in
              let before : now next ≡ Some x = untouched ∙ ap old is ∙ there in
              ap new (sym is) ∙ written x before ∙ ap (λ m. Some (record x { up = Some (parent, m) })) (sym here)
          | inr elsewhere ↦
              let differs : kid ≢ next = λ e. elsewhere (distinct j i kid listed (at_place ∙ ap Some (sym e))) in
              kept kid differs ∙ so_far.hung j kid x (omega arith) listed there
        ];
    others = λ n unlisted.
        let differs : n ≢ next = λ e. unlisted i (omega arith) (at_place ∙ ap Some (sym e)) in
        kept n differs ∙ so_far.others n (λ j below. unlisted j (omega arith));
  }
