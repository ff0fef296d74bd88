-- Other marks of a node change no value of a term, and neither its nodes nor its depth.
use Rattle.std.specs.Prelude.{◌≡◌, refl, ℕ, zero, suc, List, [], ◌∷◌, ◌++◌, length, map, filter, flat_map, Option, None, Some, slice_get, option_and_then}
use Rattle.std.specs.Option.{is_some}
use Rattle.std.proofs.Common.{sym, ap, ◌∙◌, arith, inl, inr}
use Rattle.std.proofs.lemmas.Option.{none-some, same_Some}
use Rattle.sg_kinds.specs.Terms.{Term, Terms, Leaf, Node, NoTerm, AndTerm, terms_of, nodes_of, height_of}
use Rattle.sg_kinds.specs.Places.{Place, child, sub, put, with_child, with_kid, places_from, places_among, places_in}
use Rattle.sg_kinds.specs.Nets.{Net, Reference, label_of, net_of, above}
use Rattle.sg_kinds.specs.Instances.{site_of, below, slots_of}
use Rattle.sg_kinds.specs.FromScratch.{scratch, value_in}
use Rattle.sg_kinds.specs.Sound.{IsSmall}
use Rattle.sg_kinds.specs.Specification.{rules_of}
use Rattle.sg_kinds.specs.declared.spec.Rules.{Rules}
use Rattle.sg_kinds.specs.declared.spec.Spec.{Spec}
use Rattle.sg_kinds.proofs.TermLaws.{sub_put_inside, put_sub}
use Rattle.sg_groves.proofs.Below.{below_or_not}
use Rattle.sg_groves.proofs.Puts.{sub_below, label_outside}
use Rattle.sg_changes.specs.Changes.{marked, with_marks}
use Rattle.sg_changes.specs.declared.step.Marks.{Marks}
use Rattle.sg_changes.proofs.Marking.{part_is}
use Rattle.sg_build.proofs.Counted.{nodes_put, height_put}

child_same : (k : ℕ) (x : Term) (m : Marks) → child k (with_marks x m) ≡ child k x
child_same k (Leaf p v) m = refl
child_same k (Node op n elided ts) m = refl

sub_same : (x : Term) (m : Marks) (k : ℕ) (w : Place) → sub (with_marks x m) (k ∷ w) ≡ sub x (k ∷ w)
sub_same x m k [] = child_same k x m
sub_same x m k (j ∷ w) = ap (option_and_then (child k)) (sub_same x m j w)

top_label : (x : Term) (m : Marks) → label_of (Some (with_marks x m)) ≡ label_of (Some x)
top_label (Leaf p v) m = refl
top_label (Node op n elided ts) m = refl

label_same : (x : Term) (m : Marks) (v : Place) → label_of (sub (with_marks x m) v) ≡ label_of (sub x v)
label_same x m [] = top_label x m
label_same x m (k ∷ w) = ap label_of (sub_same x m k w)

places_same : (x : Term) (m : Marks) (w : Place) → places_from w (with_marks x m) ≡ places_from w x
places_same (Leaf p v) m w = refl
places_same (Node op n elided ts) m w = refl

-- a child with the same places
among_same : (ts : Terms) (j : ℕ) (x s : Term) → slice_get (terms_of ts) j ≡ Some x → ((w : Place) → places_from w s ≡ places_from w x) → (w : Place) (k : ℕ) → places_among w k (with_kid ts j s) ≡ places_among w k ts
among_same NoTerm j x s at same w k = absurd (none-some x at)
among_same (AndTerm t ts) zero x s at same w k = ap (λ l. l ++ places_among w (suc k) ts) (same (k ∷ w) ∙ ap (places_from (k ∷ w)) (sym (same_Some t x at)))
among_same (AndTerm t ts) (suc j) x s at same w k = ap (λ l. places_from (k ∷ w) t ++ l) (among_same ts j x s at same w (suc k))

kid_same : (n : Term) (j : ℕ) (x s : Term) → child j n ≡ Some x → ((w : Place) → places_from w s ≡ places_from w x) → (w : Place) → places_from w (with_child n j s) ≡ places_from w n
kid_same (Leaf p v) j x s at same w = refl
kid_same (Node op n elided ts) j x s at same w = ap (λ l. w ∷ l) (among_same ts j x s at same w 0)

put_places : (t : Term) (u : Place) (x s : Term) → sub t u ≡ Some x → ((w : Place) → places_from w s ≡ places_from w x) → (w : Place) → places_from w (put t u s) ≡ places_from w t
put_places t [] x s at same w = same w ∙ ap (places_from w) (sym (same_Some t x at))
put_places t (k ∷ u) x s at same w = by (sub t u) refl at (put_places t u)
  where
    by : (o : Option Term) → sub t u ≡ o → option_and_then (child k) o ≡ Some x
        → ((y r : Term) → sub t u ≡ Some y → ((w : Place) → places_from w r ≡ places_from w y) → (w : Place) → places_from w (put t u r) ≡ places_from w t)
        → places_from w (elim o [ None ↦ t | Some n ↦ put t u (with_child n k s) ]) ≡ places_from w t
    by None e at again = refl
    by (Some n) e at again = again n (with_child n k s) e (kid_same n k x s at same) w

-- instances by a net and places
abbrev instances_by : Rules → Net Place → List Place → List (Reference Place)
instances_by rules net places = filter (λ a. is_some (site_of rules net a)) (flat_map (λ u. map (λ slot. let r : Reference Place = record { node = u; slot = slot } in r) (below (slots_of rules (net.label u)))) places)

module _ (t : Term) (u : Place) (x : Term) (m : Marks) (at : sub t u ≡ Some x) where
  abbrev then : Term
  then = put t u (with_marks x m)

  labels : (w : Place) → label_of (sub then w) ≡ label_of (sub t w)
  labels w = elim (below_or_not w u) [
    | inl b ↦
        ap (λ z. label_of (sub then z)) b.is ∙ ap label_of (sub_put_inside t u b.below x (with_marks x m) at) ∙ label_same x m b.below
        ∙ ap label_of (sym (sub_below t u b.below x at)) ∙ ap (λ z. label_of (sub t z)) (sym b.is)
    | inr out ↦ label_outside t u (with_marks x m) w out
  ]

  net_same : net_of then ≡ net_of t
  net_same = λ i. record { label = λ w. labels w i; kid = λ u k. k ∷ u; up = above }

  marked_is : marked t u m ≡ then
  marked_is = ap (λ z. put t u (with_marks z m)) (part_is t u x at)

  pub value_marked : (spec : Spec) (a : Reference Place) → value_in spec (marked t u m) a ≡ value_in spec t a
  value_marked spec a =
      ap (λ z. value_in spec z a) marked_is
      ∙ ap (λ net. scratch spec net (length (instances_by (rules_of spec) net (places_in then))) a) net_same
      ∙ ap (λ ps. scratch spec (net_of t) (length (instances_by (rules_of spec) (net_of t) ps)) a) (put_places t u x (with_marks x m) at (places_same x m) [])

  pub net_marked : net_of (marked t u m) ≡ net_of t
  net_marked = ap net_of marked_is ∙ net_same

  nodes_same : (x : Term) → nodes_of (with_marks x m) ≡ nodes_of x
  nodes_same (Leaf p v) = refl
  nodes_same (Node op n elided ts) = refl

  heights_same : (x : Term) → height_of (with_marks x m) ≡ height_of x
  heights_same (Leaf p v) = refl
  heights_same (Node op n elided ts) = refl

  pub nodes_marked : nodes_of (marked t u m) ≡ nodes_of t
  nodes_marked = (let e = nodes_put t u x (with_marks x m) at in let same = nodes_same x in let is = ap nodes_of marked_is in omega (arith, e, same, is))

  pub small_marked : IsSmall t → IsSmall (marked t u m)
  small_marked small =
      let nodes = nodes_marked in
      let one = height_put t u x (with_marks x m) at in
      let two = height_put t u x x at in
      let back = ap height_of (put_sub t u x at) in
      let same = heights_same x in
      let is = ap height_of marked_is in
      let wide = small.0 in
      let deep = small.1 in
      (omega (arith, nodes, wide), omega (arith, one, two, back, same, is, deep))
