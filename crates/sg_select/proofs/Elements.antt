-- Elements of lists.
use Rattle.std.specs.Prelude.{◌≡◌, refl, ℕ, zero, suc, ◌<◌, Bool, true, false, ◌&&◌, cond, nat_eq, ◌∷◌, length, Option, Some, None, slice_get, option_map, unwrap_or}
use Rattle.std.proofs.Common.{sym, ap, ◌∙◌, arith}
use Rattle.std.proofs.lemmas.Bool.{false≢true}
use Rattle.std.proofs.lemmas.Option.{none-some, same_Some}
use Rattle.sg_kinds.proofs.Elementary.{eq_is}
use Rattle.sg_kinds.specs.Places.{Place, sub}
use Rattle.sg_kinds.specs.Sound.{is_pair}
use Rattle.sg_kinds.specs.Specification.{args_of, has_shape, is_list_shape, phylum_of}
use Rattle.sg_kinds.specs.Terms.{Term, Leaf, Node, NoTerm, AndTerm}
use Rattle.sg_kinds.specs.declared.spec.Spec.{Spec}
use Rattle.sg_forest.specs.declared.node_id.NodeId.{NodeId}
use Rattle.sg_forest.specs.Node as forest
use Rattle.sg_groves.specs.declared.kind.Kind.{Kind}
use Rattle.sg_groves.specs.declared.part.Part.{Part}
use Rattle.sg_groves.specs.Grove.{Grove, nodes, IsGrove}
use Rattle.sg_groves.specs.Holds.{Holds}
use Rattle.sg_terms.specs.Found.{op_at}
use Rattle.sg_terms.specs.Labels as labels
use Rattle.sg_build.proofs.Told.{leaf_told, opened, told_only}
use Rattle.sg_select.specs.Around.{kids}
use Rattle.sg_select.specs.Paths.{elements, is_list_node, spine_from}

module _ (spec : Spec) where
  pub list_is : (t : Term) (op : ℕ) → labels.op_of t ≡ Some op → is_pair spec op ≡ is_list_node spec t
  list_is (Leaf p v) op at = absurd (none-some op at)
  list_is (Node o n elided ts) op at = ap (is_pair spec) (sym (same_Some o op at))

  pub list_not : (t : Term) → labels.op_of t ≡ None → false ≡ is_list_node spec t
  list_not (Leaf p v) at = refl
  list_not (Node o n elided ts) at = absurd (none-some o (sym at))

  pub pair_long : (op : ℕ) → is_pair spec op ≡ true → length (args_of spec.ops op) ≡ 2
  pair_long op is = by (phylum_of spec.ops op) is
    where
      by : (o : Option ℕ) → unwrap_or (option_map (λ p. has_shape spec.phyla is_list_shape p && nat_eq (length (args_of spec.ops op)) 2) o) false ≡ true → length (args_of spec.ops op) ≡ 2
      by None is = absurd (false≢true is)
      by (Some p) is = eq_is (length (args_of spec.ops op)) 2 (second (has_shape spec.phyla is_list_shape p) (nat_eq (length (args_of spec.ops op)) 2) is)
        where
          second : (a b : Bool) → (a && b) ≡ true → b ≡ true
          second true b h = h
          second false b h = absurd (false≢true h)

  pub elements_none : (t : Term) → is_list_node spec t ≡ false → elements spec t ≡ 0
  elements_none (Leaf p v) is = refl
  elements_none (Node op n elided NoTerm) is = refl
  elements_none (Node op n elided (AndTerm x NoTerm)) is = refl
  elements_none (Node op n elided (AndTerm x (AndTerm y ts))) is = ap (λ b. cond b (suc (elements spec y)) 0) is

  pub elements_more : (t y : Term) → is_list_node spec t ≡ true → slice_get (kids t) 1 ≡ Some y → elements spec t ≡ suc (elements spec y)
  elements_more (Leaf p v) y is at = absurd (none-some y at)
  elements_more (Node op n elided NoTerm) y is at = absurd (none-some y at)
  elements_more (Node op n elided (AndTerm x NoTerm)) y is at = absurd (none-some y at)
  elements_more (Node op n elided (AndTerm x (AndTerm z ts))) y is at = ap (λ b. cond b (suc (elements spec z)) 0) is ∙ ap (λ w. suc (elements spec w)) (same_Some z y at)

  pub spine_there : (t x : Term) (u : Place) → sub t u ≡ Some x → is_list_node spec x ≡ true → spine_from spec t (zero ∷ u) ≡ Some u
  spine_there t x u at is = ap (λ o. cond (unwrap_or (option_map (is_list_node spec) o) false) (Some u) None) at ∙ ap (λ b. cond b (Some u) None) is

  pub spine_other : (t x : Term) (u : Place) (k : ℕ) → sub t u ≡ Some x → is_list_node spec x ≡ false → spine_from spec t (k ∷ u) ≡ None
  spine_other t x u zero at is = ap (λ o. cond (unwrap_or (option_map (is_list_node spec) o) false) (Some u) None) at ∙ ap (λ b. cond b (Some u) None) is
  spine_other t x u (suc k) at is = refl

  pub spine_later : (t : Term) (u : Place) (k : ℕ) → (k ≡ 0 → ⊥) → spine_from spec t (k ∷ u) ≡ None
  spine_later t u zero other = absurd (other refl)
  spine_later t u (suc k) other = refl

-- a list node has two children
pub list_wide : (g : Grove) → IsGrove g → (n : NodeId) (t : Term) → Holds g n t → is_list_node g.spec t ≡ true → (x : forest.Node Kind Part) → nodes g n ≡ Some x → 1 < x.label.arity
list_wide g is n t h list x found = by (op_at g n) refl
  where
    by : (o : Option ℕ) → op_at g n ≡ o → 1 < x.label.arity
    by None at =
        let seen : labels.op_of t ≡ None = ap labels.op_of (told_only g is n t h) ∙ leaf_told g is n (record { node = x; found = found }) at in
        absurd (false≢true (list_not g.spec t seen ∙ list))
    by (Some op) at =
        let over = opened g is n op at in
        let arity = over.arity x found in
        let seen : labels.op_of t ≡ Some op = ap labels.op_of (told_only g is n t h ∙ over.node) in
        let two = pair_long g.spec op (list_is g.spec t op seen ∙ list) in
        omega (arith, arity, two)
