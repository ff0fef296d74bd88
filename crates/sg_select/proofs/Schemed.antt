-- What the current scheme of a node says, by what is told of the node.
use Rattle.std.specs.Prelude.{◌≡◌, refl, ℕ, Bool, true, false, not, ◌&&◌, nat_eq, [], length, Option, Some, None, is_some, slice_get, option_map, option_and_then, unwrap_or, MatchOption}
use Rattle.std.proofs.Common.{sym, ap, ◌∙◌, subst}
use Rattle.std.proofs.lemmas.Option.{none-some, same_Some}
use Rattle.sg_kinds.specs.Sound.{is_pair}
use Rattle.sg_kinds.specs.Terms.{Term, Leaf, Node}
use Rattle.sg_kinds.specs.declared.spec.Spec.{Spec}
use Rattle.sg_kinds.specs.declared.spec.Scheme.{Scheme}
use Rattle.sg_kinds.specs.declared.marks.ChildPlace.TheVariants.{Hidden}
use Rattle.sg_forest.specs.declared.node_id.NodeId.{NodeId}
use Rattle.sg_forest.specs.Node as forest
use Rattle.sg_forest.specs.Trees.{IsLive}
use Rattle.sg_groves.specs.declared.kind.Kind.{Kind}
use Rattle.sg_groves.specs.declared.part.Part.{Part}
use Rattle.sg_groves.specs.Grove.{Grove, nodes, IsGrove, IsLeaf, IsOperation}
use Rattle.sg_groves.specs.Holds.{Holds}
use Rattle.sg_terms.specs.Found.{op_at}
use Rattle.sg_terms.specs.Labels as labels
use Rattle.sg_unparse.specs.Printing.{current_scheme}
use Rattle.sg_unparse.specs.Unparsed.{child_places}
use Rattle.sg_build.proofs.Told.{leaf_term, the_term, told_only}
use Rattle.sg_select.specs.Around.{kids}
use Rattle.sg_select.specs.RestingPlaces.{begins_resting, child_place, is_rest}

-- the other way round
pub turned : (a b : Bool) → a ≡ not b → b ≡ not a
turned a true is = ap not (sym is)
turned a false is = ap not (sym is)

module _ (spec : Spec) (t : Term) where
  pub place_is : (k : ℕ) (s : Scheme) → current_scheme spec t ≡ Some s → unwrap_or (slice_get (child_places s.items) k) Hidden ≡ child_place spec t k
  place_is k s is = by t is
    where
      by : (x : Term) → current_scheme spec x ≡ Some s → unwrap_or (slice_get (child_places s.items) k) Hidden ≡ child_place spec x k
      by (Leaf p v) is = absurd (none-some s is)
      by (Node op n elided ts) is = ap (λ o. unwrap_or (slice_get (child_places (unwrap_or (option_map (λ (z : Scheme). z.items) o) [])) k) Hidden) (sym is)

  pub place_none : (k : ℕ) → current_scheme spec t ≡ None → Hidden ≡ child_place spec t k
  place_none k is = by t is
    where
      by : (x : Term) → current_scheme spec x ≡ None → Hidden ≡ child_place spec x k
      by (Leaf p v) is = refl
      by (Node op n elided ts) is = ap (λ o. unwrap_or (slice_get (child_places (unwrap_or (option_map (λ (z : Scheme). z.items) o) [])) k) Hidden) (sym is)

  pub begins_is : (s : Scheme) → current_scheme spec t ≡ Some s → s.rests ≡ begins_resting spec t
  begins_is s is = by t is
    where
      by : (x : Term) → current_scheme spec x ≡ Some s → s.rests ≡ begins_resting spec x
      by (Leaf p v) is = absurd (none-some s is)
      by (Node op n elided ts) is = ap (λ o. unwrap_or (option_map (λ (z : Scheme). z.rests) o) false) (sym is)

  pub begins_none : (o : Option ℕ) → current_scheme spec t ≡ None → o ≡ labels.op_of t → not (is_some o) ≡ begins_resting spec t
  begins_none o is seen = by t is seen
    where
      by : (x : Term) → current_scheme spec x ≡ None → o ≡ labels.op_of x → not (is_some o) ≡ begins_resting spec x
      by (Leaf p v) is seen = ap (λ z. not (is_some z)) seen
      by (Node op n elided ts) is seen = ap (λ z. not (is_some z)) seen ∙ ap (λ o. unwrap_or (option_map (λ (z : Scheme). z.rests) o) false) (sym is)

  pub rest_is : (op k : ℕ) → labels.op_of t ≡ Some op → nat_eq k 1 ≡ true → is_pair spec op ≡ is_rest spec t k
  rest_is op k seen one = by t seen
    where
      by : (x : Term) → labels.op_of x ≡ Some op → is_pair spec op ≡ is_rest spec x k
      by (Leaf p v) seen = absurd (none-some op seen)
      by (Node o n elided ts) seen = ap (is_pair spec) (sym (same_Some o op seen)) ∙ ap (λ b. b && is_pair spec o) (sym one)

  pub rest_not : (op k : ℕ) → labels.op_of t ≡ Some op → nat_eq k 1 ≡ false → false ≡ is_rest spec t k
  rest_not op k seen other = by t seen
    where
      by : (x : Term) → labels.op_of x ≡ Some op → false ≡ is_rest spec x k
      by (Leaf p v) seen = refl
      by (Node o n elided ts) seen = ap (λ b. b && is_pair spec o) (sym other)

  pub rest_none : (k : ℕ) → labels.op_of t ≡ None → false ≡ is_rest spec t k
  rest_none k seen = by t seen
    where
      by : (x : Term) → labels.op_of x ≡ None → false ≡ is_rest spec x k
      by (Leaf p v) seen = refl
      by (Node o n elided ts) seen = absurd (none-some o (sym seen))

module _ (g : Grove) (is : IsGrove g) (n : NodeId) where
  pub kids_counted : (op : ℕ) → op_at g n ≡ Some op → (t : Term) → Holds g n t → length (kids (the_term g n)) ≡ length (kids t)
  kids_counted op at t h = ap (λ x. length (kids x)) (sym (told_only g is n t h))

  pub leaf_kids : IsLive (nodes g) n → op_at g n ≡ None → (t : Term) → Holds g n t → 0 ≡ length (kids t)
  leaf_kids live at t h = let leaf = leaf_term g is n live at t h in ap (λ x. length (kids x)) (sym leaf.2)

  pub leaf_arity : (x : forest.Node Kind Part) → nodes g n ≡ Some x → op_at g n ≡ None → x.label.arity ≡ 0
  leaf_arity x found at =
      let none : x.label.op ≡ None = ap (option_and_then (λ (z : forest.Node Kind Part). z.label.op)) (sym found) ∙ at in
      let leaf : IsLeaf g x = subst (λ (o : Option ℕ). MatchOption o (IsLeaf g x) (IsOperation g x)) none (is.each n x found) in
      leaf.arity
