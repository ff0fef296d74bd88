-- Elements of lists, and what is selected where one went.
use Rattle.std.specs.Prelude.{◌≡◌, refl, ℕ, zero, suc, Bool, true, false, not, ◌&&◌, cond, ◌∷◌, Option, Some, None, slice_get, option_map, unwrap_or, is_some}
use Rattle.std.specs.Option.{option_map_or}
use Rattle.std.proofs.Common.{sym, ap, ◌∙◌}
use Rattle.std.proofs.lemmas.Option.{none-some, same_Some}
use Rattle.sg_kinds.specs.Places.{Place, sub}
use Rattle.sg_kinds.specs.Specification.{args_of}
use Rattle.sg_kinds.specs.Terms.{Term, Leaf, Node, NoTerm, AndTerm}
use Rattle.sg_kinds.specs.declared.spec.Spec.{Spec}
use Rattle.sg_forest.specs.declared.node_id.NodeId.{NodeId}
use Rattle.sg_forest.specs.Trees.{Climbs}
use Rattle.sg_groves.specs.Grove.{Grove, nodes}
use Rattle.sg_groves.specs.Holds.{IsPlaced}
use Rattle.sg_terms.specs.Labels as labels
use Rattle.sg_select.specs.Paths.{is_list_node}
use Rattle.sg_edits.specs.Choice.{Put, one}
use Rattle.sg_edits.specs.Edits.{elements_in, emptied, is_list_operator, is_of_list, is_never_empty, is_only, left_at, node_before, paired, rest_behind, without}

module _ (spec : Spec) where
  pub of_list_is : (count : ℕ) (t : Term) (op : ℕ) → labels.op_of t ≡ Some op → is_list_operator spec count op ≡ is_of_list spec count t
  of_list_is count (Leaf p v) op at = absurd (none-some op at)
  of_list_is count (Node o n elided ts) op at = ap (is_list_operator spec count) (sym (same_Some o op at))

  pub of_list_not : (count : ℕ) (t : Term) → labels.op_of t ≡ None → false ≡ is_of_list spec count t
  of_list_not count (Leaf p v) at = refl
  of_list_not count (Node o n elided ts) at = absurd (none-some o (sym at))

  -- a list's node is of an operator with two arguments
  pub two_is : (t : Term) → is_of_list spec 2 t ≡ is_list_node spec t
  two_is (Leaf p v) = refl
  two_is (Node o n elided ts) = refl

  pub before_there : (t x : Term) (u : Place) → sub t u ≡ Some x → is_list_node spec x ≡ true → node_before spec t (1 ∷ u) ≡ Some u
  before_there t x u at is = ap (λ o. cond (unwrap_or (option_map (is_list_node spec) o) false) (Some u) None) at ∙ ap (λ b. cond b (Some u) None) is

  pub before_other : (t x : Term) (u : Place) (k : ℕ) → sub t u ≡ Some x → is_list_node spec x ≡ false → node_before spec t (k ∷ u) ≡ None
  before_other t x u zero at is = refl
  before_other t x u (suc zero) at is = ap (λ o. cond (unwrap_or (option_map (is_list_node spec) o) false) (Some u) None) at ∙ ap (λ b. cond b (Some u) None) is
  before_other t x u (suc (suc k)) at is = refl

  pub before_later : (t : Term) (u : Place) (k : ℕ) → (k ≡ 1 → ⊥) → node_before spec t (k ∷ u) ≡ None
  before_later t u zero other = refl
  before_later t u (suc zero) other = absurd (other refl)
  before_later t u (suc (suc k)) other = refl

  -- the only element, or not
  pub only_not : (t y : Term) (u : Place) → is_list_node spec y ≡ true → false ≡ is_only spec t u y
  only_not t y u is = sym (ap (λ b. not b && not (is_some (node_before spec t u))) is)

  pub only_by : (t y : Term) (u : Place) (o : Option Place) → is_list_node spec y ≡ false → node_before spec t u ≡ o → not (is_some o) ≡ is_only spec t u y
  only_by t y u o is at = sym (ap (λ b. not b && not (is_some (node_before spec t u))) is ∙ ap (λ z. not (is_some z)) at)

  -- what is selected then
  pub left_here : (t y : Term) (u : Place) → is_list_node spec y ≡ true → 0 ∷ u ≡ left_at spec t u y
  left_here t y u is = sym (ap (λ b. cond b (0 ∷ u) (option_map_or (λ q. 0 ∷ q) (node_before spec t u) u)) is)

  pub left_by : (t y : Term) (u : Place) (o : Option Place) → is_list_node spec y ≡ false → node_before spec t u ≡ o → option_map_or (λ q. 0 ∷ q) o u ≡ left_at spec t u y
  left_by t y u o is at = sym (ap (λ b. cond b (0 ∷ u) (option_map_or (λ q. 0 ∷ q) (node_before spec t u) u)) is ∙ ap (λ z. option_map_or (λ q. 0 ∷ q) z u) at)

  -- the two answers of `remove` and `delete` at a list's node
  pub gone_all : (t x : Term) (u : Place) (deletes : Bool) (n : ℕ) → (is_only spec t u (rest_behind n x) && is_never_empty spec x) ≡ true → emptied spec t deletes u x ≡ without spec t deletes n u x
  gone_all t x u deletes n last = sym (ap (λ b. cond b (emptied spec t deletes u x) (Put u (rest_behind n x) (one (left_at spec t u (rest_behind n x))))) last)

  pub put_rest : (t x : Term) (u : Place) (deletes : Bool) (n : ℕ) → (is_only spec t u (rest_behind n x) && is_never_empty spec x) ≡ false → Put u (rest_behind n x) (one (left_at spec t u (rest_behind n x))) ≡ without spec t deletes n u x
  put_rest t x u deletes n last = sym (ap (λ b. cond b (emptied spec t deletes u x) (Put u (rest_behind n x) (one (left_at spec t u (rest_behind n x))))) last)

  -- the phylum of a list's elements, by its operator
  pub elements_is : (x : Term) (op : ℕ) → labels.op_of x ≡ Some op → unwrap_or (slice_get (args_of spec.ops op) 0) 0 ≡ elements_in spec x
  elements_is (Leaf p v) op at = absurd (none-some op at)
  elements_is (Node o n elided ts) op at = ap (λ k. unwrap_or (slice_get (args_of spec.ops k) 0) 0) (sym (same_Some o op at))

  pub elements_not : (x : Term) → labels.op_of x ≡ None → 0 ≡ elements_in spec x
  elements_not (Leaf p v) at = refl
  elements_not (Node o n elided ts) at = absurd (none-some o (sym at))

-- a list's node over others, by its operator
pub paired_node : (x a r : Term) (op : ℕ) → labels.op_of x ≡ Some op → Node op 0 false (AndTerm a (AndTerm r NoTerm)) ≡ paired x a r
paired_node (Leaf p v) a r op at = absurd (none-some op at)
paired_node (Node o n elided ts) a r op at = ap (λ k. Node k 0 false (AndTerm a (AndTerm r NoTerm))) (sym (same_Some o op at))

pub paired_leaf : (x a r : Term) → labels.op_of x ≡ None → r ≡ paired x a r
paired_leaf (Leaf p v) a r at = refl
paired_leaf (Node o n elided ts) a r at = absurd (none-some o (sym at))

-- another node of the same tree
pub moved_to : (g : Grove) (root : NodeId) (t : Term) (u v : Place) (n m : NodeId) → IsPlaced g root t u n → Climbs (nodes g) v m root → IsPlaced g root t v m
moved_to g root t u v n m placed way = record { top = placed.top; holds = placed.holds; way = way }
