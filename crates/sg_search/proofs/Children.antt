-- The terms at a node's children.
use Rattle.std.specs.Prelude.{◌≡◌, ◌∷◌, ℕ, ◌≤◌, length, take, Some, None, slice_get, option_and_then}
use Rattle.std.proofs.Common.{sym, ap, ◌∙◌, subst, arith}
use Rattle.std.proofs.lemmas.List.{take_all}
use Rattle.std.proofs.lemmas.Option.{same_Some}
use Rattle.sg_kinds.specs.Places.{Place, child, sub}
use Rattle.sg_kinds.specs.Specification.{args_of}
use Rattle.sg_kinds.specs.Terms.{Term, Node, kids_of}
use Rattle.sg_forest.specs.declared.node_id.NodeId.{NodeId}
use Rattle.sg_forest.specs.Trees.{Climbs, IsChild, IsLive}
use Rattle.sg_groves.specs.Grove.{Grove, nodes, IsGrove}
use Rattle.sg_groves.specs.Holds.{Holds}
use Rattle.sg_groves.proofs.Held.{part_held}
use Rattle.sg_terms.specs.Found.{op_at}
use Rattle.sg_terms.specs.Labels.{elided_of, scheme_of}
use Rattle.sg_build.proofs.Told.{kids_in, leaf_term, opened, the_term, told_only}
use Rattle.sg_select.specs.Around.{kids}
use Rattle.sg_select.proofs.Around.{child_is}
use Rattle.sg_select.proofs.Leading.{child_live, held, kid_there, kids_same}

module _ (g : Grove) (is : IsGrove g) (n : NodeId) where
  -- a node at a place below another holds the subterm there
  pub holds_there : (root : NodeId) (t x : Term) (u : Place) → Holds g root t → Climbs (nodes g) u n root → sub t u ≡ Some x → Holds g n x
  holds_there root t x u holds way at =
      let part = part_held g is u n root t way holds in
      subst (Holds g n) (same_Some part.0 x (sym part.2 ∙ at)) part.1

  -- its child holds the child of the subterm
  pub kid_at : (kid : NodeId) (k : ℕ) (x : Term) → IsLive (nodes g) n → IsChild (nodes g) kid n k → Holds g n x → slice_get (kids x) k ≡ Some (the_term g kid)
  kid_at kid k x live hangs holds = kid_there g is n kid k x (the_term g kid) live hangs holds (held g is kid (child_live g is kid n k hangs))

  pub kid_sub : (t x y : Term) (u : Place) (k : ℕ) → sub t u ≡ Some x → slice_get (kids x) k ≡ Some y → sub t (k ∷ u) ≡ Some y
  kid_sub t x y u k at kid = ap (option_and_then (child k)) at ∙ child_is k x ∙ kid

  -- all children, and none
  pub all_kids : (op k : ℕ) (x : Term) → op_at g n ≡ Some op → Holds g n x → length (args_of g.spec.ops op) ≤ k → take k (kids x) ≡ kids x
  all_kids op k x at holds past =
      let count = (opened g is n op at).count in
      let same : length (kids x) ≡ length (kids_in (the_term g n)) = ap length (kids_same x) ∙ ap (λ z. length (kids_in z)) (told_only g is n x holds) in
      take_all k (kids x) (omega (arith, count, same, past))

  pub no_kids : (x : Term) → IsLive (nodes g) n → op_at g n ≡ None → Holds g n x → take 0 (kids x) ≡ kids x
  no_kids x live at holds = let leaf = leaf_term g is n live at x holds in ap (λ z. take 0 (kids z)) leaf.2 ∙ ap kids (sym leaf.2)

  -- a node of an operator over its children
  pub over_kids : (op : ℕ) (x : Term) → op_at g n ≡ Some op → Holds g n x → x ≡ Node op (scheme_of x) (elided_of x) (kids_of (kids x))
  over_kids op x at holds =
      let same = told_only g is n x holds in
      same ∙ (opened g is n op at).node
      ∙ (λ i. Node op (scheme_of (sym same i)) (elided_of (sym same i)) (kids_of (sym (kids_same (sym same i)) i)))
