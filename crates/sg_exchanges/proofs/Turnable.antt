-- What a turn makes of the marks of a held node.
use Rattle.std.specs.Prelude.{◌≡◌, ◌≢◌, refl, ℕ, ◌+◌, ◌%◌, ◌<◌, ◌≤◌, Bool, true, false, cond, nat_lt, length, Option, None, Some, All, slice_get, option_and_then, option_map, unwrap_or, MatchOption}
use Rattle.std.proofs.Common.{sym, ap, ◌∙◌, subst, arith}
use Rattle.std.proofs.lemmas.Option.{none-some}
use Rattle.sg_kinds.specs.Terms.{Term, Leaf, Node}
use Rattle.sg_kinds.specs.declared.spec.Operator.{Operator}
use Rattle.sg_kinds.specs.declared.spec.Spec.{Spec}
use Rattle.sg_kinds.proofs.Elementary.{lt_is, lt_true, slice_get-All}
use Rattle.sg_kinds.proofs.InView.{few_in_views}
use Rattle.sg_forest.specs.declared.node_id.NodeId.{NodeId}
use Rattle.sg_forest.specs.Node as forest
use Rattle.sg_forest.specs.Trees.{IsLive}
use Rattle.sg_groves.specs.declared.kind.Kind.{Kind}
use Rattle.sg_groves.specs.declared.part.Part.{Part}
use Rattle.sg_groves.specs.Grove.{Grove, nodes, spec_shown, IsGrove, IsLeaf, IsOperation}
use Rattle.sg_groves.specs.Holds.{Holds}
use Rattle.sg_groves.proofs.Held.{live_holds}
use Rattle.sg_terms.specs.Found.{op_at}
use Rattle.sg_terms.specs.Labels.{op_of, scheme_of, elided_of}
use Rattle.sg_changes.specs.Changes.{marks_of}
use Rattle.sg_changes.specs.declared.step.Marks.{Marks}
use Rattle.sg_unparse.specs.Printing.{count_of, scheme_count}
use Rattle.sg_states.specs.Turned.{marks, turned, turned_in}
use Rattle.sg_states.specs.declared.marks.Mark.{Mark}
use Rattle.sg_states.specs.declared.marks.Mark.TheVariants.{Alternate}

abbrev TheNode : Type 0
TheNode = forest.Node Kind Part

-- a node's scheme number is low
pub scheme_low : (g : Grove) → IsGrove g → (n : NodeId) (x : TheNode) (k : ℕ) → nodes g n ≡ Some x → x.label.op ≢ None → k ≡ x.part.scheme → k < 16
scheme_low g is n x k found some same = subst (λ z. z < 16) (sym same) (by x.label.op some (is.each n x found))
  where
    by : (o : Option ℕ) → o ≢ None → MatchOption o (IsLeaf g x) (IsOperation g x) → x.part.scheme < 16
    by None never node = absurd (never refl)
    by (Some op) never node = node.scheme

-- another scheme, where there is one
pub no_other : (count : ℕ) (m : Marks) → count < 2 → turned Alternate count m ≡ None
no_other count m few = by (nat_lt 1 count) refl
  where
    by : (b : Bool) → nat_lt 1 count ≡ b → cond b (Some (marks ((m.scheme + 1) % count) m.elided)) None ≡ None
    by true is = absurd (let h = lt_is 1 count is in omega (arith, h, few))
    by false is = refl

pub another : (count : ℕ) (m : Marks) → 2 ≤ count → turned Alternate count m ≡ Some (marks ((m.scheme + 1) % count) m.elided)
another count m some = ap (λ b. cond b (Some (marks ((m.scheme + 1) % count) m.elided)) None) (lt_true 1 count (omega (arith, some)))

-- at most 16 schemes
few_of : (spec : Spec) (op : ℕ) → All (λ (o : Operator). length o.schemes ≤ 16) spec.ops → count_of spec op ≤ 16
few_of spec op all = by (slice_get spec.ops op) refl
  where
    by : (o : Option Operator) → slice_get spec.ops op ≡ o → unwrap_or (option_map (λ (x : Operator). length x.schemes) o) 0 ≤ 16
    by None at = omega arith
    by (Some x) at = slice_get-All (λ (o : Operator). length o.schemes ≤ 16) spec.ops op x all at

few_in : (spec : Spec) (t : Term) → All (λ (o : Operator). length o.schemes ≤ 16) spec.ops → scheme_count spec t ≤ 16
few_in spec (Leaf p v) all = omega arith
few_in spec (Node op n elided ts) all = few_of spec op all

module _ (g : Grove) (is : IsGrove g) (n : NodeId) (live : IsLive (nodes g) n) where
  pub few_schemes : (r : ℕ) → ((t : Term) → Holds g n t → r ≡ scheme_count (spec_shown g) t) → r ≤ 16
  few_schemes r told =
      let h = live_holds g is n live in
      subst (λ k. k ≤ 16) (sym (told h.0 h.1)) (few_in (spec_shown g) h.0 (few_in_views g.spec g.view is.sound.counted))

  op_here : live.node.label.op ≡ op_at g n
  op_here = sym (ap (option_and_then (λ (x : forest.Node Kind Part). x.label.op)) live.found)

  some_op : (op : ℕ) → Some op ≡ op_at g n → live.node.label.op ≢ None
  some_op op at none = none-some op (sym none ∙ op_here ∙ sym at)

  pub low_scheme : (op k : ℕ) → Some op ≡ op_at g n → ((x : forest.Node Kind Part) → nodes g n ≡ Some x → k ≡ x.part.scheme) → k < 16
  low_scheme op k at told = scheme_low g is n live.node k live.found (some_op op at) (told live.node live.found)

pub operator_here : (g : Grove) (n : NodeId) (op : ℕ) → Some op ≡ op_at g n → (x : forest.Node Kind Part) → nodes g n ≡ Some x → x.label.op ≢ None
operator_here g n op at x found none = none-some op (sym none ∙ sym (ap (option_and_then (λ (y : forest.Node Kind Part). y.label.op)) found) ∙ sym at)

-- what the readers of the node tell of its term
pub marks_told : (t : Term) (op k : ℕ) (on : Bool) → Some op ≡ op_of t → k ≡ scheme_of t → on ≡ elided_of t → marks_of t ≡ Some (marks k on)
marks_told (Leaf p v) op k on some scheme elided = absurd (none-some op (sym some))
marks_told (Node o s e ts) op k on some scheme elided = ap (λ z. Some (marks z e)) (sym scheme) ∙ ap (λ z. Some (marks k z)) (sym elided)

pub turn_told : (spec : Spec) (mark : Mark) (t : Term) (op k count : ℕ) (on : Bool) → Some op ≡ op_of t → k ≡ scheme_of t → on ≡ elided_of t → count ≡ scheme_count spec t → turned_in spec mark t ≡ turned mark count (marks k on)
turn_told spec mark (Leaf p v) op k count on some scheme elided counted = absurd (none-some op (sym some))
turn_told spec mark (Node o s e ts) op k count on some scheme elided counted =
    ap (λ z. turned mark z (marks s e)) (sym counted) ∙ ap (λ z. turned mark count (marks z e)) (sym scheme) ∙ ap (λ z. turned mark count (marks k z)) (sym elided)

pub nothing_told : (spec : Spec) (mark : Mark) (t : Term) → None ≡ op_of t → turned_in spec mark t ≡ None
nothing_told spec mark (Leaf p v) none = refl
nothing_told spec mark (Node o s e ts) none = absurd (none-some o none)
