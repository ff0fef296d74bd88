-- The value of a leaf that an equation names.
use Rattle.std.specs.Prelude.{◌≡◌, refl, ℕ, zero, suc, ◌+◌, ◌<◌, true, false, List, [], ◌∷◌, length, Option, Some, None, slice_get, option_map, unwrap_or}
use Rattle.std.proofs.Common.{sym, ap, ◌∙◌, arith}
use Rattle.std.proofs.lemmas.Bool.{false≢true}
use Rattle.sg_kinds.specs.Values.{Value}
use Rattle.sg_kinds.specs.Terms.{Term, Leaf, Node}
use Rattle.sg_kinds.specs.Fits.{Fits}
use Rattle.sg_kinds.specs.Sound.{HasShapes, IsShaped, IsValue}
use Rattle.sg_kinds.specs.Places.{Place, sub}
use Rattle.sg_kinds.specs.Nets as nets
use Rattle.sg_kinds.specs.Nets.{Holding, label_of, net_of, referred}
use Rattle.sg_kinds.specs.Instances.{attr_count}
use Rattle.sg_kinds.specs.Dependencies.{phylum_there}
use Rattle.sg_kinds.specs.Specification.{args_of, has_shape, is_leaf_shape, rules_of}
use Rattle.sg_kinds.specs.declared.marks.Shape.{Shape}
use Rattle.sg_kinds.specs.declared.marks.Shape.TheVariants.{Truths, Numbers, Texts, Lexemes, Ordinary, Optional, Listed, OptionalListed}
use Rattle.sg_kinds.specs.declared.plans.Plans.{Plans}
use Rattle.sg_kinds.specs.declared.spec.Attr.{Attr}
use Rattle.sg_kinds.specs.declared.spec.Occurrence.{Occurrence}
use Rattle.sg_kinds.specs.declared.spec.Phylum.{Phylum}
use Rattle.sg_kinds.specs.declared.spec.Spec.{Spec}
use Rattle.sg_forest.specs.declared.node_id.NodeId.{NodeId}
use Rattle.sg_forest.specs.Trees.{Climbs}
use Rattle.sg_groves.specs.Grove.{Grove, nodes, IsGrove}
use Rattle.sg_groves.specs.Stored.{value_there}
use Rattle.sg_groves.specs.Holds.{IsPlaced}
use Rattle.sg_groves.specs.IsRight.{IsRightAt}
use Rattle.sg_dependencies.specs.Vertices.{IsVertex, locals_there}
use Rattle.sg_plans.specs.Planned.{IsPlanned}
use Rattle.sg_plans.specs.Segments.{IsLeafSlot}
use Rattle.sg_plans.proofs.Nodes.{leaf_fits, node_at}
use Rattle.sg_plans.proofs.Solved.{leaf_value}
use Rattle.sg_terms.specs.Found.{op_at}
use Rattle.sg_attrib.proofs.Nodes.{not_held, op_label, op_in, op_node, leaf_value_there}

-- a leaf's phylum has one attribute
one_value : (X : ℕ) (attrs : List Attr) → IsValue X attrs → length attrs ≡ 1
one_value X [] is = absurd is
one_value X (a ∷ []) is = refl
one_value X (a ∷ b ∷ rest) is = absurd is

shaped_value : (spec : Spec) (X : ℕ) (x : Phylum) (s : Shape) → is_leaf_shape s ≡ true → IsShaped spec X x s → length x.attrs ≡ 1
shaped_value spec X x Truths is shaped = one_value X x.attrs shaped.1
shaped_value spec X x Numbers is shaped = one_value X x.attrs shaped.1
shaped_value spec X x Texts is shaped = one_value X x.attrs shaped.1
shaped_value spec X x (Lexemes l) is shaped = one_value X x.attrs shaped.1
shaped_value spec X x Ordinary is shaped = absurd (false≢true is)
shaped_value spec X x Optional is shaped = absurd (false≢true is)
shaped_value spec X x Listed is shaped = absurd (false≢true is)
shaped_value spec X x OptionalListed is shaped = absurd (false≢true is)

one_attr : (spec : Spec) → HasShapes spec → (X : ℕ) → has_shape spec.phyla is_leaf_shape X ≡ true → attr_count (rules_of spec) (Some X) ≡ 1
one_attr spec shapes X is = by (slice_get spec.phyla X) refl is
  where
    by : (o : Option Phylum) → slice_get spec.phyla X ≡ o → unwrap_or (option_map (λ (x : Phylum). is_leaf_shape x.shape) o) false ≡ true → attr_count (rules_of spec) (Some X) ≡ 1
    by None at h = absurd (false≢true h)
    by (Some x) at h = ap (λ o. length (unwrap_or (option_map (λ (y : Phylum). y.attrs) o) [])) at ∙ shaped_value spec X x x.shape h (shapes.phyla X x at).shape

module _ (g : Grove) (is : IsGrove g) (plans : Plans) (n root : NodeId) (t : Term) (u : Place) (op : ℕ) (o : Occurrence) (plan : IsPlanned g.spec plans t) (placed : IsPlaced g root t u n) (at : op_at g n ≡ Some op) (vertex : IsVertex (rules_of g.spec) op o) where
  -- a leaf has one slot
  first_slot : (p : ℕ) (v : Value) → label_of (sub t (nets.node_there (net_of t) u o.at)) ≡ Holding p v → o.slot ≡ 0
  first_slot p v label = by o.at vertex label
    where
      below : (s : Term) (X : ℕ) → Fits g.spec s X → label_of (Some s) ≡ Holding p v → o.slot < attr_count (rules_of g.spec) (Some X) + 0 → o.slot ≡ 0
      below (Leaf q w) X fit held low = let one = one_attr g.spec is.sound.shapes X (leaf_fits g.spec q w X fit) in omega (arith, one, low)
      below (Node q scheme elided ts) X fit held low = absurd (not_held q p v (sym held))

      kid : (k : ℕ) (a : Option ℕ) → slice_get (args_of g.spec.ops op) k ≡ a → o.slot < attr_count (rules_of g.spec) a + 0 → label_of (sub t (k ∷ u)) ≡ Holding p v → o.slot ≡ 0
      kid k None arg low held = absurd (omega (arith, low))
      kid k (Some X) arg low held =
          let node = node_at g.spec t plan.root plan.fits u (op_node g is n root t u placed op at) in
          let s = node.kid k X (ap (λ q. slice_get (args_of g.spec.ops q) k) (op_in g is n root t u placed op at) ∙ arg) in
          below s.0 X s.2 (ap label_of (sym s.1) ∙ held) low

      by : (k : ℕ) → o.slot < attr_count (rules_of g.spec) (phylum_there g.spec.ops op k) + locals_there (rules_of g.spec) op k → label_of (sub t (nets.node_there (net_of t) u k)) ≡ Holding p v → o.slot ≡ 0
      by zero low held = absurd (not_held op p v (sym held ∙ op_label g is n root t u placed op at))
      by (suc k) low held = kid k (slice_get (args_of g.spec.ops op) k) refl low held

  pub leaf_right : (m : NodeId) → Climbs (nodes g) (nets.node_there (net_of t) u o.at) m root → IsLeafSlot t (referred (net_of t) u o) → IsRightAt g t (nets.node_there (net_of t) u o.at) m o.slot
  leaf_right m climbs leaf =
      ap (value_there g m) (first_slot leaf.phylum leaf.value leaf.label)
      ∙ leaf_value_there g is m root t (nets.node_there (net_of t) u o.at) (record { top = placed.top; holds = placed.holds; way = climbs }) leaf.phylum leaf.value leaf.label
      ∙ sym (leaf_value g.spec plans t plan (referred (net_of t) u o) leaf.phylum leaf.value leaf.label)
