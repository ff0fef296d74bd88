-- What the place of a node tells of its label, of what stands beside it, and of its visits.
use Rattle.std.specs.Prelude.{◌≡◌, refl, ℕ, zero, suc, ◌+◌, ◌<◌, ◌≤◌, ◌∷◌, Option, Some, None, slice_get, option_map, option_and_then, unwrap_or, MatchOption}
use Rattle.std.proofs.Common.{sym, ap, ◌∙◌, subst, arith}
use Rattle.std.proofs.lemmas.Option.{none-some, same_Some}
use Rattle.sg_kinds.specs.Values.{Value}
use Rattle.sg_kinds.specs.Evaluation.{untyped}
use Rattle.sg_kinds.specs.Terms.{Term, Leaf, Node}
use Rattle.sg_kinds.specs.Places.{Place, sub}
use Rattle.sg_kinds.specs.Nets as nets
use Rattle.sg_kinds.specs.Nets.{Operation, Holding, label_of, net_of}
use Rattle.sg_orders.specs.Keys.{operation, operator_in}
use Rattle.sg_kinds.specs.Instances.{attr_count}
use Rattle.sg_kinds.specs.Dependencies.{phylum_there}
use Rattle.sg_kinds.specs.Specification.{args_of, phylum_of, rules_of}
use Rattle.sg_kinds.specs.ValidPlans.{AreValid}
use Rattle.sg_kinds.specs.Visits.{visit_count}
use Rattle.sg_kinds.specs.declared.plans.Plans.{Plans}
use Rattle.sg_kinds.specs.declared.plans.PlanStep.{PlanStep}
use Rattle.sg_kinds.specs.declared.spec.Occurrence.{Occurrence}
use Rattle.sg_pool.specs.Pools.{value_at}
use Rattle.sg_forest.specs.declared.node_id.NodeId.{NodeId}
use Rattle.sg_forest.specs.Node as forest
use Rattle.sg_forest.specs.Trees.{IsLive, IsRoot, IsChild, Climbs}
use Rattle.sg_forest.specs.Tree as tree
use Rattle.sg_groves.specs.declared.kind.Kind.{Kind}
use Rattle.sg_groves.specs.declared.part.Part.{Part}
use Rattle.sg_groves.specs.Grove.{Grove, nodes, IsLeaf, IsOperation, IsGrove}
use Rattle.sg_groves.specs.Stored.{kept, value_there}
use Rattle.sg_groves.specs.Holds.{term_of, terms_under, Holds, IsPlaced}
use Rattle.sg_groves.proofs.Held.{held_fits, part_held, node_held}
use Rattle.sg_groves.proofs.Ways.{one_node}
use Rattle.sg_dependencies.specs.Vertices.{IsVertex, locals_there}
use Rattle.sg_plans.specs.Planned.{IsPlanned}
use Rattle.sg_plans.specs.Segments.{IsNodeAt, HasVisit}
use Rattle.sg_plans.specs.Stepping.{steps_of}
use Rattle.sg_plans.proofs.Nodes.{node_label, node_at}
use Rattle.sg_terms.specs.Found.{op_at}
use Rattle.sg_terms.specs.Occurrences.{node_there, value_for}
use Rattle.sg_attrib.specs.Visited.{IsVisited, IsStepAt}

-- the label of a term that a node holds
top_label : (g : Grove) (n : NodeId) (op : ℕ) (s : tree.Tree Kind Part) → tree.Stands (nodes g) n s → op_at g n ≡ Some op → label_of (Some (term_of g.pool s)) ≡ Operation op
top_label g n op (tree.node kind part ts) stands is =
    let shows = stands.1 in
    by kind.op (ap (λ (l : Kind). l.op) (sym shows.has_label) ∙ sym (ap (option_and_then (λ (x : forest.Node Kind Part). x.label.op)) shows.found) ∙ is)
  where
    by : (o : Option ℕ) → o ≡ Some op → label_of (Some (elim o [ None ↦ Leaf kind.phylum (kept g.pool part 0) | Some p ↦ Node p part.scheme part.elided (terms_under g.pool ts) ])) ≡ Operation op
    by None e = absurd (none-some op e)
    by (Some p) e = ap (λ q. Operation q) (same_Some p op e)

pub not_held : (op p : ℕ) (v : Value) → Holding p v ≡ Operation op → ⊥
not_held op p v e = cc

label_top : (g : Grove) (n : NodeId) (op : ℕ) (s : tree.Tree Kind Part) → tree.Stands (nodes g) n s → label_of (Some (term_of g.pool s)) ≡ Operation op → op_at g n ≡ Some op
label_top g n op (tree.node kind part ts) stands label =
    let shows = stands.1 in
    ap (option_and_then (λ (x : forest.Node Kind Part). x.label.op)) shows.found ∙ ap (λ (l : Kind). l.op) shows.has_label ∙ by kind.op label
  where
    by : (o : Option ℕ) → label_of (Some (elim o [ None ↦ Leaf kind.phylum (kept g.pool part 0) | Some p ↦ Node p part.scheme part.elided (terms_under g.pool ts) ])) ≡ Operation op → o ≡ Some op
    by None e = absurd (not_held op kind.phylum (kept g.pool part 0) e)
    by (Some p) e = ap (λ q. Some q) (ap operation e)

held_value : (g : Grove) (n : NodeId) (p : ℕ) (v : Value) (s : tree.Tree Kind Part) → tree.Stands (nodes g) n s → label_of (Some (term_of g.pool s)) ≡ Holding p v → value_there g n 0 ≡ v
held_value g n p v (tree.node kind part ts) stands label =
    let shows = stands.1 in
    ap (λ o. unwrap_or (option_map (value_at g.pool) (option_and_then (λ (x : forest.Node Kind Part). slice_get x.part.values 0) o)) untyped) shows.found
    ∙ ap (λ (q : Part). kept g.pool q 0) shows.has_part ∙ by kind.op label
  where
    by : (o : Option ℕ) → label_of (Some (elim o [ None ↦ Leaf kind.phylum (kept g.pool part 0) | Some q ↦ Node q part.scheme part.elided (terms_under g.pool ts) ])) ≡ Holding p v → kept g.pool part 0 ≡ v
    by None e = cc
    by (Some q) e = absurd (not_held q p v (sym e))

-- what an operator's node is
pub operation_is : (g : Grove) (is : IsGrove g) (n : NodeId) (x : forest.Node Kind Part) (op : ℕ) → nodes g n ≡ Some x → op_at g n ≡ Some op → IsOperation g x op
operation_is g is n x op found at = by x.label.op (sym (ap (option_and_then (λ (y : forest.Node Kind Part). y.label.op)) found) ∙ at) (is.each n x found)
  where
    by : (o : Option ℕ) → o ≡ Some op → MatchOption o (IsLeaf g x) (IsOperation g x) → IsOperation g x op
    by None e node = absurd (none-some op e)
    by (Some p) e node = subst (IsOperation g x) (same_Some p op e) node

module _ (g : Grove) (is : IsGrove g) where
  pub op_live : (n : NodeId) (op : ℕ) → op_at g n ≡ Some op → IsLive (nodes g) n
  op_live n op at = by (nodes g n) refl at
    where
      by : (o : Option (forest.Node Kind Part)) → nodes g n ≡ o → option_and_then (λ x. x.label.op) o ≡ Some op → IsLive (nodes g) n
      by None found e = absurd (none-some op e)
      by (Some x) found e = record { node = x; found = found }

  module _ (n root : NodeId) (t : Term) (u : Place) (placed : IsPlaced g root t u n) where
    abbrev part : (s : Term) × Holds g n s × (sub t u ≡ Some s)
    part = part_held g is u n root t placed.way placed.holds

    top_is : label_of (Some (term_of g.pool part.1.tree)) ≡ label_of (sub t u)
    top_is = ap (λ s. label_of (Some s)) part.1.term ∙ ap label_of (sym part.2)

    pub op_label : (op : ℕ) → op_at g n ≡ Some op → label_of (sub t u) ≡ Operation op
    op_label op at = sym top_is ∙ top_label g n op part.1.tree part.1.stands at

    pub op_in : (op : ℕ) → op_at g n ≡ Some op → operator_in t u ≡ op
    op_in op at = ap operation (op_label op at)

    pub op_node : (op : ℕ) → op_at g n ≡ Some op → IsNodeAt t u
    op_node op at = node_label t u op (op_label op at)

    pub label_op : (op : ℕ) → label_of (sub t u) ≡ Operation op → op_at g n ≡ Some op
    label_op op label = label_top g n op part.1.tree part.1.stands (top_is ∙ label)

    pub leaf_value_there : (p : ℕ) (v : Value) → label_of (sub t u) ≡ Holding p v → value_there g n 0 ≡ v
    leaf_value_there p v label = held_value g n p v part.1.tree part.1.stands (top_is ∙ label)

  -- the plans can attribute what a root holds
  pub planned : (plans : Plans) → AreValid (rules_of g.spec) plans → (root : NodeId) (t : Term) → IsRoot (nodes g) root → Holds g root t → IsPlanned g.spec plans t
  planned plans valid root t top holds = record { sound = is.sound; valid = valid; root = top.node.label.phylum; fits = held_fits g is root top.node t top.found holds }

  -- visits of nodes and of their places
  pub has_visit : (plans : Plans) (n root : NodeId) (k : ℕ) (t : Term) (u : Place) → IsPlaced g root t u n → IsVisited plans g n k → HasVisit (rules_of g.spec) plans t u k
  has_visit plans n root k t u placed v =
      let live = op_live n v.op v.is in
      let operation = operation_is g is n live.node v.op live.found v.is in
      record {
        node = op_node n root t u placed v.op v.is;
        phylum = live.node.label.phylum;
        left = ap (phylum_of g.spec.ops) (op_in n root t u placed v.op v.is) ∙ operation.phylum;
        low = v.low;
        high = v.high live.node live.found;
      }

  pub is_visited : (plans : Plans) (n root : NodeId) (k : ℕ) (t : Term) (u : Place) → IsPlaced g root t u n → HasVisit (rules_of g.spec) plans t u k → IsVisited plans g n k
  is_visited plans n root k t u placed has =
      let at = label_op n root t u placed (operator_in t u) has.node in
      record {
        op = operator_in t u;
        is = at;
        low = has.low;
        high = λ x found.
            let operation = operation_is g is n x (operator_in t u) found at in
            subst (λ X. k ≤ visit_count plans X) (same_Some has.phylum x.label.phylum (sym has.left ∙ operation.phylum)) has.high;
      }

  pub step_at : (plans : Plans) (n root : NodeId) (t : Term) (u : Place) (s : PlanStep) → IsPlaced g root t u n → (st : IsStepAt plans g n s) → slice_get (steps_of plans (operator_in t u) st.visit) st.place ≡ Some s
  step_at plans n root t u s placed st = ap (λ op. slice_get (steps_of plans op st.visit) st.place) (op_in n root t u placed st.visited.op st.visited.is) ∙ st.at

  -- the node at an occurrence of a node's operator
  pub record StandsThere (n root : NodeId) (t : Term) (u : Place) (at : ℕ) : Type 0 where
    pub node : NodeId
    pub there : node_there g.trees n at ≡ Some node
    pub climbs : Climbs (nodes g) (nets.node_there (net_of t) u at) node root

  no_attrs : (n : ℕ) → n < 0 + 0 → ⊥
  no_attrs n low = omega (arith, low)

  pub stands_there : (plans : Plans) (n root : NodeId) (t : Term) (u : Place) (op : ℕ) (o : Occurrence) → IsPlanned g.spec plans t → IsPlaced g root t u n → op_at g n ≡ Some op → IsVertex (rules_of g.spec) op o → StandsThere n root t u o.at
  stands_there plans n root t u op o plan placed at vertex = by o.at vertex
    where
      kid : (k X : ℕ) → slice_get (args_of g.spec.ops op) k ≡ Some X → StandsThere n root t u (suc k)
      kid k X arg =
          let node = node_at g.spec t plan.root plan.fits u (op_node n root t u placed op at) in
          let below = node.kid k X (ap (λ p. slice_get (args_of g.spec.ops p) k) (op_in n root t u placed op at) ∙ arg) in
          let found = node_held g is (k ∷ u) root t below.0 placed.holds below.1 in
          let climbs = found.1 in
          let same : climbs.0 ≡ n = one_node g is u climbs.0 n root climbs.2 placed.way in
          let lists = is.forest.linked.upward n k found.0 (subst (λ p. IsChild (nodes g) found.0 p k) same climbs.1) in
          record { node = found.0; there = ap (option_and_then (λ (x : forest.Node Kind Part). slice_get x.kids k)) lists.found ∙ lists.lists; climbs = climbs }

      kid_by : (k : ℕ) (a : Option ℕ) → slice_get (args_of g.spec.ops op) k ≡ a → o.slot < attr_count (rules_of g.spec) a + 0 → StandsThere n root t u (suc k)
      kid_by k None arg low = absurd (no_attrs o.slot low)
      kid_by k (Some X) arg low = kid k X arg

      by : (k : ℕ) → o.slot < attr_count (rules_of g.spec) (phylum_there g.spec.ops op k) + locals_there (rules_of g.spec) op k → StandsThere n root t u k
      by zero low = record { node = n; there = refl; climbs = placed.way }
      by (suc k) low = kid_by k (slice_get (args_of g.spec.ops op) k) refl low

  pub value_is : (n m : NodeId) (o : Occurrence) → node_there g.trees n o.at ≡ Some m → value_for g n o ≡ value_there g m o.slot
  value_is n m o there = ap (λ x. unwrap_or (option_map (value_at g.pool) (option_and_then (λ y. option_and_then (λ (z : forest.Node Kind Part). slice_get z.part.values o.slot) (nodes g y)) x)) untyped) there
