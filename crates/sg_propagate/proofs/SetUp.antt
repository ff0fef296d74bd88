-- What the exchange of two trees makes of a right tree.
use Rattle.std.specs.Prelude.{◌≡◌, ◌≢◌, ◌↔◌, ℕ, zero, suc, ◌+◌, ◌<◌, Bool, true, false, not, List, [], ◌∷◌, ◌++◌, Option, Some, None, slice_get, option_map, unwrap_or}
use Rattle.std.proofs.Common.{refl, sym, ap, ◌∙◌, subst, inl, inr, arith}
use Rattle.std.proofs.lemmas.Option.{same_Some}
use Rattle.sg_kinds.proofs.TermLaws.{sub_put_inside}
use Rattle.sg_kinds.specs.Evaluation.{untyped}
use Rattle.sg_kinds.specs.Values.{Value}
use Rattle.sg_kinds.specs.Terms.{Term, Leaf, Node}
use Rattle.sg_kinds.specs.Places.{Place, put, sub}
use Rattle.sg_kinds.specs.Nets.{Reference, Missing, label_of, net_of, phylum_at, referred}
use Rattle.sg_kinds.specs.Instances.{Site, attr_count, site_of}
use Rattle.sg_kinds.specs.FromScratch.{value_in}
use Rattle.sg_kinds.specs.Dependencies.{IsAttr, occurrence}
use Rattle.sg_orders.specs.Keys.{operator_in}
use Rattle.sg_kinds.specs.Specification.{args_of, is_inherited, phylum_of, rules_of}
use Rattle.sg_kinds.specs.ValidPlans.{AreValid}
use Rattle.sg_kinds.specs.declared.plans.Plans.{Plans}
use Rattle.sg_kinds.specs.declared.spec.Rules.{Rules}
use Rattle.sg_kinds.specs.declared.spec.Spec.{Spec}
use Rattle.sg_pool.specs.Pools.{value_at}
use Rattle.sg_forest.specs.declared.node_id.NodeId.{NodeId}
use Rattle.sg_forest.specs.Trees.{IsRoot, Climbs}
use Rattle.sg_forest.specs.Tree.{KeepsWaysWithin, MovesWays}
use Rattle.sg_forest.proofs.Paths.{Climbs-append, root_inside, root_is_no_child}
use Rattle.sg_groves.specs.Grove.{Grove, nodes, IsGrove}
use Rattle.sg_groves.specs.Holds.{Holds, IsPlaced}
use Rattle.sg_groves.specs.IsRight.{IsRight}
use Rattle.sg_groves.specs.Stored.{number_at, value_there}
use Rattle.sg_groves.proofs.Held.{held_fits, node_held, one_term, part_held}
use Rattle.sg_groves.proofs.Ways.{one_node, one_way}
use Rattle.sg_dependencies.specs.Vertices.{IsVertex}
use Rattle.sg_plans.specs.Planned.{IsPlanned}
use Rattle.sg_plans.specs.Segments.{IsLeafSlot, IsNodeAt, IsOutside, bearer}
use Rattle.sg_plans.proofs.Bearers.{bearer_found, found_bears, found_live, owed_site}
use Rattle.sg_plans.proofs.Nodes.{fitting_phylum, leaf_or_node, node_above, node_at}
use Rattle.sg_plans.proofs.Outside.{label_outside, live_before}
use Rattle.sg_terms.specs.Kept.{ReplacesTerms}
use Rattle.sg_attrib.proofs.Nodes.{label_op, planned}
use Rattle.sg_attrib.proofs.Leaves.{leaf_right}
use Rattle.sg_trail.specs.Trails.{IsExchanged}
use Rattle.sg_propagate.specs.Asked.{IsAsked}
use Rattle.sg_propagate.specs.Scenes.{IsSetUp}

-- every attribute of a node below the root of a right tree has its value, a leaf's too
module _ (plans : Plans) (g : Grove) (is : IsGrove g) (root : NodeId) (t : Term) (plan : IsPlanned g.spec plans t) (top : IsRoot (nodes g) root) (holds : Holds g root t) (right : IsRight g root) where
  right_at : (u : Place) (m : NodeId) (slot : ℕ) (i : Site Place) → Climbs (nodes g) u m root → site_of (rules_of g.spec) (net_of t) (record { node = u; slot = slot }) ≡ Some i → value_there g m slot ≡ value_in g.spec t (record { node = u; slot = slot })
  right_at u m slot i climbs found =
      let same = one_term g root right.term t right.holds holds in
      right.right u m slot i climbs (subst (λ x. site_of (rules_of g.spec) (net_of x) (record { node = u; slot = slot }) ≡ Some i) (sym same) found) ∙ ap (λ x. value_in g.spec x (record { node = u; slot = slot })) same

  module _ (k : ℕ) (u : Place) (m : NodeId) (climbs : Climbs (nodes g) (k ∷ u) m root) (X slot : ℕ) (phylum : phylum_at g.spec.ops (label_of (sub t (k ∷ u))) ≡ Some X) (attr : IsAttr (rules_of g.spec) X slot) where
    abbrev rules : Rules
    rules = rules_of g.spec

    part : (s : Term) × Holds g m s × (sub t (k ∷ u) ≡ Some s)
    part = part_held g is (k ∷ u) m root t climbs holds

    above : IsNodeAt t u
    above = node_above t k u part.0 part.2

    parent_placed : IsPlaced g root t u climbs.0
    parent_placed = record { top = top; holds = holds; way = climbs.2 }

    arg : slice_get (args_of g.spec.ops (operator_in t u)) k ≡ Some X
    arg =
        let a = (node_at g.spec t plan.root plan.fits u above).arg k part.0 part.2 in
        let same : a.0 ≡ X = same_Some a.0 X (sym (ap (λ o. phylum_at g.spec.ops (label_of o)) part.2 ∙ fitting_phylum g.spec part.0 a.0 a.2) ∙ phylum) in
        a.1 ∙ ap (λ Y. Some Y) same

    arg_vertex : IsVertex rules (operator_in t u) (occurrence (suc k) slot)
    arg_vertex = subst (λ o. slot < attr_count rules o + 0) (sym arg) (omega (arith, attr))

    inherited_by : is_inherited g.spec.phyla X slot ≡ true → value_there g m slot ≡ value_in g.spec t (record { node = k ∷ u; slot = slot })
    inherited_by way =
        let site = owed_site g.spec t plan.root plan.sound plan.fits u (occurrence (suc k) slot) above arg_vertex (ap (λ o. unwrap_or (option_map (λ Y. is_inherited g.spec.phyla Y slot) o) false) arg ∙ way) in
        right_at (k ∷ u) m slot (record { node = u; rule = site.rule }) climbs site.found

    own_by : is_inherited g.spec.phyla X slot ≡ false → IsNodeAt t (k ∷ u) → value_there g m slot ≡ value_in g.spec t (record { node = k ∷ u; slot = slot })
    own_by no_way node =
        let left : phylum_of g.spec.ops (operator_in t (k ∷ u)) ≡ Some X = sym (ap (phylum_at g.spec.ops) node) ∙ phylum in
        let vertex : IsVertex rules (operator_in t (k ∷ u)) (occurrence 0 slot) = own_vertex left in
        let site = owed_site g.spec t plan.root plan.sound plan.fits (k ∷ u) (occurrence 0 slot) node vertex (ap (λ o. not (unwrap_or (option_map (λ Y. is_inherited g.spec.phyla Y slot) o) false)) left ∙ ap not no_way) in
        right_at (k ∷ u) m slot (record { node = k ∷ u; rule = site.rule }) climbs site.found
      where
        own_vertex : phylum_of g.spec.ops (operator_in t (k ∷ u)) ≡ Some X → IsVertex rules (operator_in t (k ∷ u)) (occurrence 0 slot)
        own_vertex left = let low : slot < attr_count rules (phylum_of g.spec.ops (operator_in t (k ∷ u))) = subst (λ o. slot < attr_count rules o) (sym left) attr in omega (arith, low)

    leaf_by : IsLeafSlot t (record { node = k ∷ u; slot = slot }) → value_there g m slot ≡ value_in g.spec t (record { node = k ∷ u; slot = slot })
    leaf_by lf = leaf_right g is plans climbs.0 root t u (operator_in t u) (occurrence (suc k) slot) plan parent_placed (label_op g is climbs.0 root t u parent_placed (operator_in t u) above) arg_vertex m climbs lf

    pub attr_right : value_there g m slot ≡ value_in g.spec t (record { node = k ∷ u; slot = slot })
    attr_right = elim (leaf_or_node t (k ∷ u) part.0 part.2) [
      | inl lf ↦ leaf_by (record { phylum = lf.0; value = lf.1; label = lf.3 })
      | inr node ↦ by (is_inherited g.spec.phyla X slot) refl node
    ]
      where
        by : (b : Bool) → is_inherited g.spec.phyla X slot ≡ b → IsNodeAt t (k ∷ u) → value_there g m slot ≡ value_in g.spec t (record { node = k ∷ u; slot = slot })
        by true way node = inherited_by way
        by false way node = own_by way node

-- a term is there
label_there : (x : Term) → label_of (Some x) ≡ Missing → ⊥
label_there (Leaf p v) e = cc
label_there (Node op scheme elided ts) e = cc

-- what an equation outside a subterm defines is outside it, but for the subterm's top
abbrev tail : List ℕ → List ℕ
tail [] = []
tail (z ∷ zs) = zs

out_by : (t : Term) (c v : Place) (j slot : ℕ) (w : List ℕ) → IsOutside c v → ((referred (net_of t) v (occurrence j slot)).node ≡ c → ⊥) → (referred (net_of t) v (occurrence j slot)).node ≡ w ++ c → ⊥
out_by t c v zero slot w far other same = far w same
out_by t c v (suc j) slot [] far other same = other same
out_by t c v (suc j) slot (l ∷ w) far other same = far w (ap tail same)

-- the tree after the exchange
module _ (plans : Plans) (old new : Grove) (is : IsGrove old) (is_new : IsGrove new) (valid : AreValid (rules_of old.spec) plans) (at detached root : NodeId) (t : Term) (k : ℕ) (u : Place) (s : Term) (asked : IsAsked old at detached root t (k ∷ u) s)
    (ex : IsExchanged old new at detached) (replaced : ReplacesTerms old new at detached) (moved : MovesWays (nodes old) (nodes new) at detached) (ways : KeepsWaysWithin (nodes old) (nodes new) at) (freed : IsRoot (nodes new) at)
    (roots : (n : NodeId) → n ≢ at → n ≢ detached → IsRoot (nodes new) n ↔ IsRoot (nodes old) n) where
  abbrev t' : Term
  t' = put t (k ∷ u) s

  abbrev climbs : Climbs (nodes old) (k ∷ u) at root
  climbs = asked.placed.way

  root_is_not_at : root ≢ at
  root_is_not_at e = root_is_no_child (nodes old) at climbs.0 k (subst (IsRoot (nodes old)) e asked.placed.top) climbs.1

  root_is_not_detached : root ≢ detached
  root_is_not_detached e = ex.apart (record { path = k ∷ u; climbs = subst (Climbs (nodes old) (k ∷ u) at) e climbs })

  was_plan : IsPlanned old.spec plans t
  was_plan = planned old is plans valid root t asked.placed.top asked.placed.holds

  new_root : IsRoot (nodes new) root
  new_root = (roots root root_is_not_at root_is_not_detached).1 asked.placed.top

  new_holds : Holds new root t'
  new_holds = replaced k u root t s climbs asked.placed.holds asked.part

  new_placed : IsPlaced new root t' (k ∷ u) detached
  new_placed = record { top = new_root; holds = new_holds; way = moved k u root climbs }

  new_plan : IsPlanned old.spec plans t'
  new_plan = subst (λ (z : Spec). IsPlanned z plans t') ex.spec (planned new is_new plans (subst (λ (z : Spec). AreValid (rules_of z) plans) (sym ex.spec) valid) root t' new_root new_holds)

  -- stored values stay
  value_stays : (m : NodeId) (slot : ℕ) → value_there new m slot ≡ value_there old m slot
  value_stays m slot = ap (λ (pool : List Value). unwrap_or (option_map (value_at pool) (number_at new m slot)) untyped) ex.pool ∙ ap (λ o. unwrap_or (option_map (value_at old.pool) o) untyped) (ex.numbers m slot)

  -- both tops are of one phylum
  was_part : (x : Term) × Holds old at x × (sub t (k ∷ u) ≡ Some x)
  was_part = part_held old is (k ∷ u) at root t climbs asked.placed.holds

  same_phylum : (X : ℕ) → phylum_at old.spec.ops (label_of (sub t' (k ∷ u))) ≡ Some X → phylum_at old.spec.ops (label_of (sub t (k ∷ u))) ≡ Some X
  same_phylum X phylum =
      let live = ex.live in
      let here = fitting_phylum old.spec was_part.0 live.node.label.phylum (held_fits old is at live.node was_part.0 live.found was_part.1) in
      let there = fitting_phylum old.spec s ex.root.node.label.phylum (held_fits old is detached ex.root.node s ex.root.found asked.part) in
      let now = ap (λ o. phylum_at old.spec.ops (label_of o)) (sub_put_inside t (k ∷ u) [] was_part.0 s was_part.2) in
      ap (λ o. phylum_at old.spec.ops (label_of o)) was_part.2 ∙ here ∙ ap (λ Y. Some Y) (ex.phyla live.node ex.root.node live.found ex.root.found) ∙ sym there ∙ sym now ∙ phylum

  -- what is defined outside the new subterm was defined there before
  module _ (a : Reference Place) (m : NodeId) (i : Site Place) (found : site_of (rules_of old.spec) (net_of t') a ≡ Some i) (far : IsOutside (k ∷ u) i.node) (other : a.node ≢ k ∷ u) (up : Climbs (nodes new) a.node m root) where
    bears : bearer t' i ≡ a
    bears = found_bears (rules_of old.spec) t' a i found

    out : IsOutside (k ∷ u) a.node
    out w e = out_by t' (k ∷ u) i.node i.rule.target.at i.rule.target.slot w far (λ same. other (sym (ap (λ (b : Reference Place). b.node) bears) ∙ same)) (ap (λ (b : Reference Place). b.node) bears ∙ e)

    was_found : site_of (rules_of old.spec) (net_of t) a ≡ Some i
    was_found =
        let live = live_before (rules_of old.spec) t (k ∷ u) s i far (found_live (rules_of old.spec) t' a i found) in
        subst (λ b. site_of (rules_of old.spec) (net_of t) b ≡ Some i) bears (bearer_found old.spec t was_plan.root was_plan.sound was_plan.fits i live)

    there_now : (x : Term) × Holds new m x × (sub t' a.node ≡ Some x)
    there_now = part_held new is_new a.node m root t' up new_holds

    there_then : (x : Term) × (sub t a.node ≡ Some x)
    there_then = by (sub t a.node) refl
      where
        by : (o : Option Term) → sub t a.node ≡ o → (x : Term) × (sub t a.node ≡ Some x)
        by (Some x) at_a = (x, at_a)
        by None at_a = absurd (label_there there_now.0 (sym (ap label_of there_now.2) ∙ label_outside t (k ∷ u) s a.node out ∙ ap label_of at_a))

    climbed : Climbs (nodes old) a.node m root
    climbed =
        let n = node_held old is a.node root t there_then.0 asked.placed.holds there_then.1 in
        let now = ways a.node n.0 root (λ inside. absurd (out inside.path (one_way old is a.node (inside.path ++ (k ∷ u)) n.0 root root asked.placed.top asked.placed.top n.1 (Climbs-append (nodes old) inside.path (k ∷ u) n.0 at root inside.climbs climbs)).0)) n.1 in
        subst (λ c. Climbs (nodes old) a.node c root) (one_node new is_new a.node n.0 m root now up) n.1

    stale : value_there new m a.slot ≡ value_in old.spec t a
    stale = value_stays m a.slot ∙ right_at plans old is root t was_plan asked.placed.top asked.placed.holds asked.right a.node m a.slot i climbed was_found

  pub set_up : IsSetUp plans (record { spec = old.spec; root = root; was = t; place = k ∷ u; part = s; top = detached; left = at }) new
  set_up = record {
    spec_is = ex.spec;
    placed = new_placed;
    was_planned = was_plan;
    planned = new_plan;
    apart = λ inside. root_is_not_at (sym (root_inside (nodes new) at root freed inside));
    kept = λ X slot phylum attr. value_stays at slot ∙ attr_right plans old is root t was_plan asked.placed.top asked.placed.holds asked.right k u at climbs X slot (same_phylum X phylum) attr;
    stale = stale;
  }
