-- What an equation names is a leaf's, or inherited, or stands before it in the plan of each node on the way up.
use Rattle.std.specs.Prelude.{◌≡◌, ℕ, zero, suc, ◌<◌, ◌≤◌, ◌⊎◌, Bool, true, false, not, List, [], ◌∷◌, ◌++◌, Some, slice_get, slice_index, unwrap_or, option_map, All, Contains}
use Rattle.std.proofs.Common.{refl, sym, ap, ◌∙◌, subst, arith, inl, inr, append_assoc}
use Rattle.std.proofs.lemmas.List.Elements.{All-contains}
use Rattle.sg_kinds.specs.declared.spec.Spec.{Spec}
use Rattle.sg_kinds.specs.declared.spec.Rules.{Rules}
use Rattle.sg_kinds.specs.declared.spec.Rule.{Rule}
use Rattle.sg_kinds.specs.declared.spec.Occurrence.{Occurrence}
use Rattle.sg_kinds.specs.Terms.{Term}
use Rattle.sg_kinds.specs.Specification.{args_of, phylum_of, is_inherited, rules_of}
use Rattle.sg_kinds.specs.Places.{Place}
use Rattle.sg_kinds.specs.Nets.{Net, Reference, phylum_at, referred, net_of}
use Rattle.sg_kinds.specs.Instances.{Site, site_of}
use Rattle.sg_kinds.specs.Dependencies.{is_inherited_there, IsAttr, phylum_there, occurrence}
use Rattle.sg_orders.specs.Keys.{operation, operator_in}
use Rattle.sg_kinds.specs.declared.plans.Plans.{Plans}
use Rattle.sg_kinds.specs.Visits.{row_at, belongs, seat, position_in, visit_count}
use Rattle.sg_dependencies.specs.Proper.{is_owed}
use Rattle.sg_dependencies.specs.Vertices.{IsVertex, AreInRange}
use Rattle.sg_dependencies.proofs.Numbers.{some_attr}
use Rattle.sg_dependencies.proofs.Sound.{attr_vertex}
use Rattle.sg_orders.specs.LiveSites.{IsLive}
use Rattle.sg_orders.specs.Timed.{AreTimed}
use Rattle.sg_orders.proofs.KeysFall.{inherited_attr}
use Rattle.sg_orders.proofs.PlanFacts.{named_before, belongs_itself, inherited_by, inherited_before_seat, seat_before, seat_rises}
use Rattle.sg_orders.proofs.ValidFacts.{valid_timed}
use Rattle.sg_plans.specs.Planned.{IsPlanned}
use Rattle.sg_plans.specs.Segments.{position_at, visit_at, position_of, IsOfVisit, IsGivenBy, IsTaken, IsLeafSlot}
use Rattle.sg_plans.proofs.Bearers.{ranges, owed_site, live_node, live_op}
use Rattle.sg_plans.proofs.Nodes.{IsNodeAt, IsNode, leaf_or_node, node_at, below_at, node_on_way}
use Rattle.sg_plans.proofs.Ways.{position_joins, positions_rise, visits_rise, visit_low}

-- a reference whose equation stands before position q in the plan of the node at u
pub record IsBefore (rules : Rules) (plans : Plans) (t : Term) (u : Place) (q : ℕ) (a : Reference Place) : Type 0 where
  pub site : Site Place
  pub found : site_of rules (net_of t) a ≡ Some site
  pub live : IsLive rules t site
  pub way : List ℕ
  pub below : site.node ≡ way ++ u
  pub less : position_at rules plans t way u (position_of rules plans site) < q

pub given_from : (rules : Rules) (plans : Plans) (t : Term) (u : Place) (q : ℕ) (a : Reference Place) → (b : IsBefore rules plans t u q a) → IsGivenBy rules plans t u (visit_at rules plans t b.way u (position_of rules plans b.site)) a
given_from rules plans t u q a b = record { site = b.site; found = b.found; of_visit = record { live = b.live; way = b.way; below = b.below; visit = refl } }

-- what an equation names
pub data IsNamed (rules : Rules) (plans : Plans) (t : Term) (u : Place) (j q : ℕ) (a : Reference Place) : Type 0 where
  leaf : IsLeafSlot t a → IsNamed rules plans t u j q a
  taken : IsTaken rules plans t u j a → IsNamed rules plans t u j q a
  before : IsBefore rules plans t u q a → IsNamed rules plans t u j q a

module _ (spec : Spec) (plans : Plans) (t : Term) (planned : IsPlanned spec plans t) where
  abbrev rules : Rules
  rules = rules_of spec

  abbrev net : Net Place
  net = net_of t

  timed : AreTimed (rules_of spec) plans
  timed = valid_timed (rules_of spec) plans planned.valid

  abbrev in_range : AreInRange (rules_of spec)
  in_range = ranges spec t planned.root planned.sound planned.fits

  abbrev node : (u : Place) → IsNodeAt t u → IsNode spec t u
  node u is = node_at spec t planned.root planned.fits u is

  own_position : (u : Place) (o : Occurrence) (r : Rule) → IsLive rules t (record { node = u; rule = r }) → r.target ≡ o → position_of rules plans (record { node = u; rule = r }) ≡ position_in rules plans (operator_in t u) o
  own_position u o r live target = ap (λ p. position_in rules plans p r.target) (sym (ap operation live.label)) ∙ ap (position_in rules plans (operator_in t u)) target

  -- an occurrence that the node's own equations define
  own_before : (u : Place) (o : Occurrence) (q : ℕ) → IsNodeAt t u → IsVertex rules (operator_in t u) o → is_owed rules (operator_in t u) o.at o.slot ≡ true → position_in rules plans (operator_in t u) o < q → IsBefore rules plans t u q (referred net u o)
  own_before u o q is vertex owed less =
      let own = owed_site spec t planned.root planned.sound planned.fits u o is vertex owed in
      record { site = record { node = u; rule = own.rule }; found = own.found; live = own.live; way = []; below = refl; less = let e = own_position u o own.rule own.live own.target in omega (arith, e, less) }

  -- an inherited attribute of a child stands before the child's visits that take it
  pub taken_before : (k : ℕ) (u : Place) (i : ℕ) (a : Reference Place) → IsNodeAt t (k ∷ u) → IsTaken rules plans t (k ∷ u) i a → IsBefore rules plans t u (seat rules plans (operator_in t u) k i) a
  taken_before k u i a is x =
      let b = below_at spec t planned.root planned.fits k u is in
      let above = node u b.above in
      let left : phylum_of spec.ops (operator_in t (k ∷ u)) ≡ Some x.phylum = sym (ap (phylum_at spec.ops) is) ∙ x.left in
      let arg : slice_get (args_of spec.ops (operator_in t u)) k ≡ Some x.phylum = b.arg ∙ sym b.left ∙ left in
      let attr = inherited_attr rules x.phylum a.slot x.inherited in
      let less = inherited_before_seat rules in_range plans timed (operator_in t u) above.low k x.phylum a.slot i arg attr x.inherited x.visit in
      let owed : is_inherited_there rules (operator_in t u) (suc k) a.slot ≡ true = ap (λ o. unwrap_or (option_map (λ X. is_inherited rules.phyla X a.slot) o) false) arg ∙ x.inherited in
      let own = own_before u (occurrence (suc k) a.slot) (seat rules plans (operator_in t u) k i) b.above (attr_vertex rules (operator_in t u) (suc k) x.phylum a.slot arg attr) owed less in
      subst (λ n. IsBefore rules plans t u (seat rules plans (operator_in t u) k i) (record { node = n; slot = a.slot })) (sym x.node) own

  -- what an earlier visit of a child gives stands before a visit of it
  pub given_before : (k : ℕ) (u : Place) (h i X : ℕ) (a : Reference Place) → IsNodeAt t (k ∷ u) → slice_get (args_of spec.ops (operator_in t u)) k ≡ Some X → h < i → i ≤ visit_count plans X → IsGivenBy rules plans t (k ∷ u) h a
      → IsBefore rules plans t u (seat rules plans (operator_in t u) k i) a
  given_before k u h i X a is arg less high given =
      let b = below_at spec t planned.root planned.fits k u is in
      let above = node u b.above in
      let of = given.of_visit in
      let q = position_of rules plans given.site in
      let at : position_at rules plans t (of.way ++ k ∷ []) u q ≡ seat rules plans (operator_in t u) k h =
      position_joins rules plans t of.way (k ∷ []) u q ∙ ap (seat rules plans (operator_in t u) k) of.visit in
      let low = visit_low spec in_range plans planned.valid t planned.root planned.fits (k ∷ u) (position_at rules plans t of.way (k ∷ u) q) is in
      let visit = of.visit in
      let rise = seat_rises rules in_range plans timed (operator_in t u) above.low k X h i arg (omega (arith, low, visit)) less high in
      record { site = given.site; found = given.found; live = of.live; way = of.way ++ k ∷ []; below = of.below ∙ sym (append_assoc of.way (k ∷ []) u); less = omega (arith, at, rise) }

  -- what an equation names, by positions of its own node
  abbrev IsOf : Site Place → Occurrence → Type 0
  IsOf i o = IsNamed rules plans t i.node (belongs rules plans (operator_in t i.node) (position_of rules plans i)) (position_of rules plans i) (referred net i.node o)

  module _ (i : Site Place) (live : IsLive rules t i) where
    abbrev op : ℕ
    op = operator_in t i.node

    is_node : IsNodeAt t i.node
    is_node = live_node spec t planned.root planned.sound planned.fits i live

    op_is : operator_in t i.node ≡ i.rule.op
    op_is = live_op spec t planned.root planned.sound planned.fits i live

    position_is : position_of rules plans i ≡ position_in rules plans (operator_in t i.node) i.rule.target
    position_is = ap (λ p. position_in rules plans p i.rule.target) (sym op_is)

    named_vertex : (o : Occurrence) → Contains i.rule.args o → IsVertex rules (operator_in t i.node) o
    named_vertex o names =
        let all = All-contains (λ (r : Rule). All (IsVertex rules r.op) r.args) rules.rules i.rule in_range.equations.args live.stands in
        subst (λ p. IsVertex rules p o) (sym op_is) (All-contains (IsVertex rules i.rule.op) i.rule.args o all names)

    named_less : (o : Occurrence) → Contains i.rule.args o → position_in rules plans (operator_in t i.node) o < position_of rules plans i
    named_less o names =
        let less = named_before rules in_range plans timed op (node i.node is_node).low i.rule o live.stands (sym op_is) names in
        let e = position_is in
        omega (arith, less, e)

    left_side : (slot : ℕ) → Contains i.rule.args (occurrence 0 slot) → (b : Bool) → is_inherited_there rules (operator_in t i.node) 0 slot ≡ b → IsOf i (occurrence 0 slot)
    left_side slot names false is = before (own_before i.node (occurrence 0 slot) (position_of rules plans i) is_node (named_vertex (occurrence 0 slot) names) (ap not is) (named_less (occurrence 0 slot) names))
    left_side slot names true is =
        let n = node i.node is_node in
        let inherited : is_inherited rules.phyla n.phylum slot ≡ true = sym (ap (λ o. unwrap_or (option_map (λ X. is_inherited rules.phyla X slot) o) false) n.left) ∙ is in
        let by = inherited_by rules in_range plans timed op n.low n.phylum slot i.rule n.left (inherited_attr rules n.phylum slot inherited) live.stands (sym op_is) names in
        taken (record { node = refl; phylum = n.phylum; left = ap (phylum_at spec.ops) is_node ∙ n.left; inherited = inherited; visit = subst (λ q. slice_index (row_at plans.visits n.phylum) slot ≤ belongs rules plans op q) (sym position_is) by })

    child_side : (k slot X : ℕ) → Contains i.rule.args (occurrence (suc k) slot) → slice_get (args_of spec.ops (operator_in t i.node)) k ≡ Some X → IsAttr rules X slot → IsNodeAt t (k ∷ i.node) → (b : Bool) → is_inherited rules.phyla X slot ≡ b → IsOf i (occurrence (suc k) slot)
    child_side k slot X names arg attr is true way =
        let owed : is_inherited_there rules op (suc k) slot ≡ true = ap (λ o. unwrap_or (option_map (λ Y. is_inherited rules.phyla Y slot) o) false) arg ∙ way in
        before (own_before i.node (occurrence (suc k) slot) (position_of rules plans i) is_node (named_vertex (occurrence (suc k) slot) names) owed (named_less (occurrence (suc k) slot) names))
    child_side k slot X names arg attr is false way =
        let b = below_at spec t planned.root planned.fits k i.node is in
        let n = node i.node is_node in
        let kid = node (k ∷ i.node) is in
        let p = operator_in t (k ∷ i.node) in
        let left : phylum_of spec.ops p ≡ Some X = b.left ∙ sym b.arg ∙ arg in
        let owed : not (is_inherited_there rules p 0 slot) ≡ true = ap not (ap (λ o. unwrap_or (option_map (λ Y. is_inherited rules.phyla Y slot) o) false) left ∙ way) in
        let own = owed_site spec t planned.root planned.sound planned.fits (k ∷ i.node) (occurrence 0 slot) is (attr_vertex rules p 0 X slot left attr) owed in
        let at = own_position (k ∷ i.node) (occurrence 0 slot) own.rule own.live own.target in
        let visit = belongs_itself rules in_range plans timed p kid.low X slot left attr way in
        let seated : seat rules plans op k (belongs rules plans p (position_of rules plans (record { node = k ∷ i.node; rule = own.rule }))) ≡ seat rules plans op k (slice_index (row_at plans.visits X) slot) =
        ap (λ q. seat rules plans op k (belongs rules plans p q)) at ∙ ap (seat rules plans op k) visit in
        let le = seat_before rules in_range plans timed op n.low k X slot arg attr way in
        let less = named_less (occurrence (suc k) slot) names in
        before (record { site = record { node = k ∷ i.node; rule = own.rule }; found = own.found; live = own.live; way = k ∷ []; below = refl; less = omega (arith, seated, le, less) })

    argument : (k slot : ℕ) → Contains i.rule.args (occurrence (suc k) slot) → IsOf i (occurrence (suc k) slot)
    argument k slot names =
        let vertex = named_vertex (occurrence (suc k) slot) names in
        let has = some_attr rules (phylum_there rules.ops op (suc k)) slot (omega (arith, vertex)) in
        let kid = (node i.node is_node).kid k has.phylum has.is in
        elim (leaf_or_node t (k ∷ i.node) kid.0 kid.1) [
          | inl is ↦ leaf (record { phylum = is.0; value = is.1; label = is.3 })
          | inr is ↦ child_side k slot has.phylum names has.is has.attr is (is_inherited rules.phyla has.phylum slot) refl
        ]

    pub named : (o : Occurrence) → Contains i.rule.args o → IsOf i o
    named o names = by o.at o.slot names
      where
        by : (k slot : ℕ) → Contains i.rule.args (occurrence k slot) → IsOf i (occurrence k slot)
        by zero slot has = left_side slot has (is_inherited_there rules op 0 slot) refl
        by (suc k) slot has = argument k slot has

  -- and by those of a node above
  pub raised : (w : List ℕ) (u : Place) (q : ℕ) (a : Reference Place) → IsNodeAt t (w ++ u) → IsBefore rules plans t (w ++ u) q a → IsBefore rules plans t u (suc (position_at rules plans t w u q)) a
  raised w u q a is b =
      let p = position_of rules plans b.site in
      let l = b.less in
      let at = position_joins rules plans t b.way w u p in
      let rise = positions_rise spec in_range plans planned.valid t planned.root planned.fits w u (position_at rules plans t b.way (w ++ u) p) q is (omega (arith, l)) in
      record { site = b.site; found = b.found; live = b.live; way = b.way ++ w; below = b.below ∙ sym (append_assoc b.way w u); less = omega (arith, at, rise) }

  pub named_on_way : (w : List ℕ) (u : Place) (q : ℕ) (a : Reference Place) → IsNodeAt t (w ++ u) → IsNamed rules plans t (w ++ u) (belongs rules plans (operator_in t (w ++ u)) q) q a
      → IsNamed rules plans t u (visit_at rules plans t w u q) (suc (position_at rules plans t w u q)) a
  named_on_way w u q a is (leaf l) = leaf l
  named_on_way w u q a is (before b) = before (raised w u q a is b)
  named_on_way [] u q a is (taken x) = taken x
  named_on_way (k ∷ w) u q a is (taken x) =
      let b = below_at spec t planned.root planned.fits k (w ++ u) is in
      before (raised w u (seat rules plans (operator_in t (w ++ u)) k (belongs rules plans (operator_in t (k ∷ w ++ u)) q)) a b.above (taken_before k (w ++ u) (belongs rules plans (operator_in t (k ∷ w ++ u)) q) a is x))

  -- an argument of an equation of a visit is a leaf's, or the visit takes it, or it or an earlier one gives it
  pub closed : (u : Place) (j : ℕ) (i : Site Place) → IsOfVisit rules plans t u j i → (o : Occurrence) → Contains i.rule.args o
      → IsLeafSlot t (referred net i.node o) ⊎ IsTaken rules plans t u j (referred net i.node o) ⊎ ((h : ℕ) × (h ≤ j) × IsGivenBy rules plans t u h (referred net i.node o))
  closed u j i of o names =
      let q = position_of rules plans i in
      let is : IsNodeAt t (of.way ++ u) = subst (IsNodeAt t) of.below (is_node i of.live) in
      let top : IsNodeAt t u = node_on_way t of.way u is in
      let there = subst (λ n. IsNamed rules plans t n (belongs rules plans (operator_in t n) q) q (referred net i.node o)) of.below (named i of.live o names) in
      elim (named_on_way of.way u q (referred net i.node o) is there) [
        | leaf l ↦ inl l
        | taken x ↦ inr (inl (subst (λ n. IsTaken rules plans t u n (referred net i.node o)) of.visit x))
        | before b ↦
            let l = b.less in
            let rise = visits_rise spec in_range plans planned.valid t planned.root planned.fits u (position_at rules plans t b.way u (position_of rules plans b.site)) (position_at rules plans t of.way u q) top (omega (arith, l)) in
            let visit = of.visit in
            inr (inr (visit_at rules plans t b.way u (position_of rules plans b.site), omega (arith, rise, visit), given_from rules plans t u (suc (position_at rules plans t of.way u q)) (referred net i.node o) b))
      ]
