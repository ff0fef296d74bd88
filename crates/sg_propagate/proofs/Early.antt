-- Equations that the exchange cannot reach but by what a node at its place or above it gives: those outside the node, and
-- those that come before one of its visits.
use Rattle.std.specs.Prelude.{◌≡◌, ◌⊎◌, ℕ, zero, suc, ◌<◌, ◌≤◌, List, [], ◌∷◌, ◌++◌, Option, None, Some, All, Bool, true, false, not, cond, slice_index, option_map, unwrap_or, Contains}
use Rattle.std.proofs.Common.{refl, sym, ap, ◌∙◌, subst, arith, inl, inr, append_assoc}
use Rattle.std.proofs.lemmas.Bool.{cases_lt}
use Rattle.std.proofs.lemmas.List.{append-nil}
use Rattle.std.proofs.lemmas.List.Elements.{All-contains}
use Rattle.std.proofs.lemmas.Option.{same_Some}
use Rattle.sg_kinds.specs.Terms.{Term}
use Rattle.sg_kinds.specs.Places.{Place, sub}
use Rattle.sg_kinds.specs.Nets.{Net, NodeLabel, Reference, label_of, net_of, phylum_at, referred}
use Rattle.sg_kinds.specs.Instances.{Site, is_inherited_at, rule_under, site_above, site_at, site_of}
use Rattle.sg_orders.specs.Keys.{operator_in}
use Rattle.sg_kinds.specs.Specification.{is_inherited, phylum_of, rules_of}
use Rattle.sg_kinds.specs.Dependencies.{IsAttr, occurrence, phylum_there}
use Rattle.sg_kinds.specs.Visits.{belongs, position_in, row_at, seat}
use Rattle.sg_kinds.specs.declared.plans.Plans.{Plans}
use Rattle.sg_kinds.specs.declared.spec.Occurrence.{Occurrence}
use Rattle.sg_kinds.specs.declared.spec.Rule.{Rule}
use Rattle.sg_kinds.specs.declared.spec.Rules.{Rules}
use Rattle.sg_dependencies.specs.Vertices.{AreInRange, IsVertex}
use Rattle.sg_dependencies.proofs.Numbers.{some_attr}
use Rattle.sg_orders.specs.LiveSites.{IsLive}
use Rattle.sg_orders.specs.Timed.{AreTimed}
use Rattle.sg_orders.proofs.PlanFacts.{belongs_itself, seat_rises}
use Rattle.sg_orders.proofs.KeysFall.{site_found}
use Rattle.sg_orders.proofs.ValidFacts.{from_scratch_values, valid_timed}
use Rattle.sg_groves.specs.Evaluated.{HasChanged}
use Rattle.sg_groves.proofs.Below.{below_or_not}
use Rattle.sg_plans.specs.Planned.{IsPlanned}
use Rattle.sg_plans.specs.Segments.{IsGivenBy, IsLeafSlot, IsNodeAt, IsOutside, IsTaken, bearer, position_at, position_of, visit_at}
use Rattle.sg_plans.proofs.Bearers.{found_bears, found_live, inherited_at, live_node, live_op, owed_site, ranges}
use Rattle.sg_plans.proofs.Closed as named
use Rattle.sg_plans.proofs.Closed.{IsBefore, IsNamed, closed, taken_before}
use Rattle.sg_plans.proofs.Outside.{label_outside}
use Rattle.sg_kinds.specs.FromScratch.{leaf_or, site_value, value_in}
use Rattle.sg_kinds.specs.Values.{Fault}
use Rattle.sg_kinds.specs.declared.marks.FaultKind.TheVariants.{Fuel}
use Rattle.sg_dependencies.specs.Proper.{is_owed}
use Rattle.sg_dependencies.proofs.Sound.{attr_vertex}
use Rattle.sg_plans.proofs.Nodes.{below_at, node_at, node_on_way, not_held}
use Rattle.sg_plans.proofs.Visiting.{visit_some}
use Rattle.sg_plans.proofs.Ways.{one_way, position_joins, visit_high, visit_low, visits_rise}
use Rattle.sg_attrib.proofs.Stepped.{taken_not_given}
use Rattle.sg_propagate.proofs.Changing.{leaf_same}
use Rattle.sg_propagate.proofs.Clean as untouched
use Rattle.sg_propagate.proofs.Clean.{IsClosed}
use Rattle.sg_propagate.proofs.Given.{given_below}
use Rattle.sg_propagate.specs.Scenes.{Scene, term_now, value_now, value_was}

-- what an equation outside a node names at the node or below it is the node's own
crossing : (u n r : Place) → IsOutside u n → (r ≡ n) ⊎ ((k : ℕ) × (r ≡ k ∷ n)) → (x : List ℕ) → r ≡ x ++ u → r ≡ u
crossing u n r far (inl e) x is = absurd (far x (sym e ∙ is))
crossing u n r far (inr e) [] is = is
crossing u n r far (inr e) (l ∷ x) is = absurd (far x (ap rest (sym e.1 ∙ is)))
  where
    rest : List ℕ → List ℕ
    rest [] = []
    rest (z ∷ zs) = zs

named_at : (t : Term) (n : Place) (o : Occurrence) → ((referred (net_of t) n o).node ≡ n) ⊎ ((k : ℕ) × ((referred (net_of t) n o).node ≡ k ∷ n))
named_at t n o = by o.at
  where
    by : (k : ℕ) → ((referred (net_of t) n (record { at = k; slot = o.slot })).node ≡ n) ⊎ ((l : ℕ) × ((referred (net_of t) n (record { at = k; slot = o.slot })).node ≡ l ∷ n))
    by zero = inl refl
    by (suc k) = inr (k, refl)

-- an attribute of a node
pub record IsAttrAt (rules : Rules) (t : Term) (u : Place) (a : Reference Place) : Type 0 where
  pub node : a.node ≡ u
  pub phylum : ℕ
  pub left : phylum_of rules.ops (operator_in t u) ≡ Some phylum
  pub attr : IsAttr rules phylum a.slot

module _ (plans : Plans) (sc : Scene) (was_planned : IsPlanned sc.spec plans sc.was) (planned : IsPlanned sc.spec plans (term_now sc)) where
  abbrev rules : Rules
  rules = rules_of sc.spec

  abbrev t : Term
  t = term_now sc

  abbrev net : Net Place
  net = net_of (term_now sc)

  timed : AreTimed (rules_of sc.spec) plans
  timed = valid_timed (rules_of sc.spec) plans planned.valid

  in_range : AreInRange (rules_of sc.spec)
  in_range = ranges sc.spec (term_now sc) planned.root planned.sound planned.fits

  -- a reference has the value of before
  abbrev IsSame : Reference Place → Type 0
  IsSame a = value_now sc a ≡ value_was sc a

  abbrev Changed : Site Place → Type 0
  Changed i = HasChanged sc.spec sc.was sc.place sc.part i

  module _ (P : Site Place → Type 0) (far : (i : Site Place) → P i → IsOutside sc.place i.node) (is_closed : IsClosed sc.spec sc.was sc.part sc.place P) where
    pub clean : (i : Site Place) → IsLive rules t i → P i → Changed i → ⊥
    clean i live is has = has.changed (untouched.clean sc.spec plans sc.was sc.part sc.place was_planned planned P far is_closed i live is has.arg has.named)

    pub same : (i : Site Place) → IsLive rules t i → P i → IsSame (bearer t i)
    same = untouched.same sc.spec plans sc.was sc.part sc.place was_planned planned P far is_closed

  -- what has no equation outside the new subterm is a leaf's or is not there, before and now
  site_same : (a : Reference Place) → IsOutside sc.place a.node → site_of rules (net_of t) a ≡ site_of rules (net_of sc.was) a
  site_same a out = by a.node out
    where
      inherits : NodeLabel → Bool
      inherits l = unwrap_or (option_map (λ p. is_inherited (rules_of sc.spec).phyla p a.slot) (phylum_at (rules_of sc.spec).ops l)) false

      here : Place → ℕ → NodeLabel → Option (Site Place)
      here v k l = option_map (λ r. record { node = v; rule = r }) (rule_under (rules_of sc.spec).rules l (record { at = k; slot = a.slot }))

      by : (v : Place) → IsOutside sc.place v → site_of (rules_of sc.spec) (net_of (term_now sc)) (record { node = v; slot = a.slot }) ≡ site_of (rules_of sc.spec) (net_of sc.was) (record { node = v; slot = a.slot })
      by [] out = ap (λ l. cond (inherits l) None (here [] 0 l)) (label_outside sc.was sc.place sc.part [] out)
      by (k ∷ w) out =
          ap (λ l. cond (inherits l) (here w (suc k) (label_of (sub (term_now sc) w))) (here (k ∷ w) 0 l)) (label_outside sc.was sc.place sc.part (k ∷ w) out)
          ∙ ap (λ l. cond (inherits (label_of (sub sc.was (k ∷ w)))) (here w (suc k) l) (here (k ∷ w) 0 (label_of (sub sc.was (k ∷ w))))) (label_outside sc.was sc.place sc.part w (λ y e. out (k ∷ y) (ap (λ v. k ∷ v) e)))

  no_equation : (a : Reference Place) → IsOutside sc.place a.node → site_of rules net a ≡ None → IsSame a
  no_equation a out none =
      from_scratch_values sc.spec plans t planned.root in_range planned.valid planned.fits a
      ∙ ap (λ o. leaf_or (label_of (sub t a.node)) (site_value sc.spec net (value_in sc.spec t) o)) none
      ∙ ap (λ l. leaf_or l (Fault Fuel)) (label_outside sc.was sc.place sc.part a.node out)
      ∙ sym (ap (λ o. leaf_or (label_of (sub sc.was a.node)) (site_value sc.spec (net_of sc.was) (value_in sc.spec sc.was) o)) (sym (site_same a out) ∙ none))
      ∙ sym (from_scratch_values sc.spec plans sc.was was_planned.root in_range was_planned.valid was_planned.fits a)

  -- an equation at a node or below it, not below a child, that stands before a visit of the child
  pub record IsBeside (kid : ℕ) (q : Place) (j : ℕ) (i : Site Place) : Type 0 where
    pub way : List ℕ
    pub below : i.node ≡ way ++ q
    pub apart : IsOutside (kid ∷ q) i.node
    pub less : position_at (rules_of sc.spec) plans (term_now sc) way q (position_of (rules_of sc.spec) plans i) < seat (rules_of sc.spec) plans (operator_in (term_now sc) q) kid j

  -- the visit of a node to which a visit of a child belongs
  abbrev pub visit_above : ℕ → Place → ℕ → ℕ
  visit_above kid q j = belongs (rules_of sc.spec) plans (operator_in (term_now sc) q) (seat (rules_of sc.spec) plans (operator_in (term_now sc) q) kid j)

  -- an equation outside a node that comes before a visit of it
  abbrev pub IsEarly : Place → ℕ → Site Place → Type 0
  IsEarly [] j i = ⊥
  IsEarly (kid ∷ q) j i = IsBeside kid q j i ⊎ IsEarly q (visit_above kid q j) i

  pub early_outside : (u : Place) (j : ℕ) (i : Site Place) → IsEarly u j i → IsOutside u i.node
  early_outside [] j i is = absurd is
  early_outside (kid ∷ q) j i (inl b) = b.apart
  early_outside (kid ∷ q) j i (inr e) = λ w at. early_outside q (visit_above kid q j) i e (w ++ kid ∷ []) (at ∙ sym (append_assoc w (kid ∷ []) q))

  pub early_above : (u : Place) (j : ℕ) (i : Site Place) → IsEarly u j i → (kid : ℕ) × (q : Place) × (u ≡ kid ∷ q)
  early_above [] j i is = absurd is
  early_above (kid ∷ q) j i is = (kid, q, refl)

  above : (kid : ℕ) (q : Place) → IsNodeAt t (kid ∷ q) → IsNodeAt t q
  above kid q is = (below_at sc.spec t planned.root planned.fits kid q is).above

  -- a visit of a child that does not stand before another is that one or a later one
  not_before : (kid : ℕ) (q : Place) (j h : ℕ) → IsNodeAt t (kid ∷ q) → 1 ≤ j → (p : ℕ) → h ≡ visit_at rules plans t [] (kid ∷ q) p → seat rules plans (operator_in t q) kid h < seat rules plans (operator_in t q) kid j → h < j
  not_before kid q j h is low p visit less = elim (cases_lt h j) [
    | inl under ↦ under
    | inr past ↦ absurd (
        let b = below_at sc.spec t planned.root planned.fits kid q is in
        let high = visit_high sc.spec in_range plans planned.valid t planned.root planned.fits (kid ∷ q) p b.phylum is b.left in
        elim (cases_lt j h) [
          | inl over ↦
              let rise = seat_rises rules in_range plans timed (operator_in t q) (node_at sc.spec t planned.root planned.fits q b.above).low kid b.phylum j h b.arg low over (omega (arith, high, visit)) in
              omega (arith, less, rise)
          | inr under ↦
              let same : h ≡ j = omega (arith, past, under) in
              let seats = ap (seat rules plans (operator_in t q) kid) same in
              omega (arith, less, seats)
        ])
  ]

  -- what stands before a visit of a child comes before it, or an earlier visit of the child gives it
  pub split_before : (kid : ℕ) (q : Place) (j : ℕ) (a : Reference Place) → IsNodeAt t (kid ∷ q) → 1 ≤ j → (b : IsBefore rules plans t q (seat rules plans (operator_in t q) kid j) a) → IsBeside kid q j b.site ⊎ ((h : ℕ) × (h < j) × IsGivenBy rules plans t (kid ∷ q) h a)
  split_before kid q j a is low b = elim (below_or_not b.site.node (kid ∷ q)) [
    | inr out ↦ inl (record { way = b.way; below = b.below; apart = λ w at. out (record { below = w; is = at }); less = b.less })
    | inl in' ↦
        let p = position_of rules plans b.site in
        let h = visit_at rules plans t in'.below (kid ∷ q) p in
        let way : b.way ≡ in'.below ++ kid ∷ [] = one_way b.way (in'.below ++ kid ∷ []) q b.site.node b.below (in'.is ∙ sym (append_assoc in'.below (kid ∷ []) q)) in
        let at : position_at rules plans t b.way q p ≡ seat rules plans (operator_in t q) kid h = ap (λ w. position_at rules plans t w q p) way ∙ position_joins rules plans t in'.below (kid ∷ []) q p in
        let less = b.less in
        inr (h, not_before kid q j h is low (position_at rules plans t in'.below (kid ∷ q) p) refl (omega (arith, at, less)), record { site = b.site; found = b.found; of_visit = record { live = b.live; way = in'.below; below = in'.is; visit = refl } })
  ]

  -- what an earlier visit of the node above gives stands before the visit of the child
  pub given_earlier : (kid : ℕ) (q : Place) (j h : ℕ) (a : Reference Place) → IsNodeAt t q → h < visit_above kid q j → IsGivenBy rules plans t q h a → IsBefore rules plans t q (seat rules plans (operator_in t q) kid j) a
  given_earlier kid q j h a is less given =
      let of = given.of_visit in
      let p = position_at rules plans t of.way q (position_of rules plans given.site) in
      let visit = of.visit in
      record {
        site = given.site;
        found = given.found;
        live = of.live;
        way = of.way;
        below = of.below;
        less = elim (cases_lt p (seat rules plans (operator_in t q) kid j)) [
          | inl under ↦ under
          | inr past ↦ absurd (let rise = visits_rise sc.spec in_range plans planned.valid t planned.root planned.fits q (seat rules plans (operator_in t q) kid j) p is past in omega (arith, rise, visit, less))
        ];
      }

  named_vertex : (i : Site Place) → IsLive rules t i → (o : Occurrence) → Contains i.rule.args o → IsVertex rules (operator_in t i.node) o
  named_vertex i live o names =
      let all = All-contains (λ (r : Rule). All (IsVertex rules r.op) r.args) rules.rules i.rule in_range.equations.args live.stands in
      subst (λ p. IsVertex rules p o) (sym (live_op sc.spec t planned.root planned.sound planned.fits i live)) (All-contains (IsVertex rules i.rule.op) i.rule.args o all names)

  -- what an equation outside a node names there is an attribute
  attr_named : (u : Place) → IsNodeAt t u → (i : Site Place) → IsLive rules t i → IsOutside u i.node → (o : Occurrence) → Contains i.rule.args o → (referred net i.node o).node ≡ u → IsAttrAt (rules_of sc.spec) (term_now sc) u (referred net i.node o)
  attr_named u is i live out o names at = by o.at o.slot names at
    where
      by : (k slot : ℕ) → Contains i.rule.args (occurrence k slot) → (referred (net_of (term_now sc)) i.node (occurrence k slot)).node ≡ u → IsAttrAt (rules_of sc.spec) (term_now sc) u (referred (net_of (term_now sc)) i.node (occurrence k slot))
      by zero slot names at = absurd (out [] at)
      by (suc k) slot names at =
          let vertex = named_vertex i live (occurrence (suc k) slot) names in
          let has = some_attr rules (phylum_there rules.ops (operator_in t i.node) (suc k)) slot (omega (arith, vertex)) in
          let b = below_at sc.spec t planned.root planned.fits k i.node (subst (IsNodeAt t) (sym at) is) in
          let same : b.phylum ≡ has.phylum = same_Some b.phylum has.phylum (sym b.arg ∙ has.is) in
          record { node = at; phylum = has.phylum; left = ap (λ n. phylum_of sc.spec.ops (operator_in t n)) (sym at) ∙ b.left ∙ ap (λ n. Some n) same; attr = has.attr }

  -- what a visit gives at its node is a synthesized attribute of the visit, or a local
  pub given_slot : (u : Place) (k : ℕ) (a : Reference Place) → (at : IsAttrAt (rules_of sc.spec) (term_now sc) u a) → IsGivenBy rules plans t u k a → (is_inherited rules.phyla at.phylum a.slot ≡ false) × (slice_index (row_at plans.visits at.phylum) a.slot ≡ k)
  given_slot u k a at given = by (is_inherited rules.phyla at.phylum a.slot) refl
    where
      is : IsNodeAt (term_now sc) u
      is = node_on_way (term_now sc) given.of_visit.way u (subst (IsNodeAt (term_now sc)) given.of_visit.below (live_node sc.spec (term_now sc) planned.root planned.sound planned.fits given.site given.of_visit.live))

      left : phylum_at (rules_of sc.spec).ops (label_of (sub (term_now sc) u)) ≡ Some at.phylum
      left = ap (phylum_at sc.spec.ops) is ∙ at.left

      by : (b : Bool) → is_inherited (rules_of sc.spec).phyla at.phylum a.slot ≡ b → (is_inherited (rules_of sc.spec).phyla at.phylum a.slot ≡ false) × (slice_index (row_at plans.visits at.phylum) a.slot ≡ k)
      by true inherits = absurd (taken_not_given rules plans t u (slice_index (row_at plans.visits at.phylum) a.slot) k a (record { node = at.node; phylum = at.phylum; left = left; inherited = inherits; visit = omega arith }) given)
      by false inherits =
          let no = ap (λ n. is_inherited_at rules net (record { node = n; slot = a.slot })) at.node ∙ inherited_at rules t u at.phylum a.slot left ∙ inherits in
          let own : site_at rules.rules net a.node (occurrence 0 a.slot) ≡ Some given.site = sym (ap (λ b. cond b (site_above rules.rules net a.slot (net.up a.node)) (site_at rules.rules net a.node (occurrence 0 a.slot))) no) ∙ given.found in
          let found = site_found rules t a.node (occurrence 0 a.slot) given.site own in
          let way : given.of_visit.way ≡ [] = one_way given.of_visit.way [] u given.site.node given.of_visit.below (found.node ∙ at.node) in
          let op : given.site.rule.op ≡ operator_in t u = sym (live_op sc.spec t planned.root planned.sound planned.fits given.site given.of_visit.live) ∙ ap (operator_in t) (found.node ∙ at.node) in
          let position : position_of rules plans given.site ≡ position_in rules plans (operator_in t u) (occurrence 0 a.slot) = ap (λ p. position_in rules plans p given.site.rule.target) op ∙ ap (position_in rules plans (operator_in t u)) found.rule.target in
          let own_visit = belongs_itself rules in_range plans timed (operator_in t u) (node_at sc.spec t planned.root planned.fits u is).low at.phylum a.slot at.left at.attr inherits in
          (inherits, sym own_visit ∙ sym (ap (belongs rules plans (operator_in t u)) position) ∙ sym (ap (λ w. visit_at rules plans t w u (position_of rules plans given.site)) way) ∙ given.of_visit.visit)

  -- where the root takes nothing
  module _ (free : (j : ℕ) (a : Reference Place) → IsTaken rules plans t [] j a → ⊥) where
    -- what a visit takes comes before it
    pub taken_early : (u : Place) (j : ℕ) (a : Reference Place) → IsNodeAt t u → IsTaken rules plans t u j a → (i : Site Place) × (site_of rules net a ≡ Some i) × IsEarly u j i
    taken_early [] j a is take = absurd (free j a take)
    taken_early (kid ∷ q) j a is take =
        let b = taken_before sc.spec plans t planned kid q j a is take in (
          b.site,
          b.found,
          inl (record {
            way = b.way;
            below = b.below;
            apart = λ w at. taken_not_given rules plans t (kid ∷ q) j (visit_at rules plans t w (kid ∷ q) (position_of rules plans b.site)) a take
                (record { site = b.site; found = b.found; of_visit = record { live = b.live; way = w; below = at; visit = refl } });
            less = b.less;
          }),
        )

    -- what comes before a visit names what does, or what an earlier visit gives
    named_early : (u : Place) (j : ℕ) → IsNodeAt t u → 1 ≤ j → (i : Site Place) → IsLive rules t i → IsEarly u j i → (o : Occurrence) → Contains i.rule.args o
        → IsLeafSlot t (referred net i.node o) ⊎ ((k : Site Place) × (site_of rules net (referred net i.node o) ≡ Some k) × IsEarly u j k) ⊎ ((h : ℕ) × (h < j) × IsGivenBy rules plans t u h (referred net i.node o))
    named_early [] j is low i live early o names = absurd early
    named_early (kid ∷ q) j is low i live (inr early) o names =
        let up = above kid q is in
        let first = visit_low sc.spec in_range plans planned.valid t planned.root planned.fits q (seat rules plans (operator_in t q) kid j) up in
        elim (named_early q (visit_above kid q j) up first i live early o names) [
          | inl leaf ↦ inl leaf
          | inr (inl next) ↦ inr (inl (next.0, next.1, inr next.2))
          | inr (inr passed) ↦
              let b = given_earlier kid q j passed.0 (referred net i.node o) up passed.1 passed.2 in
              elim (split_before kid q j (referred net i.node o) is low b) [
                | inl beside ↦ inr (inl (b.site, b.found, inl beside))
                | inr given ↦ inr (inr given)
              ]
        ]
    named_early (kid ∷ q) j is low i live (inl beside) o names =
        let up = above kid q is in
        let p = position_of rules plans i in
        let a = referred net i.node o in
        let here : IsNodeAt t (beside.way ++ q) = subst (IsNodeAt t) beside.below (live_node sc.spec t planned.root planned.sound planned.fits i live) in
        let there = subst (λ n. IsNamed rules plans t n (belongs rules plans (operator_in t n) p) p a) beside.below (named.named sc.spec plans t planned i live o names) in
        let less = beside.less in
        elim (named.named_on_way sc.spec plans t planned beside.way q p a here there) [
          | named.leaf l ↦ inl l
          | named.taken x ↦
              let rise = visits_rise sc.spec in_range plans planned.valid t planned.root planned.fits q (position_at rules plans t beside.way q p) (seat rules plans (operator_in t q) kid j) up (omega (arith, less)) in
              let v = x.visit in
              let e = taken_early q (visit_above kid q j) a up (record { node = x.node; phylum = x.phylum; left = x.left; inherited = x.inherited; visit = omega (arith, v, rise) }) in
              inr (inl (e.0, e.1, inr e.2))
          | named.before y ↦
              let l = y.less in
              let b : IsBefore rules plans t q (seat rules plans (operator_in t q) kid j) a = record { site = y.site; found = y.found; live = y.live; way = y.way; below = y.below; less = omega (arith, l, less) } in
              elim (split_before kid q j a is low b) [
                | inl next ↦ inr (inl (b.site, b.found, inl next))
                | inr given ↦ inr (inr given)
              ]
        ]

    -- a node at the place of the exchange or above it
    module _ (u : Place) (z : List ℕ) (over : sc.place ≡ z ++ u) (is : IsNodeAt t u) where
      far_of : (i : Site Place) → IsOutside u i.node → IsOutside sc.place i.node
      far_of i out w at = out (w ++ z) (at ∙ ap (λ v. w ++ v) over ∙ sym (append_assoc w z u))

      crossed : (i : Site Place) (o : Occurrence) → IsOutside u i.node → (x : List ℕ) → (referred net i.node o).node ≡ x ++ u → (referred net i.node o).node ≡ u
      crossed i o out x at = crossing u i.node (referred net i.node o).node out (named_at t i.node o) x at

      leaf_stays : (i : Site Place) (o : Occurrence) → IsOutside u i.node → IsLeafSlot t (referred net i.node o) → IsSame (referred net i.node o)
      leaf_stays i o out leaf = leaf_same sc.spec plans sc.was sc.part sc.place was_planned planned (referred net i.node o) leaf (λ w at. (
          let same = crossed i o out (w ++ z) (at ∙ ap (λ v. w ++ v) over ∙ sym (append_assoc w z u)) in
          not_held (operator_in t u) leaf.phylum leaf.value (sym leaf.label ∙ ap (λ n. label_of (sub t n)) same ∙ is)))

      given_crossed : (i : Site Place) → IsLive rules t i → (o : Occurrence) → Contains i.rule.args o → (h : ℕ) → IsOutside u i.node → IsGivenBy rules plans t u h (referred net i.node o) → IsAttrAt (rules_of sc.spec) (term_now sc) u (referred net i.node o)
      given_crossed i live o names h out given = let b = given_below rules plans t u h (referred net i.node o) given in attr_named u is i live out o names (crossed i o out b.0 b.1)

      -- where the earlier visits give the values of before, so does what comes before a visit
      module _ (j : ℕ) (low : 1 ≤ j) (quiet : (a : Reference Place) (h : ℕ) → h < j → IsAttrAt (rules_of sc.spec) (term_now sc) u a → IsGivenBy rules plans t u h a → IsSame a) where
        early_closed : IsClosed sc.spec sc.was sc.part sc.place (IsEarly u j)
        early_closed i live early o names =
            let out = early_outside u j i early in
            elim (named_early u j is low i live early o names) [
              | inl leaf ↦ inl (leaf_stays i o out leaf)
              | inr (inl next) ↦ inr next
              | inr (inr passed) ↦ inl (quiet (referred net i.node o) passed.0 passed.1 (given_crossed i live o names passed.0 out passed.2) passed.2)
            ]

        pub early_clean : (i : Site Place) → IsLive rules t i → IsEarly u j i → Changed i → ⊥
        early_clean = clean (IsEarly u j) (λ i e. far_of i (early_outside u j i e)) early_closed

        pub early_same : (i : Site Place) → IsLive rules t i → IsEarly u j i → IsSame (bearer t i)
        early_same = same (IsEarly u j) (λ i e. far_of i (early_outside u j i e)) early_closed

      -- and where all visits do, so does every equation outside the node
      module _ (quiet : (a : Reference Place) (h : ℕ) → IsAttrAt (rules_of sc.spec) (term_now sc) u a → IsGivenBy rules plans t u h a → IsSame a) where
        abbrev IsFar : Site Place → Type 0
        IsFar i = IsOutside u i.node

        outer_closed : IsClosed sc.spec sc.was sc.part sc.place IsFar
        outer_closed i live out o names =
            let a = referred net i.node o in
            let of = visit_some rules plans t [] i.node i live (sym (append-nil i.node)) in
            elim (closed sc.spec plans t planned [] of.0 i of.1 o names) [
              | inl leaf ↦ inl (leaf_stays i o out leaf)
              | inr (inl take) ↦ absurd (free of.0 a take)
              | inr (inr gives) ↦
                  let g = gives.2 in
                  elim (below_or_not g.site.node u) [
                    | inr apart ↦ inr (g.site, g.found, λ w at. apart (record { below = w; is = at }))
                    | inl below ↦
                        let v = visit_some rules plans t u below.below g.site g.of_visit.live below.is in
                        let given : IsGivenBy rules plans t u v.0 a = record { site = g.site; found = g.found; of_visit = v.1 } in
                        inl (quiet a v.0 (given_crossed i live o names v.0 out given) given)
                  ]
            ]

        pub outer_clean : (i : Site Place) → IsLive rules t i → IsOutside u i.node → Changed i → ⊥
        outer_clean = clean IsFar far_of outer_closed

        outer_same : (i : Site Place) → IsLive rules t i → IsOutside u i.node → IsSame (bearer t i)
        outer_same = same IsFar far_of outer_closed

        -- and every reference outside it
        pub ref_same : (a : Reference Place) → IsOutside u a.node → IsSame a
        ref_same a out = by (site_of rules net a) refl
          where
            by : (o : Option (Site Place)) → site_of (rules_of sc.spec) (net_of (term_now sc)) a ≡ o → IsSame a
            by None none = no_equation a (λ w at. out (w ++ z) (at ∙ ap (λ v. w ++ v) over ∙ sym (append_assoc w z u))) none
            by (Some i) found =
                let live = found_live rules t a i found in
                subst IsSame (found_bears rules t a i found) (outer_same i live (λ w at.
                let v = visit_some rules plans t u w i live at in
                let b = given_below rules plans t u v.0 a (record { site = i; found = found; of_visit = v.1 }) in
                out b.0 b.1))

        -- and its own attributes
        pub own_same : (a : Reference Place) → IsAttrAt rules t u a → IsSame a
        own_same a at = by (is_inherited rules.phyla at.phylum a.slot) refl
          where
            left : phylum_at (rules_of sc.spec).ops (label_of (sub (term_now sc) u)) ≡ Some at.phylum
            left = ap (phylum_at sc.spec.ops) is ∙ at.left

            own_ref : record { node = u; slot = a.slot } ≡ a
            own_ref = λ i. record { node = sym at.node i; slot = a.slot }

            by : (b : Bool) → is_inherited (rules_of sc.spec).phyla at.phylum a.slot ≡ b → IsSame a
            by true inherits =
                let e = taken_early u (slice_index (row_at plans.visits at.phylum) a.slot) a is (record { node = at.node; phylum = at.phylum; left = left; inherited = inherits; visit = omega arith }) in
                let out = early_outside u (slice_index (row_at plans.visits at.phylum) a.slot) e.0 e.2 in
                subst IsSame (found_bears rules t a e.0 e.1) (outer_same e.0 (found_live rules t a e.0 e.1) out)
            by false inherits =
                let p = operator_in t u in
                let vertex = attr_vertex rules p 0 at.phylum a.slot at.left at.attr in
                let owed : is_owed rules p 0 a.slot ≡ true = ap not (ap (λ o. unwrap_or (option_map (λ X. is_inherited rules.phyla X a.slot) o) false) at.left ∙ inherits) in
                let own = owed_site sc.spec t planned.root planned.sound planned.fits u (occurrence 0 a.slot) is vertex owed in
                let v = visit_some rules plans t u [] (record { node = u; rule = own.rule }) own.live refl in
                quiet a v.0 at (record { site = record { node = u; rule = own.rule }; found = ap (site_of rules net) (sym own_ref) ∙ own.found; of_visit = v.1 })
