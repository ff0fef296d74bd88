-- The visits of a root, one after another, and what they make of its tree.
use Rattle.std.specs.Prelude.{◌≡◌, ◌⊎◌, refl, ℕ, ◌+◌, false, List, [], map, Result, Ok, Err, None, Some, MatchResult, All, Contains}
use Rattle.std.proofs.Common.{sym, ap, ◌∙◌, subst, inl, inr, arith}
use Rattle.std.proofs.lemmas.Bool.{cases_lt}
use Rattle.std.proofs.lemmas.List.{append-nil}
use Rattle.std.proofs.lemmas.List.Elements.{All-contains}
use Rattle.std.proofs.lemmas.Option.{none-some, same_Some}
use Rattle.sg_kinds.specs.Outcome.{outcome}
use Rattle.sg_kinds.specs.Terms.{Term}
use Rattle.sg_kinds.specs.Fits.{Fits}
use Rattle.sg_kinds.specs.Places.{Place, sub}
use Rattle.sg_kinds.specs.Nets as nets
use Rattle.sg_kinds.specs.Nets.{Reference, net_of, referred}
use Rattle.sg_kinds.specs.Instances.{Site, instances}
use Rattle.sg_kinds.specs.FromScratch.{value_in}
use Rattle.sg_orders.specs.Keys.{operator_in}
use Rattle.sg_kinds.specs.Specification.{is_inherited, phylum_of, rules_of}
use Rattle.sg_kinds.specs.ValidPlans.{AreValid}
use Rattle.sg_kinds.specs.Visits.{visit_count}
use Rattle.sg_kinds.specs.declared.plans.Plans.{Plans}
use Rattle.sg_kinds.specs.declared.spec.Occurrence.{Occurrence}
use Rattle.sg_kinds.specs.declared.spec.Rule.{Rule}
use Rattle.sg_kinds.specs.declared.spec.Rules.{Rules}
use Rattle.sg_kinds.specs.declared.spec.Spec.{Spec}
use Rattle.sg_eval.specs.declared.journal.Instance.{Instance}
use Rattle.sg_forest.specs.declared.node_id.NodeId.{NodeId}
use Rattle.sg_forest.specs.Trees.{IsRoot, IsInside, Climbs}
use Rattle.sg_groves.specs.Grove.{Grove, nodes, IsGrove}
use Rattle.sg_groves.specs.Stored.{value_there}
use Rattle.sg_groves.specs.Holds.{Holds, IsPlaced}
use Rattle.sg_groves.specs.IsRight.{IsRight, IsRightAt}
use Rattle.sg_groves.specs.Unchanged.{OnlyStored}
use Rattle.sg_groves.proofs.Frames.{only_more}
use Rattle.sg_groves.proofs.Held.{held_fits, live_holds}
use Rattle.sg_groves.proofs.InstancesOnce.{instance_has, instance_site}
use Rattle.sg_dependencies.specs.Vertices.{IsVertex}
use Rattle.sg_dependencies.proofs.SoundRules.{sound_range}
use Rattle.sg_orders.specs.LiveSites.{IsLive}
use Rattle.sg_plans.specs.Planned.{IsPlanned}
use Rattle.sg_plans.specs.Segments.{IsGivenBy, IsOfVisit, IsTaken, bearer}
use Rattle.sg_plans.proofs.Bearers.{bearer_found}
use Rattle.sg_plans.proofs.Closed.{closed}
use Rattle.sg_plans.proofs.Solved.{root_gives, root_takes_nothing, solved}
use Rattle.sg_plans.proofs.Visiting.{visit_some, visit_there}
use Rattle.sg_plans.proofs.Ways.{one_visit}
use Rattle.sg_terms.specs.Found.{op_at}
use Rattle.sg_terms.specs.Entries.{Gained, GainedAll}
use Rattle.sg_terms.specs.Occurrences.{IsBearer, value_for}
use Rattle.sg_attrib.specs.Visited as visited
use Rattle.sg_attrib.specs.Visited.{AreRight, IsKnown, IsGiven, IsGivenUpTo, IsNothing, IsSlotOf, IsSolved, HasEquation, Gives}
use Rattle.sg_attrib.proofs.Placed.{one_place, placed_still}
use Rattle.sg_attrib.proofs.Listed.{gained_more, gained_same}
use Rattle.sg_attrib.proofs.Composed.{gives_again, gives_nothing, gives_twice}
use Rattle.sg_attrib.proofs.Evaluated.{mapped_alike}
use Rattle.sg_attrib.proofs.Leaves.{leaf_right}
use Rattle.sg_attrib.proofs.Nodes.{op_label, label_op, planned, stands_there, value_is}

-- a root stands at the top of its term
top_placed : (g : Grove) (root : NodeId) (t : Term) → IsRoot (nodes g) root → Holds g root t → IsPlaced g root t [] root
top_placed g root t top holds = record { top = top; holds = holds; way = refl }

-- one visit after those before it
module _ {A B D E : Type 0} (initial mid new : Grove) (was_grove : IsGrove initial) (is_grove : IsGrove mid) (plans : Plans) (valid : AreValid (rules_of initial.spec) plans) (was between now : List Instance) (root : NodeId) (top : IsRoot (nodes initial) root)
    (none : (slot : ℕ) → is_inherited initial.spec.phyla top.node.label.phylum slot ≡ false) (k : ℕ) (x : A) (r : Result B E)
    (first : Gives {A = A} {E = D} IsNothing (IsGivenUpTo (rules_of initial.spec) plans k) initial mid was between root (Ok x))
    (second : Gives (IsKnown (rules_of mid.spec) plans k) (IsGiven (rules_of mid.spec) plans k) mid new between now root r) where
  abbrev rules : Rules
  rules = rules_of initial.spec

  second_here : Gives (IsKnown rules plans k) (IsGiven rules plans k) mid new between now root r
  second_here = subst (λ (sp : Spec). Gives (IsKnown (rules_of sp) plans k) (IsGiven (rules_of sp) plans k) mid new between now root r) first.frame.spec second

  module _ (other : NodeId) (t : Term) (u : Place) (placed : IsPlaced initial other t u root) where
    apart : (a : Reference Place) → IsGivenUpTo rules plans k t u a → IsGivenBy rules plans t u k a → ⊥
    apart a one two =
        let same : one.given.site ≡ two.site = same_Some one.given.site two.site (sym one.given.found ∙ two.found) in
        let visit = one_visit rules plans t u one.visit k two.site (subst (IsOfVisit rules plans t u one.visit) same one.given.of_visit) two.of_visit in
        let less = one.less in
        omega (arith, visit, less)

    -- nothing is taken at a root
    not_taken : (a : Reference Place) → IsTaken rules plans t u k a → ⊥
    not_taken a take =
        let held = live_holds initial was_grove root (record { node = top.node; found = top.found }) in
        let here = one_place initial was_grove root other root t held.0 u [] placed (top_placed initial root held.0 top held.1) in
        let fits : Fits initial.spec t top.node.label.phylum = subst (λ s. Fits initial.spec s top.node.label.phylum) (sym here.2) (held_fits initial was_grove root top.node held.0 top.found held.1) in
        root_takes_nothing initial.spec plans t top.node.label.phylum fits none k a (subst (λ w. IsTaken rules plans t w k a) here.0 take)

    ready : (a : Reference Place) (m : NodeId) → Climbs (nodes mid) a.node m other → IsKnown rules plans k t u a → IsRightAt mid t a.node m a.slot ⊎ (⊥ ⊎ IsGivenUpTo rules plans k t u a)
    ready a m climbs (visited.taken take) = absurd (not_taken a take)
    ready a m climbs (visited.earlier j less given) = inr (inr (record { visit = j; less = less; given = given }))

    in_before : (a : Reference Place) → IsGivenUpTo rules plans k t u a → IsGivenUpTo rules plans (k + 1) t u a
    in_before a is = let less = is.less in record { visit = is.visit; less = omega (arith, less); given = is.given }

    in_visit : (a : Reference Place) → IsGivenBy rules plans t u k a → IsGivenUpTo rules plans (k + 1) t u a
    in_visit a is = record { visit = k; less = omega arith; given = is }

    split : (a : Reference Place) → IsGivenUpTo rules plans (k + 1) t u a → IsGivenUpTo rules plans k t u a ⊎ IsGivenBy rules plans t u k a
    split a is = elim (cases_lt is.visit k) [
      | inl low ↦ inl (record { visit = is.visit; less = low; given = is.given })
      | inr past ↦ let less = is.less in let same : is.visit ≡ k = omega (arith, past, less) in inr (subst (λ j. IsGivenBy rules plans t u j a) same is.given)
    ]

  pub next_visit : Gives IsNothing (IsGivenUpTo rules plans (k + 1)) initial new was now root r
  next_visit =
      gives_twice IsNothing (IsKnown rules plans k) (IsGivenUpTo rules plans k) (IsGiven rules plans k) (IsGivenUpTo rules plans (k + 1)) initial mid new was between now root x r was_grove is_grove first second_here
      apart (λ other t u placed a none_known given. absurd none_known) ready in_before in_visit split

-- before the first visit, and after the last
module _ (old new : Grove) (is_grove : IsGrove old) (plans : Plans) (valid : AreValid (rules_of old.spec) plans) (was now : List Instance) (root : NodeId) where
  abbrev plan : (other : NodeId) (t : Term) (u : Place) → IsPlaced old other t u root → IsPlanned old.spec plans t
  plan other t u placed = planned old is_grove plans valid other t placed.top placed.holds

  pub no_visits : {A E : Type 0} (y : A) → Gives {A = A} {E = E} IsNothing (IsGivenUpTo (rules_of old.spec) plans 1) old old was was root (Ok y)
  no_visits y = gives_nothing IsNothing (IsGivenUpTo (rules_of old.spec) plans 1) old was root y (λ other t u placed a is.
      let less = is.less in
      let has = visit_there old.spec plans t (plan other t u placed) u is.visit is.given.site is.given.of_visit in
      let low = has.low in
      omega (arith, less, low))

  pub some_visits : {A E : Type 0} (k : ℕ) (e : E) → Gives {A = A} {E = E} IsNothing (IsGivenUpTo (rules_of old.spec) plans k) old new was now root (Err e) → Gives {A = A} {E = E} IsNothing (HasEquation (rules_of old.spec)) old new was now root (Err e)
  some_visits k e gives =
      gives_again IsNothing (IsGivenUpTo (rules_of old.spec) plans k) (HasEquation (rules_of old.spec)) old new was now root (Err e) (λ other t u placed a is. (is.given.site, is.given.found)) tt gives

  module _ (top : IsRoot (nodes old) root) where
    at_top : (other : NodeId) (t : Term) (u : Place) → IsPlaced old other t u root → u ≡ []
    at_top other t u placed =
        let held = live_holds old is_grove root (record { node = top.node; found = top.found }) in
        (one_place old is_grove root other root t held.0 u [] placed (top_placed old root held.0 top held.1)).0

    pub all_visits : {A E : Type 0} (op last X : ℕ) (y : A) → op_at old root ≡ Some op → phylum_of old.spec.ops op ≡ Some X → last ≡ visit_count plans X
        → Gives {A = A} {E = E} IsNothing (IsGivenUpTo (rules_of old.spec) plans (last + 1)) old new was now root (Ok y) → Gives {A = A} {E = E} IsNothing (HasEquation (rules_of old.spec)) old new was now root (Ok y)
    all_visits op last X y at left long gives =
        gives_again IsNothing (IsGivenUpTo (rules_of old.spec) plans (last + 1)) (HasEquation (rules_of old.spec)) old new was now root (Ok y) (λ other t u placed a is. (is.given.site, is.given.found))
        (λ other t u placed a is.
        let p = plan other t u placed in
        let given = root_gives old.spec plans t p a is.0 is.1 in
        let has = visit_there old.spec plans t p [] given.0 given.1.site given.1.of_visit in
        let label = label_op old is_grove root other t u placed (operator_in t []) (subst (λ w. nets.label_of (sub t w) ≡ nets.Operation (operator_in t [])) (sym (at_top other t u placed)) has.node) in
        let op_same : operator_in t [] ≡ op = same_Some (operator_in t []) op (sym label ∙ at) in
        let X_same : has.phylum ≡ X = same_Some has.phylum X (sym has.left ∙ ap (phylum_of old.spec.ops) op_same ∙ left) in
        let high = has.high in
        let most : visit_count plans has.phylum ≡ last = ap (visit_count plans) X_same ∙ sym long in
        subst (λ w. IsGivenUpTo (rules_of old.spec) plans (last + 1) t w a) (sym (at_top other t u placed)) (record { visit = given.0; less = omega (arith, high, most); given = given.1 })) gives

    pub leaf_visits : {A E : Type 0} (y : A) → op_at old root ≡ None → Gives {A = A} {E = E} IsNothing (IsGivenUpTo (rules_of old.spec) plans 1) old new was now root (Ok y) → Gives {A = A} {E = E} IsNothing (HasEquation (rules_of old.spec)) old new was now root (Ok y)
    leaf_visits y none gives =
        gives_again IsNothing (IsGivenUpTo (rules_of old.spec) plans 1) (HasEquation (rules_of old.spec)) old new was now root (Ok y) (λ other t u placed a is. (is.given.site, is.given.found))
        (λ other t u placed a is.
        let p = plan other t u placed in
        let given = root_gives old.spec plans t p a is.0 is.1 in
        let has = visit_there old.spec plans t p [] given.0 given.1.site given.1.of_visit in
        let label = label_op old is_grove root other t u placed (operator_in t []) (subst (λ w. nets.label_of (sub t w) ≡ nets.Operation (operator_in t [])) (sym (at_top other t u placed)) has.node) in
        absurd (none-some (operator_in t []) (sym none ∙ label))) gives

-- where each value that has an equation is right, each is the outcome of its equation on the stored values
module _ (g : Grove) (is : IsGrove g) (plans : Plans) (valid : AreValid (rules_of g.spec) plans) (root : NodeId) (t : Term) (top : IsRoot (nodes g) root) (holds : Holds g root t) (none : (slot : ℕ) → is_inherited g.spec.phyla top.node.label.phylum slot ≡ false)
    (right : AreRight g root t (HasEquation (rules_of g.spec) t [])) where
  plan_of : IsPlanned g.spec plans t
  plan_of = planned g is plans valid root t top holds

  fits_of : Fits g.spec t top.node.label.phylum
  fits_of = held_fits g is root top.node t top.found holds

  module _ (n m : NodeId) (slot : ℕ) (r : Rule) (v : Place) (way : Climbs (nodes g) v n root) (at : op_at g n ≡ Some r.op) (stands : Contains g.spec.rules r) (bears : IsBearer g n r m slot) where
    placed_here : IsPlaced g root t v n
    placed_here = record { top = top; holds = holds; way = way }

    abbrev site : Site Place
    site = record { node = v; rule = r }

    live_here : IsLive (rules_of g.spec) t site
    live_here = record { label = op_label g is n root t v placed_here r.op at; stands = stands }

    arg_vertex : (o : Occurrence) → Contains r.args o → IsVertex (rules_of g.spec) r.op o
    arg_vertex o names =
        let range = sound_range g.spec is.sound.counted is.sound.shapes is.sound.rules in
        All-contains (IsVertex (rules_of g.spec) r.op) r.args o (All-contains (λ (q : Rule). All (IsVertex (rules_of g.spec) q.op) q.args) g.spec.rules r range.equations.args stands) names

    arg_right : (o : Occurrence) → Contains r.args o → value_for g n o ≡ value_in g.spec t (referred (net_of t) v o)
    arg_right o names =
        let st = stands_there g is plans n root t v r.op o plan_of placed_here at (arg_vertex o names) in
        let visit = visit_some (rules_of g.spec) plans t [] v site live_here (sym (append-nil v)) in
        value_is g is n st.node o st.there ∙ elim (closed g.spec plans t plan_of [] visit.0 site visit.1 o names) [
          | inl leaf ↦ leaf_right g is plans n root t v r.op o plan_of placed_here at (arg_vertex o names) st.node st.climbs leaf
          | inr (inl take) ↦ absurd (root_takes_nothing g.spec plans t top.node.label.phylum fits_of none visit.0 (referred (net_of t) v o) take)
          | inr (inr given) ↦ right (referred (net_of t) v o) st.node (given.2.site, given.2.found) st.climbs
        ]

    target_vertex : IsVertex (rules_of g.spec) r.op r.target
    target_vertex =
        let range = sound_range g.spec is.sound.counted is.sound.shapes is.sound.rules in
        All-contains (λ (q : Rule). IsVertex (rules_of g.spec) q.op q.target) g.spec.rules r range.equations.targets stands

    value_solved : value_there g m slot ≡ outcome g.spec r (map (value_for g n) r.args)
    value_solved =
        let st = stands_there g is plans n root t v r.op r.target plan_of placed_here at target_vertex in
        let same : m ≡ st.node = same_Some m st.node (sym bears.there ∙ st.there) in
        let found = bearer_found g.spec t plan_of.root plan_of.sound plan_of.fits site live_here in
        ap (λ k. value_there g k slot) same ∙ ap (value_there g st.node) bears.slot_is
        ∙ right (bearer t site) st.node (site, found) st.climbs
        ∙ solved g.spec plans t plan_of site live_here
        ∙ ap (outcome g.spec r) (sym (mapped_alike (value_for g n) (value_in g.spec t) (referred (net_of t) v) r.args arg_right))

  pub all_solved : IsSolved g root
  all_solved = record { each = λ n m slot r inside at stands bears. value_solved n m slot r inside.path inside.climbs at stands bears }

-- what attribution does to a tree
module _ {A E : Type 0} (old new : Grove) (was_grove : IsGrove old) (was now : List Instance) (root : NodeId) (top : IsRoot (nodes old) root) where
  pub only_inside : (r : Result A E) → Gives IsNothing (HasEquation (rules_of old.spec)) old new was now root r → OnlyStored old new (λ m slot. IsInside (nodes old) m root)
  only_inside r gives = only_more old new (IsSlotOf (HasEquation (rules_of old.spec)) old root) (λ m slot. IsInside (nodes old) m root)
      (λ m slot s.
      let held = live_holds old was_grove root (record { node = top.node; found = top.found }) in
      let same = one_place old was_grove root s.root root s.term held.0 s.place [] s.placed (top_placed old root held.0 top held.1) in
      record { path = s.way; climbs = subst (Climbs (nodes old) s.way m) same.1 s.climbs }) gives.frame

  pub noted_all : (r : Result A E) → Gives IsNothing (HasEquation (rules_of old.spec)) old new was now root r → (t : Term) → Holds old root t
      → MatchResult r (λ y. GainedAll old root t (Contains (instances (rules_of old.spec) t)) was now) (λ y. Gained old root t (Contains (instances (rules_of old.spec) t)) was now)
  noted_all r gives t holds = by r (gives.noted root t [] (top_placed old root t top holds))
    where
      to : (a : Reference Place) → HasEquation (rules_of old.spec) t [] a → Contains (instances (rules_of old.spec) t) a
      to a is = instance_has old.spec was_grove.sound t a is.0 is.1

      from : (a : Reference Place) → Contains (instances (rules_of old.spec) t) a → HasEquation (rules_of old.spec) t [] a
      from a has = instance_site old.spec t a has

      by : (x : Result A E) → MatchResult x (λ y. GainedAll old root t (HasEquation (rules_of old.spec) t []) was now) (λ y. Gained old root t (HasEquation (rules_of old.spec) t []) was now)
          → MatchResult x (λ y. GainedAll old root t (Contains (instances (rules_of old.spec) t)) was now) (λ y. Gained old root t (Contains (instances (rules_of old.spec) t)) was now)
      by (Ok y) all = gained_same old root t (HasEquation (rules_of old.spec) t []) (Contains (instances (rules_of old.spec) t)) was now to from all
      by (Err e) some = gained_more old root t (HasEquation (rules_of old.spec) t []) (Contains (instances (rules_of old.spec) t)) was now to some

  module _ (y : A) (gives : Gives {A = A} {E = E} IsNothing (HasEquation (rules_of old.spec)) old new was now root (Ok y)) where
    abbrev held : (t : Term) × Holds old root t
    held = live_holds old was_grove root (record { node = top.node; found = top.found })

    abbrev still : IsPlaced new root held.0 [] root
    still = placed_still old new (IsSlotOf (HasEquation (rules_of old.spec)) old root) gives.frame was_grove root root held.0 [] (top_placed old root held.0 top held.1)

    right_now : AreRight new root held.0 (HasEquation (rules_of new.spec) held.0 [])
    right_now = subst (λ (sp : Spec). AreRight new root held.0 (HasEquation (rules_of sp) held.0 [])) (sym gives.frame.spec)
        (gives.values root held.0 [] (top_placed old root held.0 top held.1) (λ a m none climbs. absurd none))

    pub is_right : IsRight new root
    is_right = record { term = held.0; holds = still.holds; right = λ u m slot i climbs site. right_now (record { node = u; slot = slot }) m (i, site) climbs }

    pub is_solved : IsGrove new → (plans : Plans) → AreValid (rules_of old.spec) plans → ((slot : ℕ) → is_inherited old.spec.phyla top.node.label.phylum slot ≡ false) → IsSolved new root
    is_solved is plans valid none =
        let now_top = still.top in
        let kept = gives.frame.shape.kept root top.node top.found in
        let same : kept.0 ≡ now_top.node = same_Some kept.0 now_top.node (sym kept.1 ∙ now_top.found) in
        let phylum : now_top.node.label.phylum ≡ top.node.label.phylum = ap (λ z. z.label.phylum) (sym same) ∙ ap (λ l. l.phylum) kept.2 in
        all_solved new is plans (subst (λ (sp : Spec). AreValid (rules_of sp) plans) (sym gives.frame.spec) valid) root held.0 now_top still.holds
        (λ slot. ap (λ (sp : Spec). is_inherited sp.phyla now_top.node.label.phylum slot) gives.frame.spec ∙ ap (λ X. is_inherited old.spec.phyla X slot) phylum ∙ none slot)
        right_now
