-- The steps of a visit, one after another.
use Rattle.std.specs.Prelude.{◌≡◌, ◌⊎◌, refl, ℕ, suc, ◌+◌, true, List, [], ◌∷◌, ◌++◌, length, cond, Result, Ok, Err, None, Some, slice_get}
use Rattle.std.proofs.Common.{sym, ap, ◌∙◌, subst, inl, inr, arith}
use Rattle.std.proofs.lemmas.List.{length-append}
use Rattle.std.proofs.lemmas.Option.{none-some, same_Some}
use Rattle.sg_kinds.proofs.Elementary.{option_map_some}
use Rattle.sg_kinds.specs.Terms.{Term}
use Rattle.sg_kinds.specs.Places.{Place, sub}
use Rattle.sg_kinds.specs.Nets.{Reference, Operation, label_of, net_of, referred}
use Rattle.sg_kinds.specs.Instances.{Site, is_inherited_at, site_above, site_at, site_of, rule_under}
use Rattle.sg_orders.specs.Keys.{operator_in}
use Rattle.sg_kinds.specs.Specification.{rules_of}
use Rattle.sg_kinds.specs.ValidPlans.{AreValid}
use Rattle.sg_kinds.specs.declared.plans.Plans.{Plans}
use Rattle.sg_kinds.specs.declared.plans.PlanStep.{PlanStep}
use Rattle.sg_kinds.specs.declared.plans.PlanStep.TheVariants.{Eval, Visit}
use Rattle.sg_kinds.specs.declared.spec.Rule.{Rule}
use Rattle.sg_kinds.specs.declared.spec.Rules.{Rules}
use Rattle.sg_kinds.specs.declared.spec.Spec.{Spec}
use Rattle.sg_eval.specs.declared.journal.Instance.{Instance}
use Rattle.sg_forest.specs.declared.node_id.NodeId.{NodeId}
use Rattle.sg_forest.specs.Trees.{Climbs}
use Rattle.sg_groves.specs.Grove.{Grove, nodes, IsGrove}
use Rattle.sg_groves.specs.Holds.{IsPlaced}
use Rattle.sg_groves.specs.IsRight.{IsRightAt}
use Rattle.sg_dependencies.specs.Vertices.{IsVertex}
use Rattle.sg_plans.specs.Planned.{IsPlanned}
use Rattle.sg_plans.specs.Segments.{HasVisit, IsGivenBy, IsTaken, IsOfVisit, IsLeafSlot}
use Rattle.sg_plans.specs.Stepping.{IsGivenBefore, IsOfStep, IsReady, leaf, taken, earlier, before, steps_of}
use Rattle.sg_plans.proofs.Bearers as bearers
use Rattle.sg_plans.proofs.Ways.{one_visit}
use Rattle.sg_plans.proofs.Visiting as visiting
use Rattle.sg_terms.specs.Found.{op_at}
use Rattle.sg_attrib.specs.Visited as visited
use Rattle.sg_attrib.specs.Visited.{IsKnown, IsGiven, IsNeeded, IsStepGiven, IsSlotOf, IsVisited, Gives}
use Rattle.sg_attrib.proofs.Placed.{Sets, placed_still}
use Rattle.sg_attrib.proofs.Composed.{IsWithin, gives_twice, gives_again, gives_nothing}
use Rattle.sg_attrib.proofs.Nodes.{not_held, op_in, label_op, planned, has_visit}
use Rattle.sg_attrib.proofs.Evaluated.{argument_vertex}
use Rattle.sg_attrib.proofs.Leaves.{leaf_right}

-- what the first m steps of visit k give
abbrev pub IsBefore : Rules → Plans → ℕ → ℕ → Sets
IsBefore rules plans k m t u a = IsGivenBefore rules plans t u k m a

not_longer : (w v : List ℕ) (l : ℕ) → w ≡ v ++ l ∷ w → ⊥
not_longer w v l e = omega (arith, ap length e, length-append v (l ∷ w))

-- what a visit takes is given above the node
pub taken_not_given : (rules : Rules) (plans : Plans) (t : Term) (u : Place) (k j : ℕ) (a : Reference Place) → IsTaken rules plans t u k a → IsGivenBy rules plans t u j a → ⊥
taken_not_given rules plans t u k j a take given = by u a.slot inherited site given.of_visit.way given.of_visit.below
  where
    inherited : is_inherited_at rules (net_of t) (record { node = u; slot = a.slot }) ≡ true
    inherited = bearers.inherited_at rules t u take.phylum a.slot take.left ∙ take.inherited

    site : site_of rules (net_of t) (record { node = u; slot = a.slot }) ≡ Some given.site
    site = ap (λ v. site_of rules (net_of t) (record { node = v; slot = a.slot })) (sym take.node) ∙ given.found

    by : (v : Place) (slot : ℕ) → is_inherited_at rules (net_of t) (record { node = v; slot = slot }) ≡ true → site_of rules (net_of t) (record { node = v; slot = slot }) ≡ Some given.site
        → (way : List ℕ) → given.site.node ≡ way ++ v → ⊥
    by [] slot true_is found way below = none-some given.site (sym (ap (λ b. cond b (site_above rules.rules (net_of t) slot None) (site_at rules.rules (net_of t) [] (record { at = 0; slot = slot }))) true_is) ∙ found)
    by (l ∷ w) slot true_is found way below =
        let up : site_at rules.rules (net_of t) w (record { at = suc l; slot = slot }) ≡ Some given.site =
        sym (ap (λ b. cond b (site_above rules.rules (net_of t) slot (Some (w, l))) (site_at rules.rules (net_of t) (l ∷ w) (record { at = 0; slot = slot }))) true_is) ∙ found in
        let at = option_map_some (λ (r : Rule). record { node = w; rule = r }) (rule_under rules.rules ((net_of t).label w) (record { at = suc l; slot = slot })) given.site up in
        let node : w ≡ given.site.node = ap (λ (i : Site Place). i.node) at.2 in
        not_longer w way l (node ∙ below)

-- what is known as a visit begins is not given in it
pub known_not_given : (rules : Rules) (plans : Plans) (k : ℕ) (t : Term) (u : Place) (a : Reference Place) → IsKnown rules plans k t u a → IsGivenBy rules plans t u k a → ⊥
known_not_given rules plans k t u a (visited.taken take) given = taken_not_given rules plans t u k k a take given
known_not_given rules plans k t u a (visited.earlier j less other) given =
    let same : other.site ≡ given.site = same_Some other.site given.site (sym other.found ∙ given.found) in
    let one = one_visit rules plans t u j k given.site (subst (IsOfVisit rules plans t u j) same other.of_visit) given.of_visit in
    omega (arith, less, one)

module _ {A B D E : Type 0} (initial mid new : Grove) (was_grove : IsGrove initial) (is_grove : IsGrove mid) (plans : Plans) (valid : AreValid (rules_of initial.spec) plans) (was between now : List Instance) (n : NodeId) (k m : ℕ) (s : PlanStep)
    (v : IsVisited plans initial n k) (at : slice_get (steps_of plans v.op k) m ≡ Some s) (x : A) (r : Result B E)
    (first : Gives {A = A} {E = D} (IsKnown (rules_of initial.spec) plans k) (IsBefore (rules_of initial.spec) plans k m) initial mid was between n (Ok x))
    (second : Gives (IsNeeded (rules_of mid.spec) plans s) (IsStepGiven (rules_of mid.spec) plans s) mid new between now n r) where
  abbrev rules : Rules
  rules = rules_of initial.spec

  second_here : Gives (IsNeeded rules plans s) (IsStepGiven rules plans s) mid new between now n r
  second_here = subst (λ (sp : Spec). Gives (IsNeeded (rules_of sp) plans s) (IsStepGiven (rules_of sp) plans s) mid new between now n r) first.frame.spec second

  module _ (root : NodeId) (t : Term) (u : Place) (placed : IsPlaced initial root t u n) where
    plan : IsPlanned initial.spec plans t
    plan = planned initial was_grove plans valid root t placed.top placed.holds

    has : HasVisit rules plans t u k
    has = has_visit initial was_grove plans n root k t u placed v

    step_is : slice_get (steps_of plans (operator_in t u) k) m ≡ Some s
    step_is = ap (λ op. slice_get (steps_of plans op k) m) (op_in initial was_grove n root t u placed v.op v.is) ∙ at

    apart : (a : Reference Place) → IsGivenBefore rules plans t u k m a → IsStepGiven rules plans s t u a → ⊥
    apart a one two =
        let same : one.site ≡ two.site = same_Some one.site two.site (sym one.found ∙ two.found) in
        let place = visiting.step_once initial.spec plans t plan u k one.place m one.step s has one.at step_is one.site one.of_step (subst (IsOfStep rules plans t u s) (sym same) two.of_step) in
        let low = one.low in
        omega (arith, place, low)

    mid_placed : IsPlaced mid root t u n
    mid_placed = placed_still initial mid (IsSlotOf (IsBefore rules plans k m) initial n) first.frame was_grove n root t u placed

    mid_plan : IsPlanned mid.spec plans t
    mid_plan = subst (λ (sp : Spec). IsPlanned sp plans t) (sym first.frame.spec) plan

    mid_op : (op : ℕ) → label_of (sub t u) ≡ Operation op → op_at mid n ≡ Some op
    mid_op op label = label_op mid is_grove n root t u mid_placed op label

    -- what is there as the step begins
    from_ready : (a : Reference Place) (c : NodeId) → IsReady rules plans t u k m a → (IsLeafSlot t a → IsRightAt mid t a.node c a.slot) → IsRightAt mid t a.node c a.slot ⊎ (IsKnown rules plans k t u a ⊎ IsGivenBefore rules plans t u k m a)
    from_ready a c (leaf is) right = inl (right is)
    from_ready a c (taken is) right = inr (inl (visited.taken is))
    from_ready a c (earlier i less is) right = inr (inl (visited.earlier i less is))
    from_ready a c (before is) right = inr (inr is)

    ready_by : (z : PlanStep) → z ≡ s → (a : Reference Place) (c : NodeId) → Climbs (nodes mid) a.node c root → IsNeeded rules plans z t u a → IsRightAt mid t a.node c a.slot ⊎ (IsKnown rules plans k t u a ⊎ IsGivenBefore rules plans t u k m a)
    ready_by (Eval e) is a c climbs want =
        let here = step_is ∙ ap (λ z. Some z) (sym is) in
        let o = want.occurrence in
        let ref : Reference Place = referred (net_of t) u o in
        let ready : IsReady rules plans t u k m ref = visiting.ready_argument initial.spec plans t plan u k m e has here want.rule o want.at want.names in
        let equation = visiting.step_equation initial.spec plans t plan u k m e has here in
        let same : equation.0 ≡ want.rule = same_Some equation.0 want.rule (sym equation.1 ∙ want.at) in
        let op : want.rule.op ≡ operator_in t u = ap (λ (q : Rule). q.op) (sym same) ∙ equation.2 in
        let vertex : IsVertex (rules_of mid.spec) want.rule.op o = subst (λ (sp : Spec). IsVertex (rules_of sp) want.rule.op o) (sym first.frame.spec) (argument_vertex initial was_grove e want.rule want.at o want.names) in
        let at_mid = mid_op want.rule.op (has.node ∙ ap (λ q. Operation q) (sym op)) in
        let all : (b : Reference Place) → ref ≡ b → Climbs (nodes mid) b.node c root → IsReady rules plans t u k m b → IsRightAt mid t b.node c b.slot ⊎ (IsKnown rules plans k t u b ⊎ IsGivenBefore rules plans t u k m b) =
        λ b e up is_ready. from_ready b c is_ready (λ lf.
        subst (λ z. Climbs (nodes mid) z.node c root → IsLeafSlot t z → IsRightAt mid t z.node c z.slot) e (leaf_right mid is_grove plans n root t u want.rule.op o mid_plan mid_placed at_mid vertex c) up lf) in
        all a (sym want.is) climbs (subst (IsReady rules plans t u k m) (sym want.is) ready)
    ready_by (Visit kid j) is a c climbs want =
        let here = step_is ∙ ap (λ z. Some z) (sym is) in
        let child = visiting.step_child initial.spec plans t plan u k m kid j has here in
        by want here child.node
      where
        by : IsKnown rules plans j t (kid ∷ u) a → slice_get (steps_of plans (operator_in t u) k) m ≡ Some (Visit kid j) → label_of (sub t (kid ∷ u)) ≡ Operation (operator_in t (kid ∷ u))
            → IsRightAt mid t a.node c a.slot ⊎ (IsKnown rules plans k t u a ⊎ IsGivenBefore rules plans t u k m a)
        by (visited.taken take) here node =
            from_ready a c (visiting.ready_taken initial.spec plans t plan u k m kid j has here a take)
            (λ lf. absurd (not_held (operator_in t (kid ∷ u)) lf.phylum lf.value (sym lf.label ∙ ap (λ w. label_of (sub t w)) take.node ∙ node)))
        by (visited.earlier h less given) here node =
            from_ready a c (visiting.ready_given initial.spec plans t plan u k m kid j h has here less a given)
            (λ lf. absurd (bearers.bearer_no_leaf initial.spec t plan.root plan.sound plan.fits given.site given.of_visit.live lf.phylum lf.value
            (ap (λ (b : Reference Place). label_of (sub t b.node)) (bearers.found_bears rules t a given.site given.found) ∙ lf.label)))

    in_before : (a : Reference Place) → IsGivenBefore rules plans t u k m a → IsGivenBefore rules plans t u k (m + 1) a
    in_before a is = let low = is.low in record { place = is.place; low = omega (arith, low); step = is.step; at = is.at; site = is.site; found = is.found; of_step = is.of_step }

    in_step : (a : Reference Place) → IsStepGiven rules plans s t u a → IsGivenBefore rules plans t u k (m + 1) a
    in_step a is = record { place = m; low = omega arith; step = s; at = step_is; site = is.site; found = is.found; of_step = is.of_step }

    split : (a : Reference Place) → IsGivenBefore rules plans t u k (m + 1) a → IsGivenBefore rules plans t u k m a ⊎ IsStepGiven rules plans s t u a
    split a is = elim (visiting.gives_next rules plans t u k m s step_is a is) [
      | inl one ↦ inl one
      | inr two ↦ inr (record { site = two.0; found = two.1; of_step = two.2 })
    ]

  pub next_step : Gives (IsKnown rules plans k) (IsBefore rules plans k (m + 1)) initial new was now n r
  next_step =
      gives_twice (IsKnown rules plans k) (IsNeeded rules plans s) (IsBefore rules plans k m) (IsStepGiven rules plans s) (IsBefore rules plans k (m + 1)) initial mid new was between now n x r was_grove is_grove first second_here
      apart
      (λ root t u placed a known given. known_not_given rules plans k t u a known (visiting.gives_only initial.spec plans t (plan root t u placed) u k m (has root t u placed) a given))
      (λ root t u placed a c climbs want. ready_by root t u placed s refl a c climbs want)
      in_before
      in_step
      split

-- all steps of a visit give what the visit gives
module _ (old new : Grove) (is_grove : IsGrove old) (plans : Plans) (valid : AreValid (rules_of old.spec) plans) (was now : List Instance) (n : NodeId) (k : ℕ) (v : IsVisited plans old n k) where
  within : (m : ℕ) → IsWithin old n (IsBefore (rules_of old.spec) plans k m) (IsGiven (rules_of old.spec) plans k)
  within m root t u placed a given =
      visiting.gives_only old.spec plans t (planned old is_grove plans valid root t placed.top placed.holds) u k m (has_visit old is_grove plans n root k t u placed v) a given

  pub no_steps : {A E : Type 0} (y : A) → Gives {A = A} {E = E} (IsKnown (rules_of old.spec) plans k) (IsBefore (rules_of old.spec) plans k 0) old old was was n (Ok y)
  no_steps y = gives_nothing (IsKnown (rules_of old.spec) plans k) (IsBefore (rules_of old.spec) plans k 0) old was n y (λ root t u placed a given. visiting.gives_nothing (rules_of old.spec) plans t u k a given)

  pub all_steps : {A E : Type 0} (m : ℕ) (y : A) → m ≡ length (steps_of plans v.op k) → Gives {A = A} {E = E} (IsKnown (rules_of old.spec) plans k) (IsBefore (rules_of old.spec) plans k m) old new was now n (Ok y)
      → Gives {A = A} {E = E} (IsKnown (rules_of old.spec) plans k) (IsGiven (rules_of old.spec) plans k) old new was now n (Ok y)
  all_steps m y long gives =
      gives_again (IsKnown (rules_of old.spec) plans k) (IsBefore (rules_of old.spec) plans k m) (IsGiven (rules_of old.spec) plans k) old new was now n (Ok y) (within m)
      (λ root t u placed a given.
      let all = visiting.gives_all old.spec plans t (planned old is_grove plans valid root t placed.top placed.holds) u k a given in
      let same : length (steps_of plans (operator_in t u) k) ≡ m = ap (λ op. length (steps_of plans op k)) (op_in old is_grove n root t u placed v.op v.is) ∙ sym long in
      subst (λ l. IsGivenBefore (rules_of old.spec) plans t u k l a) same all) gives

  pub some_steps : {A E : Type 0} (m : ℕ) (e : E) → Gives {A = A} {E = E} (IsKnown (rules_of old.spec) plans k) (IsBefore (rules_of old.spec) plans k m) old new was now n (Err e)
      → Gives {A = A} {E = E} (IsKnown (rules_of old.spec) plans k) (IsGiven (rules_of old.spec) plans k) old new was now n (Err e)
  some_steps m e gives = gives_again (IsKnown (rules_of old.spec) plans k) (IsBefore (rules_of old.spec) plans k m) (IsGiven (rules_of old.spec) plans k) old new was now n (Err e) (within m) tt gives
