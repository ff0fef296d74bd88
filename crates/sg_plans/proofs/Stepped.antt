-- The steps of a visit: what they evaluate, and what is there as each begins.
use Rattle.std.specs.Prelude.{◌≡◌, ℕ, suc, ◌-◌, ◌<◌, ◌≤◌, List, [], ◌∷◌, ◌++◌, length, Some, slice_get, unwrap_or, MatchOption, Contains}
use Rattle.std.proofs.Common.{refl, sym, ap, ◌∙◌, subst, arith, inl, inr, append_assoc}
use Rattle.std.proofs.lemmas.Bool.{cases_lt, cases_order, false≢true}
use Rattle.std.proofs.lemmas.Option.{none-some, same_Some, slice_get-get_or, slice_get_past, slice_get_within, get_or_from_slice_get}
use Rattle.sg_kinds.specs.declared.plans.PlanStep.{PlanStep}
use Rattle.sg_kinds.specs.declared.plans.PlanStep.TheVariants.{Eval, Visit}
use Rattle.sg_kinds.specs.declared.spec.Spec.{Spec}
use Rattle.sg_kinds.specs.declared.spec.Rules.{Rules}
use Rattle.sg_kinds.specs.declared.spec.Rule.{Rule}
use Rattle.sg_kinds.specs.declared.spec.Occurrence.{Occurrence}
use Rattle.sg_kinds.specs.Terms.{Term}
use Rattle.sg_kinds.specs.Specification.{args_of, phylum_of, rules_of}
use Rattle.sg_kinds.specs.Fits.{Fits}
use Rattle.sg_kinds.specs.Places.{Place, sub}
use Rattle.sg_kinds.specs.Nets.{Net, Reference, Operation, referred, label_of, net_of}
use Rattle.sg_kinds.specs.Instances.{Site}
use Rattle.sg_orders.specs.Keys.{operation, operator_in}
use Rattle.sg_kinds.specs.ValidPlans.{IsStepAt, AreStepsOf}
use Rattle.sg_kinds.specs.declared.plans.Plans.{Plans}
use Rattle.sg_kinds.specs.Visits.{row_at, belongs, seat, position_in, visit_count}
use Rattle.sg_kinds.proofs.Elementary.{slice_get-Contains}
use Rattle.sg_dependencies.specs.Vertices.{AreInRange}
use Rattle.sg_orders.specs.LiveSites.{IsLive}
use Rattle.sg_orders.proofs.StepFacts.{IsVisitAt, eval_at, visit_at, step_of_eval, step_of_visit, one_position}
use Rattle.sg_plans.specs.Planned.{IsPlanned}
use Rattle.sg_plans.specs.Segments as segments
use Rattle.sg_plans.specs.Segments.{position_at, position_of, IsOfVisit, IsGivenBy, IsTaken}
use Rattle.sg_plans.specs.Stepping.{steps_of, IsOfStep, IsReady, leaf, taken, earlier, before}
use Rattle.sg_plans.proofs.Bearers.{ranges, live_node}
use Rattle.sg_plans.proofs.Closed as named
use Rattle.sg_plans.proofs.Closed.{IsBefore, given_from, taken_before, given_before}
use Rattle.sg_plans.proofs.Equations.{no_leaf_operator}
use Rattle.sg_plans.proofs.Nodes.{IsNodeAt, IsNode, leaf_fits, leaf_or_node, node_at, below_at, node_on_way}
use Rattle.sg_plans.proofs.Ways.{position_joins, one_way, visits_rise, visit_low, visit_high}

-- the last step of a way down is its first from above
pub last_of : (k : ℕ) (w : List ℕ) → (v : List ℕ) × (l : ℕ) × (k ∷ w ≡ v ++ l ∷ [])
last_of k [] = ([], k, refl)
last_of k (h ∷ w) = let rest = last_of h w in (k ∷ rest.0, rest.1, ap (λ xs. k ∷ xs) rest.2)

module _ (spec : Spec) (plans : Plans) (t : Term) (planned : IsPlanned spec plans t) where
  abbrev rules : Rules
  rules = rules_of spec

  abbrev net : Net Place
  net = net_of t

  abbrev in_range : AreInRange (rules_of spec)
  in_range = ranges spec t planned.root planned.sound planned.fits

  abbrev node : (u : Place) → IsNodeAt t u → IsNode spec t u
  node u is = node_at spec t planned.root planned.fits u is

  -- a step of visit j of the node at u
  abbrev IsStep : Place → ℕ → ℕ → PlanStep → Type 0
  IsStep u j m s = slice_get (steps_of plans (operator_in t u) j) m ≡ Some s

  pub row_long : (u : Place) (is : IsNodeAt t u) → length (row_at plans.steps (operator_in t u)) ≡ visit_count plans (node u is).phylum
  row_long u is =
      let n = node u is in
      subst (λ o. MatchOption o ⊥ (λ X. length (row_at plans.steps (operator_in t u)) ≡ visit_count plans X)) n.left (planned.valid.steps (operator_in t u) n.low).count

  step_visit : (u : Place) (is : IsNodeAt t u) (j m : ℕ) (s : PlanStep) → IsStep u j m s → j - 1 < visit_count plans (node u is).phylum
  step_visit u is j m s at =
      let rows = row_at plans.steps (operator_in t u) in
      let long = row_long u is in
      elim (cases_lt (j - 1) (length rows)) [
        | inl under ↦ omega (arith, under, long)
        | inr past ↦ absurd (none-some s (sym (ap (λ o. slice_get (unwrap_or o []) m) (slice_get_past rows (j - 1) past)) ∙ at))
      ]

  steps_are : (u : Place) (is : IsNodeAt t u) (j : ℕ) → 1 ≤ j → j - 1 < visit_count plans (node u is).phylum → AreStepsOf rules plans (operator_in t u) j (steps_of plans (operator_in t u) j)
  steps_are u is j low high =
      let p = operator_in t u in
      let long = row_long u is in
      subst (λ k. AreStepsOf rules plans p k (row_at (row_at plans.steps p) (j - 1))) (let e : suc (j - 1) ≡ j = omega (arith, low) in e)
      ((planned.valid.steps p (node u is).low).each (j - 1) (omega (arith, high, long)))

  -- where a step stands
  record IsPlaced (u : Place) (j : ℕ) (s : PlanStep) : Type 0 where
    position : ℕ
    at : IsStepAt rules plans (operator_in t u) s position
    visit : belongs rules plans (operator_in t u) position ≡ j

  placed : (u : Place) (j m : ℕ) (s : PlanStep) → IsNodeAt t u → 1 ≤ j → IsStep u j m s → IsPlaced u j s
  placed u j m s is low at =
      let are = steps_are u is j low (step_visit u is j m s at) in
      let found = (are.members s).0 (slice_get-Contains (steps_of plans (operator_in t u) j) m s at) in
      record { position = found.0; at = found.1; visit = found.2 }

  -- steps stand in the order of their positions
  steps_rise : (u : Place) (j m n : ℕ) (s r : PlanStep) (p q : ℕ) → IsNodeAt t u → 1 ≤ j → IsStep u j m s → IsStep u j n r → IsStepAt rules plans (operator_in t u) s p → IsStepAt rules plans (operator_in t u) r q → m < n → p < q
  steps_rise u j m n s r p q is low at to first second less =
      let steps = steps_of plans (operator_in t u) j in
      let are = steps_are u is j low (step_visit u is j m s at) in
      let rising = are.rising m n s less (slice_get_within steps n r to) in
      let here = get_or_from_slice_get steps m s s at in
      let there = get_or_from_slice_get steps n r s to in
      rising p q (subst (λ x. IsStepAt rules plans (operator_in t u) x p) (sym here) first) (subst (λ x. IsStepAt rules plans (operator_in t u) x q) (sym there) second)

  same_step : (u : Place) (j m n : ℕ) (s r : PlanStep) → IsStep u j m s → IsStep u j n r → m ≡ n → s ≡ r
  same_step u j m n s r at to same = same_Some s r (sym at ∙ ap (slice_get (steps_of plans (operator_in t u) j)) same ∙ to)

  step_before : (u : Place) (j m n : ℕ) (s r : PlanStep) (p q : ℕ) → IsNodeAt t u → 1 ≤ j → IsStep u j m s → IsStep u j n r → IsStepAt rules plans (operator_in t u) s p → IsStepAt rules plans (operator_in t u) r q → p < q → m < n
  step_before u j m n s r p q is low at to first second less = elim (cases_order m n) [
    | inl same ↦ absurd (let e = one_position rules plans (operator_in t u) r p q (subst (λ x. IsStepAt rules plans (operator_in t u) x p) (same_step u j m n s r at to same) first) second in omega (arith, e, less))
    | inr (inl under) ↦ under
    | inr (inr over) ↦ absurd (let more = steps_rise u j n m r s q p is low to at second first over in omega (arith, less, more))
  ]

  step_once : (u : Place) (j m n : ℕ) (s r : PlanStep) (p : ℕ) → IsNodeAt t u → 1 ≤ j → IsStep u j m s → IsStep u j n r → IsStepAt rules plans (operator_in t u) s p → IsStepAt rules plans (operator_in t u) r p → m ≡ n
  step_once u j m n s r p is low at to first second = elim (cases_order m n) [
    | inl same ↦ same
    | inr (inl under) ↦ absurd (let less = steps_rise u j m n s r p p is low at to first second under in omega (arith, less))
    | inr (inr over) ↦ absurd (let less = steps_rise u j n m r s p p is low to at second first over in omega (arith, less))
  ]

  -- the child that a step visits
  pub record IsChild (u : Place) (k i : ℕ) : Type 0 where
    pub is_node : IsNodeAt t (k ∷ u)
    pub phylum : ℕ
    pub arg : slice_get (args_of spec.ops (operator_in t u)) k ≡ Some phylum
    pub left : phylum_of spec.ops (operator_in t (k ∷ u)) ≡ Some phylum
    pub low : 1 ≤ i
    pub high : i ≤ visit_count plans phylum

  child_at : (u : Place) (k i q : ℕ) → IsNodeAt t u → IsVisitAt rules plans (operator_in t u) k i q → IsChild u k i
  child_at u k i q is v =
      let kid = (node u is).kid k v.phylum v.arg in
      elim (leaf_or_node t (k ∷ u) kid.0 kid.1) [
        | inl held ↦ absurd (false≢true (sym v.leaf ∙ leaf_fits spec held.0 held.1 v.phylum (subst (λ s. Fits spec s v.phylum) held.2 kid.2)))
        | inr there ↦ let b = below_at spec t planned.root planned.fits k u there in
            record { is_node = there; phylum = v.phylum; arg = v.arg; left = b.left ∙ sym b.arg ∙ v.arg; low = v.low; high = v.high }
      ]

  pub child : (u : Place) (j m k i : ℕ) → IsNodeAt t u → 1 ≤ j → IsStep u j m (Visit k i) → IsChild u k i
  child u j m k i is low at = let p = placed u j m (Visit k i) is low at in child_at u k i p.position is (visit_at rules plans (operator_in t u) k i p.position p.at)

  -- the equation that a step evaluates
  pub equation : (u : Place) (j m r : ℕ) → IsNodeAt t u → 1 ≤ j → IsStep u j m (Eval r) → (x : Rule) × (slice_get rules.rules r ≡ Some x) × (x.op ≡ operator_in t u)
  equation u j m r is low at = let p = placed u j m (Eval r) is low at in let e = eval_at rules plans (operator_in t u) r p.position p.at in (e.rule, e.at, e.op)

  -- an equation of a step stands at the step's position
  record IsUnder (u : Place) (s : PlanStep) (i : Site Place) : Type 0 where
    live : IsLive rules t i
    way : List ℕ
    below : i.node ≡ way ++ u
    at : IsStepAt rules plans (operator_in t u) s (position_at rules plans t way u (position_of rules plans i))

  under : (u : Place) (s : PlanStep) (q : ℕ) (i : Site Place) → IsNodeAt t u → IsStepAt rules plans (operator_in t u) s q → IsOfStep rules plans t u s i → IsUnder u s i
  under u (Eval r) q i is at of =
      let e = eval_at rules plans (operator_in t u) r q at in
      let same : i.rule.op ≡ operator_in t u = ap (λ (x : Rule). x.op) (same_Some i.rule e.rule (sym of.1 ∙ e.at)) ∙ e.op in
      record {
        live = record { label = ap (λ v. label_of (sub t v)) of.0 ∙ is ∙ ap (λ n. Operation n) (sym same); stands = slice_get-Contains rules.rules r i.rule of.1 };
        way = [];
        below = of.0;
        at = step_of_eval rules plans (operator_in t u) r (position_of rules plans i) i.rule of.1 same (ap (λ p. position_in rules plans p i.rule.target) same);
      }
  under u (Visit k j) q i is at of =
      let v = visit_at rules plans (operator_in t u) k j q at in
      let position : position_at rules plans t (of.way ++ k ∷ []) u (position_of rules plans i) ≡ seat rules plans (operator_in t u) k j =
      position_joins rules plans t of.way (k ∷ []) u (position_of rules plans i) ∙ ap (seat rules plans (operator_in t u) k) of.visit in
      record {
        live = of.live;
        way = of.way ++ k ∷ [];
        below = of.below ∙ sym (append_assoc of.way (k ∷ []) u);
        at = step_of_visit rules plans (operator_in t u) k j (position_at rules plans t (of.way ++ k ∷ []) u (position_of rules plans i)) v.phylum v.arg v.leaf v.low v.high position;
      }

  -- and is of its visit
  pub step_within : (u : Place) (j m : ℕ) (s : PlanStep) (i : Site Place) → IsNodeAt t u → 1 ≤ j → IsStep u j m s → IsOfStep rules plans t u s i → IsOfVisit rules plans t u j i
  step_within u j m s i is low at of =
      let p = placed u j m s is low at in
      let x = under u s p.position i is p.at of in
      record {
        live = x.live;
        way = x.way;
        below = x.below;
        visit = ap (belongs rules plans (operator_in t u)) (one_position rules plans (operator_in t u) s (position_at rules plans t x.way u (position_of rules plans i)) p.position x.at p.at) ∙ p.visit;
      }

  -- an equation is of one step at most
  pub step_alone : (u : Place) (j m n : ℕ) (s r : PlanStep) (i : Site Place) → IsNodeAt t u → 1 ≤ j → IsStep u j m s → IsStep u j n r → IsOfStep rules plans t u s i → IsOfStep rules plans t u r i → m ≡ n
  step_alone u j m n s r i is low at to of and =
      let p = placed u j m s is low at in
      let q = placed u j n r is low to in
      let x = under u s p.position i is p.at of in
      let y = under u r q.position i is q.at and in
      let same = ap (λ w. position_at rules plans t w u (position_of rules plans i)) (one_way x.way y.way u i.node x.below y.below) in
      step_once u j m n s r (position_at rules plans t y.way u (position_of rules plans i)) is low at to (subst (IsStepAt rules plans (operator_in t u) s) same x.at) y.at

  -- the step of an equation of a visit
  pub record IsStepOf (u : Place) (j : ℕ) (i : Site Place) : Type 0 where
    pub place : ℕ
    pub step : PlanStep
    pub at : slice_get (steps_of plans (operator_in t u) j) place ≡ Some step
    pub of_step : IsOfStep rules plans t u step i

  step_found : (u : Place) (j : ℕ) (i : Site Place) (s : PlanStep) (q : ℕ) → IsNodeAt t u → 1 ≤ j → (X : ℕ) → phylum_of spec.ops (operator_in t u) ≡ Some X → j ≤ visit_count plans X → IsStepAt rules plans (operator_in t u) s q → belongs rules plans (operator_in t u) q ≡ j → IsOfStep rules plans t u s i → IsStepOf u j i
  step_found u j i s q is low X left high at visit of =
      let same : X ≡ (node u is).phylum = same_Some X (node u is).phylum (sym left ∙ (node u is).left) in
      let counts = ap (visit_count plans) same in
      let are = steps_are u is j low (omega (arith, low, high, counts)) in
      let has = (are.members s).1 (q, at, visit) in
      record { place = has.0; step = s; at = slice_get-get_or (steps_of plans (operator_in t u) j) has.0 s has.1 ∙ ap (λ x. Some x) has.2; of_step = of }

  step_by : (w : List ℕ) (u : Place) (j : ℕ) (i : Site Place) → IsNodeAt t u → IsLive rules t i → i.node ≡ w ++ u → segments.visit_at rules plans t w u (position_of rules plans i) ≡ j → IsStepOf u j i
  step_by [] u j i is live below visit =
      let q = position_of rules plans i in
      let n = node u is in
      let stands = live.stands in
      let rule : slice_get rules.rules stands.0 ≡ Some i.rule = slice_get-get_or rules.rules stands.0 i.rule stands.1 ∙ ap (λ x. Some x) stands.2 in
      let op : i.rule.op ≡ operator_in t u = sym (ap operation live.label) ∙ ap (operator_in t) below in
      let low = visit_low spec in_range plans planned.valid t planned.root planned.fits u q is in
      let high = visit_high spec in_range plans planned.valid t planned.root planned.fits u q n.phylum is n.left in
      step_found u j i (Eval stands.0) q is (omega (arith, low, visit)) n.phylum n.left (omega (arith, high, visit))
      (step_of_eval rules plans (operator_in t u) stands.0 q i.rule rule op (ap (λ p. position_in rules plans p i.rule.target) op)) visit (below, rule)
  step_by (h ∷ w) u j i is live below visit =
      let split = last_of h w in
      let v = split.0 in
      let k = split.1 in
      let p = position_of rules plans i in
      let q = position_at rules plans t (h ∷ w) u p in
      let n = node u is in
      let down : i.node ≡ v ++ k ∷ u = below ∙ ap (λ xs. xs ++ u) split.2 ∙ append_assoc v (k ∷ []) u in
      let kid : IsNodeAt t (k ∷ u) = node_on_way t v (k ∷ u) (subst (IsNodeAt t) down (live_node spec t planned.root planned.sound planned.fits i live)) in
      let b = below_at spec t planned.root planned.fits k u kid in
      let x = node (k ∷ u) kid in
      let i' = segments.visit_at rules plans t v (k ∷ u) p in
      let position : q ≡ seat rules plans (operator_in t u) k i' = ap (λ xs. position_at rules plans t xs u p) split.2 ∙ position_joins rules plans t v (k ∷ []) u p in
      let low = visit_low spec in_range plans planned.valid t planned.root planned.fits u q is in
      let high = visit_high spec in_range plans planned.valid t planned.root planned.fits u q n.phylum is n.left in
      step_found u j i (Visit k i') q is (omega (arith, low, visit)) n.phylum n.left (omega (arith, high, visit))
      (step_of_visit rules plans (operator_in t u) k i' q b.phylum b.arg (no_leaf_operator spec planned.sound.shapes (operator_in t (k ∷ u)) b.phylum b.left x.low)
      (visit_low spec in_range plans planned.valid t planned.root planned.fits (k ∷ u) (position_at rules plans t v (k ∷ u) p) kid)
      (visit_high spec in_range plans planned.valid t planned.root planned.fits (k ∷ u) (position_at rules plans t v (k ∷ u) p) b.phylum kid b.left) position)
      visit (record { live = live; way = v; below = down; visit = refl })

  -- what visits have an equation at or below a node: the node is one
  pub visited_node : (u : Place) (j : ℕ) (i : Site Place) → IsOfVisit rules plans t u j i → IsNodeAt t u
  visited_node u j i of = node_on_way t of.way u (subst (IsNodeAt t) of.below (live_node spec t planned.root planned.sound planned.fits i of.live))

  pub step_of : (u : Place) (j : ℕ) (i : Site Place) → IsOfVisit rules plans t u j i → IsStepOf u j i
  step_of u j i of = step_by of.way u j i (visited_node u j i of) of.live of.below of.visit

  -- what stands before a step is there as it begins
  ready_before : (u : Place) (j m : ℕ) (s : PlanStep) (q : ℕ) (a : Reference Place) → IsNodeAt t u → 1 ≤ j → IsStep u j m s → IsStepAt rules plans (operator_in t u) s q → IsBefore rules plans t u q a → IsReady rules plans t u j m a
  ready_before u j m s q a is low at stands b =
      let p = placed u j m s is low at in
      let top = position_at rules plans t b.way u (position_of rules plans b.site) in
      let visit : belongs rules plans (operator_in t u) q ≡ j = ap (belongs rules plans (operator_in t u)) (one_position rules plans (operator_in t u) s q p.position stands p.at) ∙ p.visit in
      let l = b.less in
      let rise = visits_rise spec in_range plans planned.valid t planned.root planned.fits u top q is (omega (arith, l)) in
      let given = given_from rules plans t u q a b in
      elim (cases_lt (belongs rules plans (operator_in t u) top) j) [
        | inl less ↦ earlier (belongs rules plans (operator_in t u) top) less given
        | inr past ↦
            let same : belongs rules plans (operator_in t u) top ≡ j = omega (arith, rise, visit, past) in
            let of : IsOfVisit rules plans t u j b.site = record { live = b.live; way = b.way; below = b.below; visit = same } in
            let found = step_of u j b.site of in
            let r = placed u j found.place found.step is low found.at in
            let x = under u found.step r.position b.site is r.at found.of_step in
            let first = subst (λ w. IsStepAt rules plans (operator_in t u) found.step (position_at rules plans t w u (position_of rules plans b.site))) (one_way x.way b.way u b.site.node x.below b.below) x.at in
            before (record { place = found.place; low = step_before u j found.place m found.step s top q is low found.at at first stands b.less; step = found.step; at = found.at; site = b.site; found = b.found; of_step = found.of_step })
      ]

  -- each argument of the equation that a step evaluates
  pub ready_argument : (u : Place) (j m r : ℕ) (x : Rule) (o : Occurrence) → IsNodeAt t u → 1 ≤ j → IsStep u j m (Eval r) → slice_get rules.rules r ≡ Some x → Contains x.args o → IsReady rules plans t u j m (referred net u o)
  ready_argument u j m r x o is low at rule names =
      let i : Site Place = record { node = u; rule = x } in
      let p = placed u j m (Eval r) is low at in
      let z = under u (Eval r) p.position i is p.at (refl, rule) in
      let e = eval_at rules plans (operator_in t u) r p.position p.at in
      let op : x.op ≡ operator_in t u = ap (λ (y : Rule). y.op) (same_Some x e.rule (sym rule ∙ e.at)) ∙ e.op in
      let stands : IsStepAt rules plans (operator_in t u) (Eval r) (position_of rules plans i) = step_of_eval rules plans (operator_in t u) r (position_of rules plans i) x rule op (ap (λ n. position_in rules plans n x.target) op) in
      let visit : belongs rules plans (operator_in t u) (position_of rules plans i) ≡ j =
      ap (belongs rules plans (operator_in t u)) (one_position rules plans (operator_in t u) (Eval r) (position_of rules plans i) p.position stands p.at) ∙ p.visit in
      elim (named.named spec plans t planned i z.live o names) [
        | named.leaf l ↦ leaf l
        | named.taken y ↦ taken (subst (λ n. IsTaken rules plans t u n (referred net u o)) visit y)
        | named.before b ↦ ready_before u j m (Eval r) (position_of rules plans i) (referred net u o) is low at stands b
      ]

  -- what the visit of a child takes
  pub ready_taken : (u : Place) (j m k i : ℕ) (a : Reference Place) → IsNodeAt t u → 1 ≤ j → IsStep u j m (Visit k i) → IsTaken rules plans t (k ∷ u) i a → IsReady rules plans t u j m a
  ready_taken u j m k i a is low at x =
      let p = placed u j m (Visit k i) is low at in
      let v = visit_at rules plans (operator_in t u) k i p.position p.at in
      let c = child_at u k i p.position is v in
      ready_before u j m (Visit k i) (seat rules plans (operator_in t u) k i) a is low at (subst (IsStepAt rules plans (operator_in t u) (Visit k i)) v.position p.at) (taken_before spec plans t planned k u i a c.is_node x)

  -- and what the child's visits before it gave
  pub ready_given : (u : Place) (j m k h i : ℕ) (a : Reference Place) → IsNodeAt t u → 1 ≤ j → IsStep u j m (Visit k i) → h < i → IsGivenBy rules plans t (k ∷ u) h a → IsReady rules plans t u j m a
  ready_given u j m k h i a is low at less given =
      let p = placed u j m (Visit k i) is low at in
      let v = visit_at rules plans (operator_in t u) k i p.position p.at in
      let c = child_at u k i p.position is v in
      ready_before u j m (Visit k i) (seat rules plans (operator_in t u) k i) a is low at (subst (IsStepAt rules plans (operator_in t u) (Visit k i)) v.position p.at) (given_before spec plans t planned k u h i c.phylum a c.is_node c.arg less c.high given)
