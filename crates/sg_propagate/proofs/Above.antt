-- Up from a node whose visit gives something new: what the visit of the node above, from behind that step, needs and gives.
use Rattle.std.specs.Prelude.{◌≡◌, ◌⊎◌, ◌↔◌, refl, ℕ, ◌+◌, ◌<◌, ◌≤◌, List, [], ◌∷◌, ◌++◌, slice_get, Contains, Result, Ok, Err, OnOk, Some}
use Rattle.std.proofs.Common.{sym, ap, ◌∙◌, subst, arith, inl, inr, append_assoc}
use Rattle.std.proofs.lemmas.Bool.{cases_lt}
use Rattle.std.proofs.lemmas.Option.{same_Some}
use Rattle.sg_kinds.specs.Terms.{Term}
use Rattle.sg_kinds.specs.Places.{Place}
use Rattle.sg_kinds.specs.Nets.{Reference, net_of}
use Rattle.sg_kinds.specs.Instances.{Site, site_of}
use Rattle.sg_orders.specs.Keys.{operator_in}
use Rattle.sg_kinds.specs.Specification.{rules_of}
use Rattle.sg_kinds.specs.Visits.{belongs, seat}
use Rattle.sg_kinds.specs.declared.plans.Plans.{Plans}
use Rattle.sg_kinds.specs.declared.plans.PlanStep.TheVariants.{Visit}
use Rattle.sg_kinds.specs.declared.spec.Rules.{Rules}
use Rattle.sg_eval.specs.declared.journal.Instance.{Instance}
use Rattle.sg_forest.specs.declared.node_id.NodeId.{NodeId}
use Rattle.sg_forest.specs.Trees.{Climbs}
use Rattle.sg_groves.specs.Grove.{Grove, nodes, IsGrove}
use Rattle.sg_groves.proofs.Ways.{one_node}
use Rattle.sg_plans.specs.Planned.{IsPlanned}
use Rattle.sg_plans.specs.Segments.{HasVisit, IsGivenBy, IsOfVisit, IsTaken, position_at, position_of, visit_at}
use Rattle.sg_plans.specs.Stepping.{IsGivenBefore, IsOfStep, steps_of}
use Rattle.sg_plans.proofs.Bearers.{found_bears, found_live, ranges}
use Rattle.sg_plans.proofs.Closed.{IsBefore}
use Rattle.sg_plans.proofs.Stepped.{last_of}
use Rattle.sg_plans.proofs.Visiting as visiting
use Rattle.sg_plans.proofs.Ways.{visits_rise}
use Rattle.sg_attrib.specs.Visited as visited
use Rattle.sg_attrib.specs.Visited.{HasEquation}
use Rattle.sg_propagate.specs.Worklist.{Worklist}
use Rattle.sg_propagate.specs.Scenes.{Scene, term_now, value_now, value_was, AreFine, AreStale, IsCalm, IsFine, IsStaged}
use Rattle.sg_propagate.specs.Moves.{AreMeant, IsGivenFrom, IsKnownFrom, IsMore, IsOnStage, Moves}
use Rattle.sg_propagate.proofs.Composed.{moves_ok, moves_twice}
use Rattle.sg_propagate.proofs.Early as early
use Rattle.sg_propagate.proofs.Early.{IsAttrAt}
use Rattle.sg_propagate.proofs.Given.{given_below}
use Rattle.sg_propagate.proofs.Seats as seats
use Rattle.sg_propagate.proofs.Staged.{more_twice, on_stage_still, staged_still}
use Rattle.sg_propagate.proofs.Risen.{IsReached, IsUpTo, calm_of, done, far_of, kept, moves_wider, not_longer, same_last, still}

-- up from a child whose visit gives something new: the visit goes on behind the step that is the child's
module _ (plans : Plans) (sc : Scene) (top left : NodeId) (old mid : Grove) (is_old : IsGrove old) (is_mid : IsGrove mid) (begin between : Worklist) (staged : IsStaged plans sc old begin) (stale : AreStale sc old (HasEquation (rules_of sc.spec) (term_now sc) []))
    (free : (j : ℕ) (a : Reference Place) → IsTaken (rules_of sc.spec) plans (term_now sc) [] j a → ⊥) (n : NodeId) (k kid : ℕ) (q : Place) (was among : List Instance) (reached : IsReached plans sc top left n k (kid ∷ q) old mid begin between was among)
    (above : NodeId) (climbs : Climbs (nodes mid) q above sc.root) (i m : ℕ) (has : HasVisit (rules_of sc.spec) plans (term_now sc) q i) (at : slice_get (steps_of plans (operator_in (term_now sc) q) i) m ≡ Some (Visit kid k))
    (woken : Worklist) (added : (c : ℕ) → Contains woken.active c ↔ (Contains between.active c ⊎ (c ≡ n.key))) (noted : woken.changed ≡ between.changed) where
  abbrev rules : Rules
  rules = rules_of sc.spec

  abbrev t : Term
  t = term_now sc

  abbrev plan : IsPlanned sc.spec plans (term_now sc)
  plan = staged.planned

  abbrev Same : Reference Place → Type 0
  Same a = value_now sc a ≡ value_was sc a

  abbrev One : Reference Place → Type 0
  One a = IsUpTo plans (k + 1) (rules_of sc.spec) (term_now sc) (kid ∷ q) a

  -- what is still done above
  abbrev Two : Reference Place → Type 0
  Two a = IsGivenFrom plans i (m + 1) (rules_of sc.spec) (term_now sc) q a

  more_awake : IsMore between woken
  more_awake = record { changed = λ x in'. subst (λ xs. Contains xs x) (sym noted) in'; active = λ c in'. (added c).1 (inl in') }

  low : 1 ≤ k
  low = seats.child_low sc.spec plans t plan q i m kid k has at

  visit_is : belongs rules plans (operator_in t q) (seat rules plans (operator_in t q) kid k) ≡ i
  visit_is = seats.visit_is sc.spec plans t plan q i m kid k has at

  child : HasVisit rules plans t (kid ∷ q) k
  child = visiting.step_child sc.spec plans t plan q i m kid k has at

  quiet : (a : Reference Place) (h : ℕ) → h < k → IsAttrAt rules t (kid ∷ q) a → IsGivenBy rules plans t (kid ∷ q) h a → Same a
  quiet = reached.quiet kid q refl

  abbrev Early : Site Place → Type 0
  Early j = early.IsEarly plans sc staged.was_planned staged.planned (kid ∷ q) k j

  early_same : (a : Reference Place) (j : Site Place) → site_of rules (net_of t) a ≡ Some j → Early j → Same a
  early_same a j found is =
      subst Same (found_bears rules t a j found) (early.early_same plans sc staged.was_planned plan free (kid ∷ q) reached.way reached.over reached.node k low quiet j (found_live rules t a j found) is)

  early_fine : (a : Reference Place) (c : NodeId) (j : Site Place) → site_of rules (net_of t) a ≡ Some j → Early j → Climbs (nodes mid) a.node c sc.root → IsFine sc mid woken a c
  early_fine a c j found is up =
      still plans sc top left old mid is_old is_mid begin between staged stale free n k (kid ∷ q) was among reached woken a c j found (early.early_outside plans sc staged.was_planned plan (kid ∷ q) k j is) up (early_same a j found is)

  early_calm : (a : Reference Place) (j : Site Place) → site_of rules (net_of t) a ≡ Some j → Early j → IsCalm sc a
  early_calm a j found is =
      calm_of plans sc top left old mid is_old is_mid begin between staged stale free n k (kid ∷ q) was among reached a j found
      (far_of plans sc top left old mid is_old is_mid begin between staged stale free n k (kid ∷ q) was among reached j.node (early.early_outside plans sc staged.was_planned plan (kid ∷ q) k j is))
      (early.early_clean plans sc staged.was_planned plan free (kid ∷ q) reached.way reached.over reached.node k low quiet j (found_live rules t a j found) is)

  -- what stands before the child's visit is as before, or the child has given it
  record IsSettled (a : Reference Place) : Type 0 where
    site : Site Place
    found : site_of (rules_of sc.spec) (net_of (term_now sc)) a ≡ Some site
    early : Early site

  before_seat : (a : Reference Place) → IsBefore rules plans t q (seat rules plans (operator_in t q) kid k) a → IsSettled a ⊎ ((h : ℕ) × (h < k) × IsGivenBy rules plans t (kid ∷ q) h a)
  before_seat a b = elim (early.split_before plans sc staged.was_planned plan kid q k a reached.node low b) [
    | inl beside ↦ inl (record { site = b.site; found = b.found; early = inl beside })
    | inr given ↦ inr given
  ]

  earlier_seat : (h : ℕ) (a : Reference Place) → h < i → IsGivenBy rules plans t q h a → IsBefore rules plans t q (seat rules plans (operator_in t q) kid k) a
  earlier_seat h a less given = early.given_earlier plans sc staged.was_planned plan kid q k h a has.node (omega (arith, less, visit_is)) given

  steps_seat : (a : Reference Place) → IsGivenBefore rules plans t q i m a → IsBefore rules plans t q (seat rules plans (operator_in t q) kid k) a
  steps_seat a given = seats.steps_before sc.spec plans t plan q i m kid k has at a given

  -- what is there as the steps behind begin
  begun : (a : Reference Place) → IsGivenBefore rules plans t q i (m + 1) a → IsSettled a ⊎ One a
  begun a given = elim (visiting.gives_next rules plans t q i m (Visit kid k) at a given) [
    | inl first ↦ elim (before_seat a (steps_seat a first)) [ inl e ↦ inl e | inr g ↦ let less = g.1 in inr (record { visit = g.0; less = omega (arith, less); given = g.2 }) ]
    | inr here ↦ inr (record { visit = k; less = omega arith; given = record { site = here.0; found = here.1; of_visit = here.2 } })
  ]

  settled_fine : (a : Reference Place) (c : NodeId) → Climbs (nodes mid) a.node c sc.root → IsSettled a ⊎ One a → IsFine sc mid woken a c
  settled_fine a c up (inl e) = early_fine a c e.site e.found e.early up
  settled_fine a c up (inr one) = done plans sc top left old mid is_old is_mid begin between staged stale free n k (kid ∷ q) was among reached woken more_awake a c one up

  earlier_settled : (h : ℕ) (a : Reference Place) → h < i → IsGivenBy rules plans t q h a → IsSettled a ⊎ One a
  earlier_settled h a less given = elim (before_seat a (earlier_seat h a less given)) [ inl e ↦ inl e | inr g ↦ let low' = g.1 in inr (record { visit = g.0; less = omega (arith, low'); given = g.2 }) ]

  pub up_needs : AreFine sc mid woken (IsKnownFrom plans i (m + 1) rules t q)
  up_needs a c (inr first) up = settled_fine a c up (begun a first)
  up_needs a c (inl (visited.earlier h less given)) up = settled_fine a c up (earlier_settled h a less given)
  up_needs a c (inl (visited.taken take)) up =
      let e = early.taken_early plans sc staged.was_planned plan free q i a has.node take in
      early_fine a c e.0 e.1 (inr (subst (λ j. early.IsEarly plans sc staged.was_planned staged.planned q j e.0) (sym visit_is) e.2)) up

  -- the steps behind give nothing that the child has given
  pub up_apart : (a : Reference Place) → One a → Two a → ⊥
  up_apart a one two =
      let given = two.0 in
      let same : one.given.site ≡ given.site = same_Some one.given.site given.site (sym one.given.found ∙ given.found) in
      let of : IsOfVisit rules plans t (kid ∷ q) one.visit given.site = subst (IsOfVisit rules plans t (kid ∷ q) one.visit) same one.given.of_visit in
      let step = visiting.step_some sc.spec plans t plan q i given.site given.of_visit in
      let less = one.less in
      elim (cases_lt step.0 (m + 1)) [
        | inl first ↦ two.1 (record { place = step.0; low = first; step = step.1; at = step.2; site = given.site; found = given.found; of_step = step.3 })
        | inr past ↦ seats.steps_behind sc.spec plans t plan q i m kid k has at one.visit step.0 step.1 given.site (omega (arith, less)) child of (omega (arith, past)) step.2 step.3
      ]

  pub up_stale : AreStale sc mid Two
  up_stale a c j two found far up = kept plans sc top left old mid is_old is_mid begin between staged stale free n k (kid ∷ q) was among reached a c j found far (λ one. up_apart a one two) up

  -- the node above, with the child awake
  mid_staged : IsStaged plans sc mid woken
  mid_staged = let z = reached.on.staged in record {
    spec_is = z.spec_is;
    placed = z.placed;
    was_planned = z.was_planned;
    planned = z.planned;
    apart = z.apart;
    kept = z.kept;
    calm = z.calm;
    noted = λ x in'. z.noted x (subst (λ xs. Contains xs x) noted in');
  }

  pub on_above : IsOnStage plans sc mid woken top left above q
  on_above = record {
    staged = mid_staged;
    top_is = reached.on.top_is;
    left_is = reached.on.left_is;
    climbs = climbs;
    outside = λ w e. not_longer (w ++ reached.way) kid q (e ∙ ap (λ v. w ++ v) reached.over ∙ sym (append_assoc w reached.way (kid ∷ q)));
    awake = λ x y j l c over up.
        let last = last_of l y in
        let whole : (l ∷ y) ++ q ≡ last.0 ++ last.1 ∷ q = ap (λ p. p ++ q) last.2 ∙ append_assoc last.0 (last.1 ∷ []) q in
        let here : sc.place ≡ ((j ∷ x) ++ last.0) ++ last.1 ∷ q = over ∙ ap (λ p. (j ∷ x) ++ p) whole ∙ sym (append_assoc (j ∷ x) last.0 (last.1 ∷ q)) in
        let same : last.1 ≡ kid = same_last ((j ∷ x) ++ last.0) reached.way last.1 kid q (sym here ∙ reached.over) in
        by x j c last.0 (over ∙ ap (λ p. (j ∷ x) ++ p) whole ∙ ap (λ d. (j ∷ x) ++ (last.0 ++ d ∷ q)) same) (subst (λ p. Climbs (nodes mid) p c sc.root) (whole ∙ ap (λ d. last.0 ++ d ∷ q) same) up);
  }
    where
      by : (x : List ℕ) (j : ℕ) (c : NodeId) (v : List ℕ) → sc.place ≡ (j ∷ x) ++ (v ++ kid ∷ q) → Climbs (nodes mid) (v ++ kid ∷ q) c sc.root → Contains woken.active c.key
      by x j c [] over up = (added c.key).1 (inr (ap (λ (d : NodeId). d.key) (one_node mid is_mid (kid ∷ q) c n sc.root up reached.on.climbs)))
      by x j c (l ∷ v) over up = more_awake.active c.key (reached.on.awake x v j l c over up)

  first_moves : Moves {A = Unit {0}} {E = Unit {0}} sc One old mid begin woken was among (Ok tt)
  first_moves = record {
    frame = reached.moves.frame;
    listed = reached.moves.listed;
    fine = λ a c one up. done plans sc top left old mid is_old is_mid begin between staged stale free n k (kid ∷ q) was among reached woken more_awake a c one up;
    noted = λ x in'. reached.moves.noted x (subst (λ xs. Contains xs x) noted in');
    more = more_twice begin between woken reached.moves.more more_awake;
  }

  abbrev Both : Reference Place → Type 0
  Both a = One a ⊎ Two a

  up_within : (a : Reference Place) → Both a → IsUpTo plans (i + 1) rules t q a
  up_within a (inr two) = record { visit = i; less = omega arith; given = two.0 }
  up_within a (inl one) =
      let given = one.given in
      let less = one.less in
      let of = given.of_visit in
      let p = position_of rules plans given.site in
      let x = seats.lifted sc.spec plans t plan kid q one.visit given.site of in
      let rise = seats.seats_rise sc.spec plans t plan kid q one.visit k child (visiting.visit_there sc.spec plans t plan (kid ∷ q) one.visit given.site of).low (omega (arith, less)) in
      let position = x.position in
      let visit = visits_rise sc.spec (ranges sc.spec t plan.root plan.sound plan.fits) plans plan.valid t plan.root plan.fits q (position_at rules plans t x.way q p) (seat rules plans (operator_in t q) kid k) has.node (omega (arith, position, rise)) in
      record { visit = visit_at rules plans t x.way q p; less = omega (arith, visit, visit_is); given = record { site = given.site; found = given.found; of_visit = record { live = of.live; way = x.way; below = x.below; visit = refl } } }

  calm_or_one : (a : Reference Place) → IsSettled a ⊎ One a → Both a ⊎ IsCalm sc a
  calm_or_one a (inl e) = inr (early_calm a e.site e.found e.early)
  calm_or_one a (inr one) = inl (inl one)

  up_back : (a : Reference Place) → IsUpTo plans (i + 1) rules t q a → Both a ⊎ IsCalm sc a
  up_back a is = elim (cases_lt is.visit i) [
    | inl less ↦ calm_or_one a (earlier_settled is.visit a less is.given)
    | inr past ↦
        let less = is.less in
        let same : is.visit ≡ i = omega (arith, past, less) in
        let given : IsGivenBy rules plans t q i a = subst (λ h. IsGivenBy rules plans t q h a) same is.given in
        let step = visiting.step_some sc.spec plans t plan q i given.site given.of_visit in
        elim (cases_lt step.0 (m + 1)) [
          | inl first ↦ calm_or_one a (begun a (record { place = step.0; low = first; step = step.1; at = step.2; site = given.site; found = given.found; of_step = step.3 }))
          | inr behind ↦ inl (inr (
            given,
            λ again.
                let one : again.site ≡ given.site = same_Some again.site given.site (sym again.found ∙ given.found) in
                let place = visiting.step_once sc.spec plans t plan q i again.place step.0 again.step step.1 has again.at step.2 given.site (subst (IsOfStep rules plans t q again.step) one again.of_step) step.3 in
                let low' = again.low in
                omega (arith, place, low', behind),
          ))
        ]
  ]

  module _ {A E : Type 0} (new : Grove) (after : Worklist) (now : List Instance) where
    staged_by : (r : Result A E) → Moves sc Two mid new woken after among now r → OnOk r (IsStaged plans sc new after)
    staged_by (Ok x) second = staged_still plans sc mid new is_mid woken after (AreMeant sc Two) mid_staged second.frame (λ a is. is.1) second.more second.noted
    staged_by (Err e) second = tt

    pub up_moves : (r : Result A E) → Moves sc Two mid new woken after among now r → Moves sc (IsUpTo plans (i + 1) rules t q) old new begin after was now r
    up_moves r second =
        moves_wider plans sc Both (IsUpTo plans (i + 1) rules t q) old new begin after was now r (staged_by r second) up_within up_back
        (moves_twice plans sc One Two Both old mid new begin woken after was among now tt r is_old is_mid mid_staged first_moves second up_apart (λ a one. inl one) (λ a two. inr two) (λ a either. either))

    pub up_reached : (x : A) → Moves {A = A} {E = E} sc Two mid new woken after among now (Ok x) → IsReached plans sc top left above i q old new begin after was now
    up_reached x second = record {
      on = on_stage_still plans sc mid new is_mid woken after (AreMeant sc Two) mid_staged second.frame (λ a is. is.1) second.more second.noted top left above q on_above;
      node = has.node;
      way = reached.way ++ kid ∷ [];
      over = reached.over ∙ sym (append_assoc reached.way (kid ∷ []) q);
      moves = moves_ok sc (IsUpTo plans (i + 1) rules t q) old new begin after was now x tt (up_moves (Ok x) second);
      quiet = λ kid' q' e a h less there given. elim (before_seat a (earlier_seat h a less given)) [
        | inl e ↦ early_same a e.site e.found e.early
        | inr g ↦ absurd (let b = given_below rules plans t (kid ∷ q) g.0 a g.2 in not_longer b.0 kid q (sym there.node ∙ b.1))
      ];
    }
