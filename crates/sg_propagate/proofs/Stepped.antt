-- The steps of a visit, one after another.
use Rattle.std.specs.Prelude.{◌≡◌, ◌⊎◌, refl, ℕ, ◌+◌, ◌≤◌, List, ◌∷◌, length, Result, Ok, Err, OnOk, None, Some, slice_get}
use Rattle.std.proofs.Common.{sym, ap, ◌∙◌, subst, inl, inr, arith}
use Rattle.std.proofs.lemmas.Bool.{cases_lt}
use Rattle.std.proofs.lemmas.Option.{none-some, same_Some}
use Rattle.sg_kinds.specs.Terms.{Term}
use Rattle.sg_kinds.specs.Places.{Place, sub}
use Rattle.sg_kinds.specs.Nets.{Reference, Operation, label_of, net_of, referred}
use Rattle.sg_kinds.specs.Instances.{Site, site_of}
use Rattle.sg_orders.specs.Keys.{operator_in}
use Rattle.sg_kinds.specs.Specification.{rules_of}
use Rattle.sg_kinds.specs.FromScratch.{value_in}
use Rattle.sg_kinds.specs.declared.plans.Plans.{Plans}
use Rattle.sg_kinds.specs.declared.plans.PlanStep.{PlanStep}
use Rattle.sg_kinds.specs.declared.plans.PlanStep.TheVariants.{Eval, Visit}
use Rattle.sg_kinds.specs.declared.spec.Occurrence.{Occurrence}
use Rattle.sg_kinds.specs.declared.spec.Rule.{Rule}
use Rattle.sg_kinds.specs.declared.spec.Rules.{Rules}
use Rattle.sg_kinds.specs.declared.spec.Spec.{Spec}
use Rattle.sg_eval.specs.declared.journal.Instance.{Instance}
use Rattle.sg_forest.specs.declared.node_id.NodeId.{NodeId}
use Rattle.sg_forest.specs.Trees.{Climbs}
use Rattle.sg_groves.specs.Grove.{Grove, nodes, IsGrove}
use Rattle.sg_groves.specs.Holds.{IsPlaced}
use Rattle.sg_groves.proofs.Frames.{only_climbed, only_itself, only_more, only_twice}
use Rattle.sg_dependencies.specs.Vertices.{IsVertex}
use Rattle.sg_plans.specs.Planned.{IsPlanned}
use Rattle.sg_plans.specs.Segments.{HasVisit, IsGivenBy, IsLeafSlot}
use Rattle.sg_plans.specs.Stepping.{IsGivenBefore, IsOfStep, IsReady, leaf, taken, earlier, before, steps_of}
use Rattle.sg_plans.proofs.Bearers as bearers
use Rattle.sg_plans.proofs.Visiting as visiting
use Rattle.sg_terms.specs.Found.{op_at}
use Rattle.sg_trail.specs.Trails.{IsAnySlot, Way}
use Rattle.sg_attrib.specs.Visited as visited
use Rattle.sg_attrib.specs.Visited.{IsKnown, IsGiven, IsNeeded, IsStepGiven, IsVisited}
use Rattle.sg_attrib.proofs.Stepped.{known_not_given}
use Rattle.sg_attrib.proofs.Nodes.{not_held, op_in, label_op, has_visit}
use Rattle.sg_attrib.proofs.Evaluated.{argument_vertex}
use Rattle.sg_attrib.proofs.Leaves.{leaf_right}
use Rattle.sg_propagate.specs.Worklist.{Worklist}
use Rattle.sg_propagate.proofs.Changing.{leaf_same}
use Rattle.sg_propagate.specs.Scenes.{Scene, term_now, IsCalm, IsStaged, IsFine, AreFine, AreStale}
use Rattle.sg_propagate.specs.Moves.{AreMeant, IsGivenFrom, IsKnownFrom, IsRefSlot, IsOnStage, Moves, Refs, Repairs}
use Rattle.sg_propagate.proofs.Staged.{calm_fine, fine_kept, value_kept, staged_still, on_stage_still}
use Rattle.sg_propagate.proofs.Composed.{moves_again, moves_err, moves_nothing, moves_ok, moves_twice}

-- what the steps of visit k from step `from` to before step m give
abbrev pub IsBetween : Plans → ℕ → ℕ → ℕ → Refs
IsBetween plans k from m rules t u a = IsGivenBefore rules plans t u k m a × (IsGivenBefore rules plans t u k from a → ⊥)

-- the node of a scene at its place
module _ (plans : Plans) (sc : Scene) (g : Grove) (is : IsGrove g) (w : Worklist) (top left n : NodeId) (v : Place) (on : IsOnStage plans sc g w top left n v) where
  pub placed_here : IsPlaced g sc.root (term_now sc) v n
  placed_here = let s = on.staged in record { top = s.placed.top; holds = s.placed.holds; way = on.climbs }

  pub op_here : (op : ℕ) → op_at g n ≡ Some op → operator_in (term_now sc) v ≡ op
  op_here op at = op_in g is n sc.root (term_now sc) v placed_here op at

  pub label_here : (op : ℕ) → label_of (sub (term_now sc) v) ≡ Operation op → op_at g n ≡ Some op
  label_here op label = label_op g is n sc.root (term_now sc) v placed_here op label

  pub visit_here : (k : ℕ) → IsVisited plans g n k → HasVisit (rules_of sc.spec) plans (term_now sc) v k
  visit_here k vis = subst (λ (s : Spec). HasVisit (rules_of s) plans (term_now sc) v k) on.staged.spec_is (has_visit g is plans n sc.root k (term_now sc) v placed_here vis)

  -- a leaf that an equation of the node names
  pub leaf_fine : (op : ℕ) (o : Occurrence) (m : NodeId) → op_at g n ≡ Some op → IsVertex (rules_of sc.spec) op o → Climbs (nodes g) (referred (net_of (term_now sc)) v o).node m sc.root → IsLeafSlot (term_now sc) (referred (net_of (term_now sc)) v o)
      → IsFine sc g w (referred (net_of (term_now sc)) v o) m
  leaf_fine op o m at vertex climbs lf =
      let spec_is = on.staged.spec_is in
      let plan : IsPlanned g.spec plans (term_now sc) = subst (λ (s : Spec). IsPlanned s plans (term_now sc)) (sym spec_is) on.staged.planned in
      let here : IsVertex (rules_of g.spec) op o = subst (λ (s : Spec). IsVertex (rules_of s) op o) (sym spec_is) vertex in
      record {
        right = leaf_right g is plans n sc.root (term_now sc) v op o plan placed_here at here m climbs lf ∙ ap (λ (s : Spec). value_in s (term_now sc) (referred (net_of (term_now sc)) v o)) spec_is;
        noted = λ far other. absurd (other (leaf_same sc.spec plans sc.was sc.part sc.place on.staged.was_planned on.staged.planned (referred (net_of (term_now sc)) v o) lf far));
        awake = λ far other. absurd (other (leaf_same sc.spec plans sc.was sc.part sc.place on.staged.was_planned on.staged.planned (referred (net_of (term_now sc)) v o) lf far));
      }

-- one step more
module _ {A B D E : Type 0} (plans : Plans) (top left n : NodeId) (old mid new : Grove) (is_old : IsGrove old) (is_mid : IsGrove mid) (k from m : ℕ) (begun : from ≤ m) (s : PlanStep) (vis : IsVisited plans old n k) (at : slice_get (steps_of plans vis.op k) m ≡ Some s)
    (first_work mid_work last_work : Worklist) (was among now : List Instance) (x : A) (r : Result B E) where
  module _ (sc : Scene) (v : Place) (on : IsOnStage plans sc old first_work top left n v) (known : AreFine sc old first_work (IsKnownFrom plans k from (rules_of sc.spec) (term_now sc) v))
      (first : Moves {A = A} {E = D} sc (IsBetween plans k from m (rules_of sc.spec) (term_now sc) v) old mid first_work mid_work was among (Ok x)) where
    abbrev rules : Rules
    rules = rules_of sc.spec

    abbrev t : Term
    t = term_now sc

    abbrev plan : IsPlanned sc.spec plans t
    plan = on.staged.planned

    has : HasVisit rules plans t v k
    has = visit_here plans sc old is_old first_work top left n v on k vis

    step_is : slice_get (steps_of plans (operator_in t v) k) m ≡ Some s
    step_is = ap (λ op. slice_get (steps_of plans op k) m) (op_here plans sc old is_old first_work top left n v on vis.op vis.is) ∙ at

    apart : (a : Reference Place) → IsGivenBefore rules plans t v k m a → IsStepGiven rules plans s t v a → ⊥
    apart a one two =
        let same : one.site ≡ two.site = same_Some one.site two.site (sym one.found ∙ two.found) in
        let place = visiting.step_once sc.spec plans t plan v k one.place m one.step s has one.at step_is one.site one.of_step (subst (IsOfStep rules plans t v s) (sym same) two.of_step) in
        let low = one.low in
        omega (arith, place, low)

    mid_staged : IsStaged plans sc mid mid_work
    mid_staged = staged_still plans sc old mid is_old first_work mid_work (AreMeant sc (IsBetween plans k from m rules t v)) on.staged first.frame (λ a is. is.1) first.more first.noted

    pub on_mid : IsOnStage plans sc mid mid_work top left n v
    on_mid = on_stage_still plans sc old mid is_old first_work mid_work (AreMeant sc (IsBetween plans k from m rules t v)) on.staged first.frame (λ a is. is.1) first.more first.noted top left n v on

    mid_op : (op : ℕ) → label_of (sub t v) ≡ Operation op → op_at mid n ≡ Some op
    mid_op op label = label_here plans sc mid is_mid mid_work top left n v on_mid op label

    climbed : (u : Place) (c : NodeId) → Climbs (nodes mid) u c sc.root → Climbs (nodes old) u c sc.root
    climbed u c climbs = only_climbed old mid (IsRefSlot old sc (AreMeant sc (IsBetween plans k from m rules t v))) first.frame u c sc.root climbs

    from_known : (a : Reference Place) (c : NodeId) → Climbs (nodes mid) a.node c sc.root → IsKnown rules plans k t v a → IsFine sc mid mid_work a c
    from_known a c climbs is =
        let up = climbed a.node c climbs in
        fine_kept plans sc old mid is_old first_work mid_work (AreMeant sc (IsBetween plans k from m rules t v)) on.staged first.frame first.more a c up
        (λ q. let p = q.0 in known_not_given rules plans k t v a is (visiting.gives_only sc.spec plans t plan v k m has a p.0)) (known a c (inl is) up)

    -- a step from the first on gives nothing that the steps before that give
    not_again : (a : Reference Place) (p : ℕ) (z : PlanStep) (i : Site Place) → from ≤ p → slice_get (steps_of plans (operator_in t v) k) p ≡ Some z → site_of rules (net_of t) a ≡ Some i → IsOfStep rules plans t v z i → IsGivenBefore rules plans t v k from a → ⊥
    not_again a p z i past there found of one =
        let same : i ≡ one.site = same_Some i one.site (sym found ∙ one.found) in
        let place = visiting.step_once sc.spec plans t plan v k one.place p one.step z has one.at there one.site one.of_step (subst (IsOfStep rules plans t v z) same of) in
        let low = one.low in
        omega (arith, place, low, past)

    from_ready : (a : Reference Place) (c : NodeId) → Climbs (nodes mid) a.node c sc.root → IsReady rules plans t v k m a → (IsLeafSlot t a → IsFine sc mid mid_work a c) → IsFine sc mid mid_work a c
    from_ready a c climbs (leaf is) fine = fine is
    from_ready a c climbs (taken is) fine = from_known a c climbs (visited.taken is)
    from_ready a c climbs (earlier i less is) fine = from_known a c climbs (visited.earlier i less is)
    from_ready a c climbs (before is) fine = elim (cases_lt is.place from) [
      | inl low ↦
          let up = climbed a.node c climbs in
          let one : IsGivenBefore rules plans t v k from a = record { place = is.place; low = low; step = is.step; at = is.at; site = is.site; found = is.found; of_step = is.of_step } in
          fine_kept plans sc old mid is_old first_work mid_work (AreMeant sc (IsBetween plans k from m rules t v)) on.staged first.frame first.more a c up (λ q. let p = q.0 in p.1 one) (known a c (inr one) up)
      | inr past ↦ first.fine a c (is, not_again a is.place is.step is.site past is.at is.found is.of_step) climbs
    ]

    ready_by : (z : PlanStep) → z ≡ s → (a : Reference Place) (c : NodeId) → IsNeeded rules plans z t v a → Climbs (nodes mid) a.node c sc.root → IsFine sc mid mid_work a c
    ready_by (Eval e) is a c want climbs =
        let here = step_is ∙ ap (λ z. Some z) (sym is) in
        let o = want.occurrence in
        let ref : Reference Place = referred (net_of t) v o in
        let ready : IsReady rules plans t v k m ref = visiting.ready_argument sc.spec plans t plan v k m e has here want.rule o want.at want.names in
        let equation = visiting.step_equation sc.spec plans t plan v k m e has here in
        let same : equation.0 ≡ want.rule = same_Some equation.0 want.rule (sym equation.1 ∙ want.at) in
        let op : want.rule.op ≡ operator_in t v = ap (λ (q : Rule). q.op) (sym same) ∙ equation.2 in
        let in_mid : slice_get mid.spec.rules e ≡ Some want.rule = ap (λ (z : Spec). slice_get z.rules e) mid_staged.spec_is ∙ want.at in
        let vertex : IsVertex rules want.rule.op o = subst (λ (z : Spec). IsVertex (rules_of z) want.rule.op o) mid_staged.spec_is (argument_vertex mid is_mid e want.rule in_mid o want.names) in
        let at_mid = mid_op want.rule.op (has.node ∙ ap (λ q. Operation q) (sym op)) in
        let all : (b : Reference Place) → ref ≡ b → Climbs (nodes mid) b.node c sc.root → IsReady rules plans t v k m b → IsFine sc mid mid_work b c =
        λ b e up is_ready. from_ready b c up is_ready (λ lf.
        subst (λ (z : Reference Place). Climbs (nodes mid) z.node c sc.root → IsLeafSlot t z → IsFine sc mid mid_work z c) e (leaf_fine plans sc mid is_mid mid_work top left n v on_mid want.rule.op o c at_mid vertex) up lf) in
        all a (sym want.is) climbs (subst (IsReady rules plans t v k m) (sym want.is) ready)
    ready_by (Visit kid j) is a c want climbs =
        let here = step_is ∙ ap (λ z. Some z) (sym is) in
        let child = visiting.step_child sc.spec plans t plan v k m kid j has here in
        by want here child.node
      where
        by : IsKnown rules plans j t (kid ∷ v) a → slice_get (steps_of plans (operator_in t v) k) m ≡ Some (Visit kid j) → label_of (sub t (kid ∷ v)) ≡ Operation (operator_in t (kid ∷ v))
            → IsFine sc mid mid_work a c
        by (visited.taken take) here node =
            from_ready a c climbs (visiting.ready_taken sc.spec plans t plan v k m kid j has here a take)
            (λ lf. absurd (not_held (operator_in t (kid ∷ v)) lf.phylum lf.value (sym lf.label ∙ ap (λ w. label_of (sub t w)) take.node ∙ node)))
        by (visited.earlier h less given) here node =
            from_ready a c climbs (visiting.ready_given sc.spec plans t plan v k m kid j h has here less a given)
            (λ lf. absurd (bearers.bearer_no_leaf sc.spec t plan.root plan.sound plan.fits given.site given.of_visit.live lf.phylum lf.value
            (ap (λ (b : Reference Place). label_of (sub t b.node)) (bearers.found_bears rules t a given.site given.found) ∙ lf.label)))

    pub step_needs : AreFine sc mid mid_work (IsNeeded rules plans s t v)
    step_needs a c want climbs = ready_by s refl a c want climbs

    pub step_stale : AreStale sc old (IsGivenFrom plans k from rules t v) → AreStale sc mid (IsStepGiven rules plans s t v)
    step_stale stale a c i is found far climbs =
        let up = climbed a.node c climbs in
        let given : IsGivenBy rules plans t v k a = record { site = is.site; found = is.found; of_visit = visiting.step_within sc.spec plans t plan v k m s has step_is is.site is.of_step } in
        value_kept plans sc old mid is_old first_work mid_work (AreMeant sc (IsBetween plans k from m rules t v)) on.staged first.frame a c up (λ q. let p = q.0 in apart a p.0 is) ∙ stale a c i (given, not_again a m s is.site begun step_is is.found is.of_step) found far up

    in_before : (a : Reference Place) → IsBetween plans k from m rules t v a → IsBetween plans k from (m + 1) rules t v a
    in_before a both = let is = both.0 in let low = is.low in (record { place = is.place; low = omega (arith, low); step = is.step; at = is.at; site = is.site; found = is.found; of_step = is.of_step }, both.1)

    in_step : (a : Reference Place) → IsStepGiven rules plans s t v a → IsBetween plans k from (m + 1) rules t v a
    in_step a is = (record { place = m; low = omega arith; step = s; at = step_is; site = is.site; found = is.found; of_step = is.of_step }, not_again a m s is.site begun step_is is.found is.of_step)

    split : (a : Reference Place) → IsBetween plans k from (m + 1) rules t v a → IsBetween plans k from m rules t v a ⊎ IsStepGiven rules plans s t v a
    split a is = elim (visiting.gives_next rules plans t v k m s step_is a is.0) [
      | inl one ↦ inl (one, is.1)
      | inr two ↦ inr (record { site = two.0; found = two.1; of_step = two.2 })
    ]

    pub step_moves : Moves sc (IsStepGiven rules plans s t v) mid new mid_work last_work among now r → Moves sc (IsBetween plans k from (m + 1) rules t v) old new first_work last_work was now r
    step_moves second =
        moves_twice plans sc (IsBetween plans k from m rules t v) (IsStepGiven rules plans s t v) (IsBetween plans k from (m + 1) rules t v) old mid new first_work mid_work last_work was among now x r is_old is_mid mid_staged first second
        (λ a both. apart a both.0) in_before in_step split

  pub next_step : (first_way between to : Way) → Repairs {A = A} {E = D} plans (IsKnownFrom plans k from) (IsGivenFrom plans k from) (IsBetween plans k from m) top left n old mid first_work mid_work first_way between was among (Ok x)
      → Repairs plans (λ rules. IsNeeded rules plans s) (λ rules. IsStepGiven rules plans s) (λ rules. IsStepGiven rules plans s) top left n mid new mid_work last_work between to among now r
      → Repairs plans (IsKnownFrom plans k from) (IsGivenFrom plans k from) (IsBetween plans k from (m + 1)) top left n old new first_work last_work first_way to was now r
  next_step first_way between to first second = record {
    stored = only_more old new (λ a slot. IsAnySlot a slot ⊎ IsAnySlot a slot) IsAnySlot (λ a slot either. tt) (only_twice old mid new IsAnySlot IsAnySlot first.stored second.stored);
    at = second.at ∙ first.at;
    detached = second.detached ∙ first.detached;
    tracked = λ g is. second.tracked g (first.tracked g is);
    moves = λ sc v on known stale.
        let one = first.moves sc v on known stale in
        step_moves sc v on known one (second.moves sc v (on_mid sc v on known one) (step_needs sc v on known one) (step_stale sc v on known one stale));
  }

-- all steps from one on give what these steps give
module _ (plans : Plans) (top left n : NodeId) (old new : Grove) (is_old : IsGrove old) (k from : ℕ) (vis : IsVisited plans old n k) (before after : Worklist) (first_way to : Way) (was now : List Instance) where
  within : (m : ℕ) (sc : Scene) (v : Place) → IsOnStage plans sc old before top left n v → (a : Reference Place) → IsBetween plans k from m (rules_of sc.spec) (term_now sc) v a → IsGivenFrom plans k from (rules_of sc.spec) (term_now sc) v a
  within m sc v on a given = (visiting.gives_only sc.spec plans (term_now sc) on.staged.planned v k m (visit_here plans sc old is_old before top left n v on k vis) a given.0, given.1)

  steps_moves : {A E : Type 0} (m : ℕ) (r : Result A E) → ((sc : Scene) (v : Place) → IsOnStage plans sc old before top left n v → OnOk r ((a : Reference Place) → IsGivenFrom plans k from (rules_of sc.spec) (term_now sc) v a → IsBetween plans k from m (rules_of sc.spec) (term_now sc) v a))
      → Repairs {A = A} {E = E} plans (IsKnownFrom plans k from) (IsGivenFrom plans k from) (IsBetween plans k from m) top left n old new before after first_way to was now r
      → Repairs {A = A} {E = E} plans (IsKnownFrom plans k from) (IsGivenFrom plans k from) (IsGivenFrom plans k from) top left n old new before after first_way to was now r
  steps_moves m r back gives = record {
    stored = gives.stored;
    at = gives.at;
    detached = gives.detached;
    tracked = gives.tracked;
    moves = λ sc v on known stale. moves_again sc (IsBetween plans k from m (rules_of sc.spec) (term_now sc) v) (IsGivenFrom plans k from (rules_of sc.spec) (term_now sc) v) old new before after was now r (within m sc v on) (back sc v on) (gives.moves sc v on known stale);
  }

  pub all_steps : {A E : Type 0} (m : ℕ) (y : A) → length (steps_of plans vis.op k) ≤ m → Repairs {A = A} {E = E} plans (IsKnownFrom plans k from) (IsGivenFrom plans k from) (IsBetween plans k from m) top left n old new before after first_way to was now (Ok y)
      → Repairs {A = A} {E = E} plans (IsKnownFrom plans k from) (IsGivenFrom plans k from) (IsGivenFrom plans k from) top left n old new before after first_way to was now (Ok y)
  all_steps m y long gives = steps_moves m (Ok y) (λ sc v on a given.
      let all = visiting.gives_all sc.spec plans (term_now sc) on.staged.planned v k a given.0 in
      let same = ap (λ op. length (steps_of plans op k)) (op_here plans sc old is_old before top left n v on vis.op vis.is) in
      let low = all.low in
      (record { place = all.place; low = omega (arith, low, same, long); step = all.step; at = all.at; site = all.site; found = all.found; of_step = all.of_step }, given.1)) gives

  pub some_steps : {A E : Type 0} (m : ℕ) (e : E) → Repairs {A = A} {E = E} plans (IsKnownFrom plans k from) (IsGivenFrom plans k from) (IsBetween plans k from m) top left n old new before after first_way to was now (Err e)
      → Repairs {A = A} {E = E} plans (IsKnownFrom plans k from) (IsGivenFrom plans k from) (IsGivenFrom plans k from) top left n old new before after first_way to was now (Err e)
  some_steps m e gives = steps_moves m (Err e) (λ sc v on. tt) gives

-- nothing was done
pub repairs_nothing : {A E : Type 0} (plans : Plans) (needs whole gives : Refs) (top left n : NodeId) (g : Grove) (w : Worklist) (way : Way) (was : List Instance) (x : A)
    → ((sc : Scene) (v : Place) → IsOnStage plans sc g w top left n v → AreFine sc g w (needs (rules_of sc.spec) (term_now sc) v) → (a : Reference Place) → gives (rules_of sc.spec) (term_now sc) v a → IsCalm sc a)
    → Repairs {A = A} {E = E} plans needs whole gives top left n g g w w way way was was (Ok x)
repairs_nothing plans needs whole gives top left n g w way was x calm = record {
  stored = only_itself g IsAnySlot;
  at = refl;
  detached = refl;
  tracked = λ first is. is;
  moves = λ sc v on fine stale. moves_nothing sc (gives (rules_of sc.spec) (term_now sc) v) g w was x (λ a of meant. (calm sc v on fine a of).still meant) on.staged.noted
      (λ a m of climbs. calm_fine plans sc g w on.staged a m (calm sc v on fine a of) climbs);
}

-- another answer
module _ {A B D E : Type 0} (plans : Plans) (needs whole gives : Refs) (top left n : NodeId) (old new : Grove) (before after : Worklist) (from to : Way) (was now : List Instance) where
  pub repairs_ok : (x : B) (y : A) → Repairs {A = B} {E = D} plans needs whole gives top left n old new before after from to was now (Ok x) → Repairs {A = A} {E = E} plans needs whole gives top left n old new before after from to was now (Ok y)
  repairs_ok x y r = record {
    stored = r.stored;
    at = r.at;
    detached = r.detached;
    tracked = r.tracked;
    moves = λ sc v on fine stale. moves_ok sc (gives (rules_of sc.spec) (term_now sc) v) old new before after was now x y (r.moves sc v on fine stale);
  }

  pub repairs_err : (x : D) (y : E) → Repairs {A = B} {E = D} plans needs whole gives top left n old new before after from to was now (Err x) → Repairs {A = A} {E = E} plans needs whole gives top left n old new before after from to was now (Err y)
  repairs_err x y r = record {
    stored = r.stored;
    at = r.at;
    detached = r.detached;
    tracked = r.tracked;
    moves = λ sc v on fine stale. moves_err sc (gives (rules_of sc.spec) (term_now sc) v) old new before after was now x y (r.moves sc v on fine stale);
  }

-- before the first step nothing is given, and a leaf has no visit
pub no_steps : {A E : Type 0} (plans : Plans) (g : Grove) (w : Worklist) (way : Way) (was : List Instance) (top left n : NodeId) (k from : ℕ) (y : A)
    → Repairs {A = A} {E = E} plans (IsKnownFrom plans k from) (IsGivenFrom plans k from) (IsBetween plans k from from) top left n g g w w way way was was (Ok y)
no_steps plans g w way was top left n k from y = repairs_nothing plans (IsKnownFrom plans k from) (IsGivenFrom plans k from) (IsBetween plans k from from) top left n g w way was y (λ sc v on fine a given. absurd (given.1 given.0))

pub leaf_repairs : {A E : Type 0} (plans : Plans) (g : Grove) → IsGrove g → (w : Worklist) (way : Way) (was : List Instance) (top left n : NodeId) (k from : ℕ) → op_at g n ≡ None → (y : A)
    → Repairs {A = A} {E = E} plans (IsKnownFrom plans k from) (IsGivenFrom plans k from) (IsGivenFrom plans k from) top left n g g w w way way was was (Ok y)
leaf_repairs plans g is w way was top left n k from none y =
    repairs_nothing plans (IsKnownFrom plans k from) (IsGivenFrom plans k from) (IsGivenFrom plans k from) top left n g w way was y (λ sc v on fine a both.
    let given = both.0 in
    let has = visiting.visit_there sc.spec plans (term_now sc) on.staged.planned v k given.site given.of_visit in
    absurd (none-some (operator_in (term_now sc) v) (sym none ∙ label_here plans sc g is w top left n v on (operator_in (term_now sc) v) has.node)))

-- from the first step on a visit gives what it gives
pub from_first : {A E : Type 0} (plans : Plans) (top left n : NodeId) (old new : Grove) (begin after : Worklist) (from to : Way) (was now : List Instance) (k : ℕ) (r : Result A E)
    → Repairs plans (IsKnownFrom plans k 0) (IsGivenFrom plans k 0) (IsGivenFrom plans k 0) top left n old new begin after from to was now r
    → Repairs plans (λ rules. IsKnown rules plans k) (λ rules. IsGiven rules plans k) (λ rules. IsGiven rules plans k) top left n old new begin after from to was now r
from_first {A} {E} plans top left n old new begin after from to was now k r gives = record {
  stored = gives.stored;
  at = gives.at;
  detached = gives.detached;
  tracked = gives.tracked;
  moves = λ sc v on known stale.
      moves_again sc (IsGivenFrom plans k 0 (rules_of sc.spec) (term_now sc) v) (IsGiven (rules_of sc.spec) plans k (term_now sc) v) old new begin after was now r (λ a given. given.0) (by sc v r)
      (gives.moves sc v on (λ a m is climbs. elim is [ inl one ↦ known a m one climbs | inr none ↦ absurd (nothing sc v a none) ]) (λ a m i given. stale a m i given.0));
}
  where
    nothing : (sc : Scene) (v : Place) (a : Reference Place) → IsGivenBefore (rules_of sc.spec) plans (term_now sc) v k 0 a → ⊥
    nothing sc v a is = visiting.gives_nothing (rules_of sc.spec) plans (term_now sc) v k a is

    by : (sc : Scene) (v : Place) (x : Result A E) → OnOk x ((a : Reference Place) → IsGiven (rules_of sc.spec) plans k (term_now sc) v a → IsGivenFrom plans k 0 (rules_of sc.spec) (term_now sc) v a)
    by sc v (Ok x) = λ a given. (given, nothing sc v a)
    by sc v (Err e) = tt
