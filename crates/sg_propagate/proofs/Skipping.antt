-- The visit of a child as a step of the node above: the new top's, an active child's, or one that is skipped.
use Rattle.std.specs.Prelude.{◌≡◌, ◌≢◌, ℕ, List, [], ◌∷◌, ◌++◌, Contains, Result, Ok, Err, OnOk}
use Rattle.std.proofs.Common.{refl, sym, ap, ◌∙◌, subst, inl, inr, arith, append_assoc}
use Rattle.std.proofs.lemmas.Option.{same_Some}
use Rattle.sg_kinds.specs.Terms.{Term}
use Rattle.sg_kinds.specs.Places.{Place}
use Rattle.sg_kinds.specs.Nets.{Reference}
use Rattle.sg_kinds.specs.Instances.{Site}
use Rattle.sg_kinds.specs.Specification.{rules_of}
use Rattle.sg_kinds.specs.declared.plans.Plans.{Plans}
use Rattle.sg_kinds.specs.declared.plans.PlanStep.TheVariants.{Visit}
use Rattle.sg_kinds.specs.declared.spec.Rules.{Rules}
use Rattle.sg_eval.specs.declared.journal.Instance.{Instance}
use Rattle.sg_forest.specs.declared.node_id.NodeId.{NodeId}
use Rattle.sg_forest.specs.Trees.{IsChild, Climbs}
use Rattle.sg_groves.specs.Evaluated.{HasChanged}
use Rattle.sg_groves.specs.Grove.{Grove, nodes, IsGrove}
use Rattle.sg_groves.proofs.Frames.{only_more}
use Rattle.sg_groves.proofs.Ways.{one_node}
use Rattle.sg_plans.specs.Segments.{IsNodeAt, IsOutside, IsTaken, position_of, visit_at}
use Rattle.sg_plans.proofs.Closed.{taken_before}
use Rattle.sg_trail.specs.Trails.{IsAnySlot, Way}
use Rattle.sg_attrib.specs.Visited as visited
use Rattle.sg_attrib.specs.Visited.{IsGiven, IsKnown, IsNeeded, IsSlotOf, IsStepGiven, IsVisited, Gives}
use Rattle.sg_attrib.proofs.Stepped.{taken_not_given}
use Rattle.sg_propagate.specs.Worklist.{Worklist}
use Rattle.sg_propagate.proofs.Changing.{one_above, same_or_not}
use Rattle.sg_propagate.proofs.Clean.{visit_clean}
use Rattle.sg_propagate.specs.Scenes.{Scene, term_now, value_now, value_was, IsCalm, AreFine}
use Rattle.sg_propagate.specs.Moves.{IsOnStage, Repairs}
use Rattle.sg_propagate.proofs.Composed.{moves_again}
use Rattle.sg_propagate.proofs.Given.{slot_inside, top_moves}
use Rattle.sg_propagate.proofs.Stepped.{repairs_nothing, visit_here}
use Rattle.sg_propagate.proofs.Tracked.{tracked_still}

-- a child that is not the new top stands outside the new subterm too
module _ (plans : Plans) (sc : Scene) (g : Grove) (is : IsGrove g) (w : Worklist) (top left n : NodeId) (v : Place) (on : IsOnStage plans sc g w top left n v) (c : NodeId) (kid : ℕ) (hangs : IsChild (nodes g) c n kid) (apart : c ≢ top) where
  kid_climbs : Climbs (nodes g) (kid ∷ v) c sc.root
  kid_climbs = (n, hangs, on.climbs)

  top_climbs : Climbs (nodes g) sc.place top sc.root
  top_climbs = subst (λ d. Climbs (nodes g) sc.place d sc.root) on.top_is on.staged.placed.way

  not_place : kid ∷ v ≡ sc.place → ⊥
  not_place e = apart (one_node g is sc.place c top sc.root (subst (λ p. Climbs (nodes g) p c sc.root) e kid_climbs) top_climbs)

  pub kid_outside : IsOutside sc.place (kid ∷ v)
  kid_outside [] e = not_place e
  kid_outside (l ∷ y) e = on.outside y (ap rest e)
    where
      rest : List ℕ → List ℕ
      rest [] = []
      rest (z ∷ zs) = zs

  pub kid_on_stage : IsOnStage plans sc g w top left c (kid ∷ v)
  unfolding kid_climbs
  kid_on_stage = record {
    staged = on.staged;
    top_is = on.top_is;
    left_is = on.left_is;
    climbs = kid_climbs;
    outside = kid_outside;
    awake = λ x y j l m at up.
        let same : (y ++ kid ∷ []) ++ v ≡ y ++ kid ∷ v = append_assoc y (kid ∷ []) v in
        on.awake x (y ++ kid ∷ []) j l m (at ∙ ap (λ p. (j ∷ x) ++ l ∷ p) (sym same)) (subst (λ p. Climbs (nodes g) (l ∷ p) m sc.root) (sym same) up);
  }

  -- where it is not active nothing below it has another value
  module _ (idle : Contains w.active c.key → ⊥) where
    not_over : IsOutside (kid ∷ v) sc.place
    not_over [] e = not_place (sym e)
    not_over (l ∷ y) e = idle (on.awake y [] l kid c e kid_climbs)

    module _ (k : ℕ) (node : IsNodeAt (term_now sc) (kid ∷ v)) (fine : AreFine sc g w (IsKnown (rules_of sc.spec) plans k (term_now sc) (kid ∷ v))) where
      abbrev rules : Rules
      rules = rules_of sc.spec

      abbrev t : Term
      t = term_now sc

      taken_same : (a : Reference Place) → IsTaken rules plans t (kid ∷ v) k a → value_now sc a ≡ value_was sc a
      taken_same a is_taken = elim (same_or_not (value_now sc a) (value_was sc a)) [
        | inl same ↦ same
        | inr other ↦ absurd (
            let at_kid : Climbs (nodes g) a.node c sc.root = subst (λ p. Climbs (nodes g) p c sc.root) (sym is_taken.node) kid_climbs in
            let far : IsOutside sc.place a.node = subst (IsOutside sc.place) (sym is_taken.node) kid_outside in
            let b = taken_before sc.spec plans t on.staged.planned kid v k a node is_taken in
            idle ((fine a c (visited.taken is_taken) at_kid).awake far other b.site b.found (λ e.
            taken_not_given rules plans t (kid ∷ v) k (visit_at rules plans t [] (kid ∷ v) (position_of rules plans b.site)) a is_taken
            (record { site = b.site; found = b.found; of_visit = record { live = b.live; way = []; below = e ∙ is_taken.node; visit = refl } }))))
      ]

      pub idle_calm : (a : Reference Place) → IsStepGiven rules plans (Visit kid k) t v a → IsCalm sc a
      idle_calm a given = record {
        site = given.site;
        found = given.found;
        still = λ meant.
            let same : meant.site ≡ given.site = same_Some meant.site given.site (sym meant.found ∙ given.found) in
            let of = given.of_step in
            elim (meant.why) [
              | inl below ↦
                  elim (one_above of.way below.below (kid ∷ v) sc.place (sym of.below ∙ sym (ap (λ (i : Site Place). i.node) same) ∙ below.is)) [
                    | inl high ↦ kid_outside high.0 high.1
                    | inr low ↦ not_over low.0 low.1
                  ]
              | inr both ↦
                  let has = subst (HasChanged sc.spec sc.was sc.place sc.part) same both.1 in
                  has.changed (visit_clean sc.spec plans sc.was sc.part sc.place on.staged.was_planned on.staged.planned (kid ∷ v) kid_outside not_over k taken_same k given.site (omega arith) of has.arg has.named)
            ];
      }

-- an idle child is skipped
pub idle_repairs : {A E : Type 0} (plans : Plans) (g : Grove) → IsGrove g → (w : Worklist) (way : Way) (was : List Instance) (top left n c : NodeId) (kid k : ℕ) → IsChild (nodes g) c n kid → c ≢ top → (Contains w.active c.key → ⊥) → IsVisited plans g c k → (y : A)
    → Repairs {A = A} {E = E} plans (λ rules. IsNeeded rules plans (Visit kid k)) (λ rules. IsStepGiven rules plans (Visit kid k)) (λ rules. IsStepGiven rules plans (Visit kid k)) top left n g g w w way way was was (Ok y)
idle_repairs plans g is w way was top left n c kid k hangs apart idle visited_c y =
    repairs_nothing plans (λ rules. IsNeeded rules plans (Visit kid k)) (λ rules. IsStepGiven rules plans (Visit kid k)) (λ rules. IsStepGiven rules plans (Visit kid k)) top left n g w way was y (λ sc v on fine a given.
    idle_calm plans sc g is w top left n v on c kid hangs apart idle k
    (visit_here plans sc g is w top left c (kid ∷ v) (kid_on_stage plans sc g is w top left n v on c kid hangs apart) k visited_c).node fine a given)

-- an active child's visit is the step
pub kid_repairs : {A E : Type 0} (plans : Plans) (old new : Grove) → IsGrove old → (before after : Worklist) (from to : Way) (was now : List Instance) (top left n c : NodeId) (kid k : ℕ) → IsChild (nodes old) c n kid → c ≢ top → (r : Result A E)
    → Repairs plans (λ rules. IsKnown rules plans k) (λ rules. IsGiven rules plans k) (λ rules. IsGiven rules plans k) top left c old new before after from to was now r
    → Repairs plans (λ rules. IsNeeded rules plans (Visit kid k)) (λ rules. IsStepGiven rules plans (Visit kid k)) (λ rules. IsStepGiven rules plans (Visit kid k)) top left n old new before after from to was now r
kid_repairs {A} {E} plans old new is before after from to was now top left n c kid k hangs apart r call = record {
  stored = call.stored;
  at = call.at;
  detached = call.detached;
  tracked = call.tracked;
  moves = λ sc v on fine stale.
      moves_again sc (IsGiven (rules_of sc.spec) plans k (term_now sc) (kid ∷ v)) (IsStepGiven (rules_of sc.spec) plans (Visit kid k) (term_now sc) v) old new before after was now r
      (λ a given. record { site = given.site; found = given.found; of_step = given.of_visit }) (again_by sc v r)
      (call.moves sc (kid ∷ v) (kid_on_stage plans sc old is before top left n v on c kid hangs apart) fine
      (λ a m i given found far climbs. stale a m i (record { site = given.site; found = given.found; of_step = given.of_visit }) found far climbs));
}
  where
    again_by : (sc : Scene) (v : Place) (x : Result A E) → OnOk x ((a : Reference Place) → IsStepGiven (rules_of sc.spec) plans (Visit kid k) (term_now sc) v a → IsGiven (rules_of sc.spec) plans k (term_now sc) (kid ∷ v) a)
    again_by sc v (Ok x) = λ a given. record { site = given.site; found = given.found; of_visit = given.of_step }
    again_by sc v (Err e) = tt

-- and so is the new top's
pub top_repairs : {A E : Type 0} (plans : Plans) (old new : Grove) → IsGrove old → (w : Worklist) (way : Way) (was now : List Instance) (top left n : NodeId) (kid k : ℕ) → IsChild (nodes old) top n kid → (r : Result A E)
    → Gives (IsKnown (rules_of old.spec) plans k) (IsGiven (rules_of old.spec) plans k) old new was now top r
    → Repairs plans (λ rules. IsNeeded rules plans (Visit kid k)) (λ rules. IsStepGiven rules plans (Visit kid k)) (λ rules. IsStepGiven rules plans (Visit kid k)) top left n old new w w way way was now r
top_repairs plans old new is w way was now top left n kid k hangs r call = record {
  stored = only_more old new (IsSlotOf (IsGiven (rules_of old.spec) plans k) old top) IsAnySlot (λ m slot s. tt) call.frame;
  at = refl;
  detached = refl;
  tracked = λ first tracked.
      tracked_still old new (IsSlotOf (IsGiven (rules_of old.spec) plans k) old top) call.frame first top way
      (λ m op slot id at number s. tracked.covered m op slot id (slot_inside (rules_of old.spec) plans k old is top m slot s) at number) tracked;
  moves = λ sc v on fine stale. top_moves plans sc old new is w top left n v on kid k hangs was now r call fine;
}
