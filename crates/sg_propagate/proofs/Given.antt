-- A call that evaluates equations which are all to be evaluated moves on.
use Rattle.std.specs.Prelude.{◌≡◌, ℕ, zero, suc, List, [], ◌∷◌, ◌++◌, Result, Ok, Err, OnOk, MatchResult}
use Rattle.std.proofs.Common.{refl, sym, ap, ◌∙◌, subst, inl}
use Rattle.sg_kinds.specs.Terms.{Term}
use Rattle.sg_kinds.specs.Places.{Place}
use Rattle.sg_kinds.specs.Nets.{Reference, net_of, referred}
use Rattle.sg_kinds.specs.FromScratch.{value_in}
use Rattle.sg_kinds.specs.Specification.{rules_of}
use Rattle.sg_kinds.specs.declared.plans.Plans.{Plans}
use Rattle.sg_kinds.specs.declared.plans.PlanStep.TheVariants.{Visit}
use Rattle.sg_kinds.specs.declared.spec.Rules.{Rules}
use Rattle.sg_kinds.specs.declared.spec.Spec.{Spec}
use Rattle.sg_eval.specs.declared.journal.Instance.{Instance}
use Rattle.sg_forest.specs.declared.node_id.NodeId.{NodeId}
use Rattle.sg_forest.specs.Trees.{IsChild, IsInside, Climbs}
use Rattle.sg_groves.specs.Grove.{Grove, nodes, IsGrove}
use Rattle.sg_groves.specs.Holds.{IsPlaced}
use Rattle.sg_groves.specs.Stored.{value_there}
use Rattle.sg_groves.specs.Unchanged.{OnlyStored}
use Rattle.sg_groves.proofs.Frames.{only_more}
use Rattle.sg_groves.proofs.Ways.{one_node, one_way}
use Rattle.sg_plans.specs.Segments.{IsGivenBy, IsOutside}
use Rattle.sg_plans.proofs.Bearers.{found_bears}
use Rattle.sg_terms.specs.Entries.{Gained, GainedAll}
use Rattle.sg_attrib.specs.Visited.{AreRight, IsGiven, IsKnown, IsSlotOf, IsStepGiven, Gives}
use Rattle.sg_attrib.proofs.Placed.{Sets, kid_placed, of_slot, one_place}
use Rattle.sg_attrib.proofs.Listed.{gained_more, gained_same}
use Rattle.sg_propagate.specs.Worklist.{Worklist}
use Rattle.sg_propagate.specs.Scenes.{Scene, term_now, value_now, IsMeant, AreNoted, AreFine}
use Rattle.sg_propagate.specs.Moves.{AreMeant, IsRefSlot, IsMore, IsOnStage, Moves}
use Rattle.sg_propagate.proofs.Staged.{more_itself, noted_still}
use Rattle.sg_propagate.proofs.Composed.{moves_again}

-- a way up in two parts
pub climb_split : (g : Grove) (x u : List ℕ) (m root : NodeId) → Climbs (nodes g) (x ++ u) m root → (c : NodeId) × Climbs (nodes g) x m c × Climbs (nodes g) u c root
climb_split g [] u m root climbs = (m, refl, climbs)
climb_split g (k ∷ x) u m root climbs = let rest = climb_split g x u climbs.0 root climbs.2 in (rest.0, (climbs.0, climbs.1, rest.1), rest.2)

-- what a visit of a node gives is at the node or below it
pub given_below : (rules : Rules) (plans : Plans) (t : Term) (u : Place) (k : ℕ) (a : Reference Place) → IsGivenBy rules plans t u k a → (x : List ℕ) × (a.node ≡ x ++ u)
given_below rules plans t u k a given =
    let at = by given.site.rule.target.at given.site.rule.target.slot in
    (at.0, sym (ap (λ (b : Reference Place). b.node) (found_bears rules t a given.site given.found)) ∙ at.1)
  where
    by : (at slot : ℕ) → (x : List ℕ) × ((referred (net_of t) given.site.node (record { at = at; slot = slot })).node ≡ x ++ u)
    by zero slot = (given.of_visit.way, given.of_visit.below)
    by (suc j) slot = (j ∷ given.of_visit.way, ap (λ w. j ∷ w) given.of_visit.below)

module _ {A E : Type 0} (sc : Scene) (old new : Grove) (is : IsGrove old) (spec_is : old.spec ≡ sc.spec) (n : NodeId) (v : Place) (placed : IsPlaced old sc.root (term_now sc) v n) (needs gives : Sets) (was now : List Instance) (r : Result A E)
    (call : Gives needs gives old new was now n r) (known : (a : Reference Place) (m : NodeId) → needs (term_now sc) v a → Climbs (nodes old) a.node m sc.root → value_there old m a.slot ≡ value_now sc a)
    (meant : (a : Reference Place) → gives (term_now sc) v a → IsMeant sc a) where
  pub written : OnlyStored old new (IsRefSlot old sc (AreMeant sc (gives (term_now sc) v)))
  written = only_more old new (IsSlotOf gives old n) (IsRefSlot old sc (AreMeant sc (gives (term_now sc) v))) (λ m slot s.
      let same = one_place old is n s.root sc.root s.term (term_now sc) s.place v s.placed placed in
      let climbs : Climbs (nodes old) s.way m sc.root = subst (Climbs (nodes old) s.way m) same.1 s.climbs in
      let given = of_slot old is gives n sc.root (term_now sc) v s.way m slot placed climbs s in
      record { ref = record { node = s.way; slot = slot }; of_refs = (given, meant (record { node = s.way; slot = slot }) given); climbs = climbs; same = refl }) call.frame

  pub listed : MatchResult r (λ _. GainedAll old sc.root (term_now sc) (AreMeant sc (gives (term_now sc) v)) was now) (λ _. Gained old sc.root (term_now sc) (AreMeant sc (gives (term_now sc) v)) was now)
  listed = by r (call.noted sc.root (term_now sc) v placed)
    where
      up : (a : Reference Place) → gives (term_now sc) v a → AreMeant sc (gives (term_now sc) v) a
      up a of = (of, meant a of)

      by : (x : Result A E) → MatchResult x (λ _. GainedAll old sc.root (term_now sc) (gives (term_now sc) v) was now) (λ _. Gained old sc.root (term_now sc) (gives (term_now sc) v) was now)
          → MatchResult x (λ _. GainedAll old sc.root (term_now sc) (AreMeant sc (gives (term_now sc) v)) was now) (λ _. Gained old sc.root (term_now sc) (AreMeant sc (gives (term_now sc) v)) was now)
      by (Ok x) all = gained_same old sc.root (term_now sc) (gives (term_now sc) v) (AreMeant sc (gives (term_now sc) v)) was now up (λ a is. is.0) all
      by (Err e) some = gained_more old sc.root (term_now sc) (gives (term_now sc) v) (AreMeant sc (gives (term_now sc) v)) was now up some

  right_needs : AreRight old sc.root (term_now sc) (needs (term_now sc) v)
  right_needs a m need climbs = known a m need climbs ∙ ap (λ (s : Spec). value_in s (term_now sc) (record { node = a.node; slot = a.slot })) (sym spec_is)

  pub right : OnOk r ((a : Reference Place) (m : NodeId) → gives (term_now sc) v a → Climbs (nodes new) a.node m sc.root → value_there new m a.slot ≡ value_now sc a)
  right = by r (call.values sc.root (term_now sc) v placed right_needs)
    where
      by : (x : Result A E) → OnOk x (AreRight new sc.root (term_now sc) (gives (term_now sc) v)) → OnOk x ((a : Reference Place) (m : NodeId) → gives (term_now sc) v a → Climbs (nodes new) a.node m sc.root → value_there new m a.slot ≡ value_now sc a)
      by (Ok x) are = λ a m of climbs. are a m of climbs ∙ ap (λ (s : Spec). value_in s (term_now sc) (record { node = a.node; slot = a.slot })) (call.frame.spec ∙ spec_is)
      by (Err e) are = are

-- a visit of the new subterm's top as a step of the node above
module _ {A E : Type 0} (plans : Plans) (sc : Scene) (old new : Grove) (is : IsGrove old) (w : Worklist) (top left n : NodeId) (v : Place) (on : IsOnStage plans sc old w top left n v) (kid k : ℕ) (hangs : IsChild (nodes old) top n kid) (was now : List Instance) (r : Result A E)
    (call : Gives (IsKnown (rules_of old.spec) plans k) (IsGiven (rules_of old.spec) plans k) old new was now top r) (known : AreFine sc old w (IsKnown (rules_of sc.spec) plans k (term_now sc) (kid ∷ v))) where
  abbrev rules : Rules
  rules = rules_of sc.spec

  abbrev t : Term
  t = term_now sc

  kid_here : IsPlaced old sc.root t (kid ∷ v) top
  kid_here = kid_placed old is n top sc.root kid t v hangs (record { top = on.staged.placed.top; holds = on.staged.placed.holds; way = on.climbs })

  pub top_place : kid ∷ v ≡ sc.place
  top_place = let s = on.staged.placed in (one_way old is (kid ∷ v) sc.place top sc.root sc.root s.top s.top kid_here.way (subst (λ c. Climbs (nodes old) sc.place c sc.root) on.top_is s.way)).0

  call_here : Gives (IsKnown rules plans k) (IsGiven rules plans k) old new was now top r
  call_here = subst (λ (s : Spec). Gives (IsKnown (rules_of s) plans k) (IsGiven (rules_of s) plans k) old new was now top r) on.staged.spec_is call

  all_meant : (a : Reference Place) → IsGiven rules plans k t (kid ∷ v) a → IsMeant sc a
  all_meant a given = record { site = given.site; found = given.found; why = inl (record { below = given.of_visit.way; is = given.of_visit.below ∙ ap (λ w. given.of_visit.way ++ w) top_place }) }

  all_known : (a : Reference Place) (m : NodeId) → IsKnown rules plans k t (kid ∷ v) a → Climbs (nodes old) a.node m sc.root → value_there old m a.slot ≡ value_now sc a
  all_known a m need climbs = (known a m need climbs).right

  inside : (a : Reference Place) → IsGiven rules plans k t (kid ∷ v) a → IsOutside sc.place a.node → ⊥
  inside a given far = let b = given_below rules plans t (kid ∷ v) k a given in far b.0 (b.1 ∙ ap (λ w. b.0 ++ w) top_place)

  top_frame : OnlyStored old new (IsRefSlot old sc (AreMeant sc (IsGiven rules plans k t (kid ∷ v))))
  top_frame = written sc old new is on.staged.spec_is top (kid ∷ v) kid_here (IsKnown rules plans k) (IsGiven rules plans k) was now r call_here all_known all_meant

  fine_by : (x : Result A E) → OnOk x ((a : Reference Place) (m : NodeId) → IsGiven rules plans k t (kid ∷ v) a → Climbs (nodes new) a.node m sc.root → value_there new m a.slot ≡ value_now sc a) → OnOk x (AreFine sc new w (IsGiven rules plans k t (kid ∷ v)))
  fine_by (Ok x) right = λ a m given climbs. record { right = right a m given climbs; noted = λ far other. absurd (inside a given far); awake = λ far other. absurd (inside a given far) }
  fine_by (Err e) right = right

  noted_by : (x : Result A E) → OnOk x (AreNoted sc new w)
  noted_by (Ok x) = noted_still plans sc old new is w w (AreMeant sc (IsGiven rules plans k t (kid ∷ v))) on.staged top_frame on.staged.noted
  noted_by (Err e) = tt

  more_by : (x : Result A E) → OnOk x (IsMore w w)
  more_by (Ok x) = more_itself w
  more_by (Err e) = tt

  again_by : (x : Result A E) → OnOk x ((a : Reference Place) → IsStepGiven rules plans (Visit kid k) t v a → IsGiven rules plans k t (kid ∷ v) a)
  again_by (Ok x) = λ a given. record { site = given.site; found = given.found; of_visit = given.of_step }
  again_by (Err e) = tt

  pub top_moves : Moves sc (IsStepGiven rules plans (Visit kid k) t v) old new w w was now r
  top_moves =
      moves_again sc (IsGiven rules plans k t (kid ∷ v)) (IsStepGiven rules plans (Visit kid k) t v) old new w w was now r (λ a given. record { site = given.site; found = given.found; of_step = given.of_visit }) (again_by r)
      (record {
        frame = top_frame;
        listed = listed sc old new is on.staged.spec_is top (kid ∷ v) kid_here (IsKnown rules plans k) (IsGiven rules plans k) was now r call_here all_known all_meant;
        fine = fine_by r (right sc old new is on.staged.spec_is top (kid ∷ v) kid_here (IsKnown rules plans k) (IsGiven rules plans k) was now r call_here all_known all_meant);
        noted = noted_by r;
        more = more_by r;
      })

-- a slot that a visit of a node stores is in the node's tree
pub slot_inside : (rules : Rules) (plans : Plans) (k : ℕ) (g : Grove) → IsGrove g → (n m : NodeId) (slot : ℕ) → IsSlotOf (IsGiven rules plans k) g n m slot → IsInside (nodes g) m n
slot_inside rules plans k g is n m slot s =
    let b = given_below rules plans s.term s.place k (record { node = s.way; slot = slot }) s.of_refs in
    let parts = climb_split g b.0 s.place m s.root (subst (λ w. Climbs (nodes g) w m s.root) b.1 s.climbs) in
    let same : parts.0 ≡ n = one_node g is s.place parts.0 n s.root parts.2 s.placed.way in
    record { path = b.0; climbs = subst (Climbs (nodes g) b.0 m) same parts.1 }
