-- An equation outside the new subterm that is evaluated.
use Rattle.std.specs.Prelude.{◌≡◌, ◌≢◌, ℕ, ◌<◌, List, length, Contains, Result, Ok, Err, Some, slice_get, option_map, unwrap_or}
use Rattle.std.proofs.Common.{refl, sym, ap, ◌∙◌, subst, inl, inr}
use Rattle.std.proofs.lemmas.Option.{same_Some, slice_get_within}
use Rattle.sg_kinds.proofs.Elementary.{slice_get-All, slice_get-Contains}
use Rattle.sg_kinds.specs.Evaluation.{untyped}
use Rattle.sg_kinds.specs.Values.{Value}
use Rattle.sg_kinds.specs.Terms.{Term}
use Rattle.sg_kinds.specs.Places.{Place}
use Rattle.sg_kinds.specs.Nets as nets
use Rattle.sg_kinds.specs.Nets.{Reference, net_of, referred}
use Rattle.sg_kinds.specs.Instances.{Site, site_of}
use Rattle.sg_kinds.specs.Specification.{rules_of}
use Rattle.sg_kinds.specs.declared.plans.Plans.{Plans}
use Rattle.sg_kinds.specs.declared.plans.PlanStep.TheVariants.{Eval}
use Rattle.sg_kinds.specs.declared.spec.Rule.{Rule}
use Rattle.sg_kinds.specs.declared.spec.Rules.{Rules}
use Rattle.sg_kinds.specs.declared.spec.Spec.{Spec}
use Rattle.sg_pool.specs.Pools.{StandsFor, value_at}
use Rattle.sg_eval.specs.declared.journal.Instance.{Instance}
use Rattle.sg_forest.specs.declared.node_id.NodeId.{NodeId}
use Rattle.sg_forest.specs.Trees.{Climbs}
use Rattle.sg_groves.specs.Evaluated.{HasChanged}
use Rattle.sg_groves.specs.Grove.{Grove, nodes, IsGrove}
use Rattle.sg_groves.specs.Holds.{IsPlaced}
use Rattle.sg_groves.specs.Stored.{number_at, value_there}
use Rattle.sg_groves.specs.Unchanged.{OnlyStored}
use Rattle.sg_groves.proofs.Frames.{only_climbs, number_stands}
use Rattle.sg_groves.proofs.Ways.{one_node, one_way}
use Rattle.sg_dependencies.specs.Vertices.{IsVertex}
use Rattle.sg_dependencies.proofs.SoundRules.{sound_range}
use Rattle.sg_plans.specs.Planned.{IsPlanned}
use Rattle.sg_plans.specs.Segments.{bearer}
use Rattle.sg_plans.proofs.Bearers.{bearer_found, found_bears}
use Rattle.sg_terms.specs.Entries.{GainedAll}
use Rattle.sg_terms.specs.Found.{op_at}
use Rattle.sg_terms.specs.Occurrences.{IsBearer}
use Rattle.sg_terms.proofs.Same.{Stands-grown}
use Rattle.sg_attrib.specs.Visited.{IsArgument, IsStepGiven, Gives}
use Rattle.sg_attrib.proofs.Nodes.{StandsThere, op_label, stands_there}
use Rattle.sg_propagate.specs.Worklist.{Worklist}
use Rattle.sg_propagate.specs.Scenes.{Scene, term_now, value_now, value_was, IsOther, IsMeant, IsCalm, IsFine, AreFine, AreStale}
use Rattle.sg_propagate.specs.Moves.{AreMeant, Announces, IsRefSlot, IsOnStage, Moves}
use Rattle.sg_propagate.proofs.Staged.{noted_still}
use Rattle.sg_propagate.proofs.Stepped.{placed_here}
use Rattle.sg_propagate.proofs.Given.{written, listed, right}

-- two numbers of a pool are equal where their values are
abbrev pub HasOneNumber : List Value → Type 0
HasOneNumber pool = (a b : ℕ) → a < length pool → b < length pool → value_at pool a ≡ value_at pool b → a ≡ b

-- the value of a slot by its number
pub value_by : (g : Grove) (m : NodeId) (slot id : ℕ) → number_at g m slot ≡ Some id → value_there g m slot ≡ value_at g.pool id
value_by g m slot id at = ap (λ o. unwrap_or (option_map (value_at g.pool) o) untyped) at

-- numbers before and after an evaluation are equal exactly where the values are
module _ (old new : Grove) (is : IsGrove old) (is_new : IsGrove new) (changed : NodeId → ℕ → Type 0) (only : OnlyStored old new changed) (m : NodeId) (slot was after : ℕ) (was_is : number_at old m slot ≡ Some was) (after_is : number_at new m slot ≡ Some after) where
  stands : (v : Value) × StandsFor old.pool was v
  stands = number_stands old is m slot was was_is

  old_value : value_there old m slot ≡ stands.0
  old_value = value_by old m slot was was_is ∙ ap (λ o. unwrap_or o untyped) stands.1

  still_stands : StandsFor new.pool was stands.0
  still_stands = Stands-grown old.pool new.pool was stands.0 only.pool stands.1

  pub same_number : was ≡ after → value_there new m slot ≡ value_there old m slot
  same_number e = value_by new m slot after after_is ∙ ap (value_at new.pool) (sym e) ∙ ap (λ o. unwrap_or o untyped) still_stands ∙ sym old_value

  pub same_value : HasOneNumber new.pool → value_there new m slot ≡ value_there old m slot → was ≡ after
  same_value one e =
      let there = number_stands new is_new m slot after after_is in
      one was after (slice_get_within new.pool was stands.0 still_stands) (slice_get_within new.pool after there.0 there.1)
      (ap (λ o. unwrap_or o untyped) still_stands ∙ sym old_value ∙ sym e ∙ value_by new m slot after after_is)

module _ (plans : Plans) (sc : Scene) (old : Grove) (is : IsGrove old) (w : Worklist) (top left n : NodeId) (v : Place) (on : IsOnStage plans sc old w top left n v) (rule : ℕ) (x : Rule) (at : slice_get old.spec.rules rule ≡ Some x) (op_is : op_at old n ≡ Some x.op)
    (fine : AreFine sc old w (IsArgument (rules_of sc.spec) rule (term_now sc) v)) where
  abbrev rules : Rules
  rules = rules_of sc.spec

  abbrev t : Term
  t = term_now sc

  abbrev gives : Reference Place → Type 0
  gives = IsStepGiven rules plans (Eval rule) t v

  abbrev site : Site Place
  site = record { node = v; rule = x }

  here : slice_get sc.spec.rules rule ≡ Some x
  here = ap (λ (s : Spec). slice_get s.rules rule) (sym on.staged.spec_is) ∙ at

  placed : IsPlaced old sc.root t v n
  placed = placed_here plans sc old is w top left n v on

  -- the equation is the only one
  site_is : (a : Reference Place) → (given : gives a) → ◌≡◌ {A = Site Place} site given.site
  site_is a given = let step = given.of_step in let same : given.site.rule ≡ x = same_Some given.site.rule x (sym step.1 ∙ here) in λ i. record { node = sym step.0 i; rule = sym same i }

  -- where no argument has another value it is calm
  pub all_calm : (HasChanged sc.spec sc.was sc.place sc.part site → ⊥) → (a : Reference Place) → gives a → IsCalm sc a
  all_calm clean a given = record {
    site = given.site;
    found = given.found;
    still = λ meant.
        let same : meant.site ≡ given.site = same_Some meant.site given.site (sym meant.found ∙ given.found) in
        let step = given.of_step in
        elim (meant.why) [
          | inl below ↦ on.outside below.below (sym step.0 ∙ sym (ap (λ (i : Site Place). i.node) same) ∙ below.is)
          | inr both ↦ clean (subst (HasChanged sc.spec sc.was sc.place sc.part) (same ∙ sym (site_is a given)) both.1)
        ];
  }

  -- where one has it is to be evaluated
  module _ (dirty : HasChanged sc.spec sc.was sc.place sc.part site) where
    all_meant : (a : Reference Place) → gives a → IsMeant sc a
    all_meant a given =
        let step = given.of_step in
        record { site = given.site; found = given.found; why = inr (λ below. on.outside below.below (sym step.0 ∙ below.is), subst (HasChanged sc.spec sc.was sc.place sc.part) (site_is a given) dirty) }

    known : (a : Reference Place) (m : NodeId) → IsArgument rules rule t v a → Climbs (nodes old) a.node m sc.root → value_there old m a.slot ≡ value_now sc a
    known a m need climbs = (fine a m need climbs).right

    module _ {A E : Type 0} (new : Grove) (was now : List Instance) (r : Result A E) (call : Gives (IsArgument (rules_of old.spec) rule) (IsStepGiven (rules_of old.spec) plans (Eval rule)) old new was now n r) where
      call_here : Gives (IsArgument rules rule) (IsStepGiven rules plans (Eval rule)) old new was now n r
      call_here = subst (λ (s : Spec). Gives (IsArgument (rules_of s) rule) (IsStepGiven (rules_of s) plans (Eval rule)) old new was now n r) on.staged.spec_is call

      pub eval_frame : OnlyStored old new (IsRefSlot old sc (AreMeant sc gives))
      eval_frame = written sc old new is on.staged.spec_is n v placed (IsArgument rules rule) (IsStepGiven rules plans (Eval rule)) was now r call_here known all_meant

    -- the evaluation was refused
    pub eval_failed : {A E : Type 0} (new : Grove) (after : Worklist) (was now : List Instance) (e : E) → Gives {A = A} {E = E} (IsArgument (rules_of old.spec) rule) (IsStepGiven (rules_of old.spec) plans (Eval rule)) old new was now n (Err e)
        → Moves {A = A} {E = E} sc gives old new w after was now (Err e)
    eval_failed {A} {E} new after was now e call = record {
      frame = eval_frame {A = A} {E = E} new was now (Err e) call;
      listed = listed sc old new is on.staged.spec_is n v placed (IsArgument rules rule) (IsStepGiven rules plans (Eval rule)) was now (Err e) (call_here {A = A} {E = E} new was now (Err e) call) known all_meant;
      fine = tt;
      noted = tt;
      more = tt;
    }

    module _ {A E : Type 0} (new : Grove) (is_new : IsGrove new) (after : Worklist) (was now : List Instance) (y : A) (m : NodeId) (slot before behind : ℕ) (bears : IsBearer old n x m slot) (before_is : number_at old m slot ≡ Some before) (behind_is : number_at new m slot ≡ Some behind)
        (one : HasOneNumber new.pool) (stale : AreStale sc old gives) (call : Gives {A = A} {E = E} (IsArgument (rules_of old.spec) rule) (IsStepGiven (rules_of old.spec) plans (Eval rule)) old new was now n (Ok y)) where
      frame_now : OnlyStored old new (IsRefSlot old sc (AreMeant sc gives))
      frame_now = eval_frame {A = A} {E = E} new was now (Ok y) call

      listed_now : GainedAll old sc.root t (AreMeant sc gives) was now
      listed_now = listed {A = A} {E = E} sc old new is on.staged.spec_is n v placed (IsArgument rules rule) (IsStepGiven rules plans (Eval rule)) was now (Ok y) (call_here {A = A} {E = E} new was now (Ok y) call) known all_meant

      right_now : (a : Reference Place) (c : NodeId) → gives a → Climbs (nodes new) a.node c sc.root → value_there new c a.slot ≡ value_now sc a
      right_now = right {A = A} {E = E} sc old new is on.staged.spec_is n v placed (IsArgument rules rule) (IsStepGiven rules plans (Eval rule)) was now (Ok y) (call_here {A = A} {E = E} new was now (Ok y) call) known all_meant

      -- it was refused room for the marks
      pub eval_stopped : {B D : Type 0} (e : D) → Moves {A = B} {E = D} sc gives old new w after was now (Err e)
      eval_stopped e = record { frame = frame_now; listed = listed_now.gained; fine = tt; noted = tt; more = tt }

      plan : IsPlanned old.spec plans t
      plan = subst (λ (s : Spec). IsPlanned s plans t) (sym on.staged.spec_is) on.staged.planned

      target_there : StandsThere old is n sc.root t v x.target.at
      target_there =
          let range = sound_range old.spec is.sound.counted is.sound.shapes is.sound.rules in
          stands_there old is plans n sc.root t v x.op x.target plan placed op_is (slice_get-All (λ (q : Rule). IsVertex (rules_of old.spec) q.op q.target) old.spec.rules rule x range.equations.targets at)

      target_node : target_there.node ≡ m
      target_node = same_Some target_there.node m (sym target_there.there ∙ bears.there)

      defined_climbs : Climbs (nodes old) (nets.node_there (net_of t) v x.target.at) m sc.root
      defined_climbs = subst (λ c. Climbs (nodes old) (nets.node_there (net_of t) v x.target.at) c sc.root) target_node target_there.climbs

      found_here : site_of rules (net_of t) (referred (net_of t) v x.target) ≡ Some site
      found_here =
          let p = on.staged.planned in
          bearer_found sc.spec t p.root p.sound p.fits site (record { label = op_label old is n sc.root t v placed x.op op_is; stands = slice_get-Contains sc.spec.rules rule x here })

      abbrev ref0 : Reference Place
      ref0 = referred (net_of t) v x.target

      given_here : gives ref0
      given_here = record { site = site; found = found_here; of_step = (refl, here) }

      old_is : value_there old m x.target.slot ≡ value_was sc ref0
      old_is = stale ref0 m site given_here found_here on.outside defined_climbs

      new_climbs : Climbs (nodes new) ref0.node m sc.root
      new_climbs = only_climbs old new (IsRefSlot old sc (AreMeant sc gives)) frame_now ref0.node m sc.root defined_climbs

      new_is : value_there new m x.target.slot ≡ value_now sc ref0
      new_is = right_now ref0 m given_here new_climbs

      number_was : number_at old m x.target.slot ≡ Some before
      number_was = ap (number_at old m) (sym bears.slot_is) ∙ before_is

      number_is : number_at new m x.target.slot ≡ Some behind
      number_is = ap (number_at new m) (sym bears.slot_is) ∙ behind_is

      other_number : IsOther sc ref0 → before ≢ behind
      other_number other e = other (sym new_is ∙ same_number old new is is_new (IsRefSlot old sc (AreMeant sc gives)) frame_now m x.target.slot before behind number_was number_is e ∙ old_is)

      number_other : before ≢ behind → IsOther sc ref0
      number_other differs e = differs (same_value old new is is_new (IsRefSlot old sc (AreMeant sc gives)) frame_now m x.target.slot before behind number_was number_is one (new_is ∙ e ∙ sym old_is))

      given_ref : (a : Reference Place) → gives a → ref0 ≡ a
      given_ref a given = ap (bearer t) (site_is a given) ∙ found_bears rules t a given.site given.found

      pub eval_done : {B : Type 0} (z : B) → Announces {A = B} {E = E} w after n m slot before behind (Ok z) → Moves {A = B} {E = E} sc gives old new w after was now (Ok z)
      eval_done z told = record {
        frame = frame_now;
        listed = listed_now;
        fine = λ a c given climbs. subst (λ (b : Reference Place). Climbs (nodes new) b.node c sc.root → IsFine sc new after b c) (given_ref a given) (fine_ref c) climbs;
        noted = λ k has. elim (told.only k has) [
          | inl old_has ↦ noted_still plans sc old new is w w (AreMeant sc gives) on.staged frame_now on.staged.noted k old_has
          | inr both ↦ record { ref = ref0; node = m; is = both.1 ∙ ap (λ j. (m.key, j)) bears.slot_is; climbs = new_climbs; other = number_other both.0 }
        ];
        more = told.more;
      }
        where
          fine_ref : (c : NodeId) → Climbs (nodes new) ref0.node c sc.root → IsFine sc new after ref0 c
          fine_ref c climbs =
              let same : m ≡ c = one_node new is_new ref0.node m c sc.root new_climbs climbs in
              record {
                right = right_now ref0 c given_here climbs;
                noted = λ far other. subst (λ d. Contains after.changed (d.key, x.target.slot)) same (subst (λ j. Contains after.changed (m.key, j)) bears.slot_is (told.noted (other_number other)));
                awake = λ far other i found above. subst (λ d. Contains after.active d.key) same (told.awake (other_number other) (λ e.
                    above (ap (λ (k : Site Place). k.node) (same_Some i site (sym found ∙ found_here)) ∙ (one_way old is v ref0.node n sc.root sc.root on.staged.placed.top on.staged.placed.top on.climbs (subst (λ d. Climbs (nodes old) ref0.node d sc.root) e defined_climbs)).0)));
              }
