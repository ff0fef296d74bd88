-- What the evaluation of an equation at a node stores and lists.
use Rattle.std.specs.Prelude.{◌≡◌, refl, ℕ, List, [], ◌∷◌, ◌++◌, map, All, Contains, Ok, Err, Some, slice_get, option_map, unwrap_or}
use Rattle.std.proofs.Common.{sym, ap, ◌∙◌, subst, inl, inr}
use Rattle.std.proofs.lemmas.Option.{same_Some}
use Rattle.std.proofs.lemmas.List.Elements.{All-contains}
use Rattle.sg_kinds.proofs.Elementary.{slice_get-Contains, slice_get-All}
use Rattle.sg_kinds.specs.Values.{Value}
use Rattle.sg_kinds.specs.Evaluation.{untyped}
use Rattle.sg_kinds.specs.Outcome.{outcome}
use Rattle.sg_kinds.specs.Terms.{Term}
use Rattle.sg_kinds.specs.Places.{Place}
use Rattle.sg_kinds.specs.Nets as nets
use Rattle.sg_kinds.specs.Nets.{Reference, net_of, referred}
use Rattle.sg_kinds.specs.Instances.{Site, site_of, args_at}
use Rattle.sg_kinds.specs.FromScratch.{value_in}
use Rattle.sg_kinds.specs.Specification.{rules_of}
use Rattle.sg_kinds.specs.ValidPlans.{AreValid}
use Rattle.sg_kinds.specs.declared.plans.Plans.{Plans}
use Rattle.sg_kinds.specs.declared.plans.PlanStep.TheVariants.{Eval}
use Rattle.sg_kinds.specs.declared.spec.Occurrence.{Occurrence}
use Rattle.sg_kinds.specs.declared.spec.Rule.{Rule}
use Rattle.sg_kinds.specs.declared.spec.Rules.{Rules}
use Rattle.sg_kinds.specs.declared.spec.Spec.{Spec}
use Rattle.sg_pool.specs.Pools.{StandsFor, value_at}
use Rattle.sg_eval.specs.declared.journal.Instance.{Instance}
use Rattle.sg_forest.specs.declared.node_id.NodeId.{NodeId}
use Rattle.sg_forest.specs.Trees.{Climbs}
use Rattle.sg_groves.specs.Grove.{Grove, nodes, IsGrove}
use Rattle.sg_groves.specs.Stored.{number_at, value_there}
use Rattle.sg_groves.specs.Holds.{IsPlaced}
use Rattle.sg_groves.specs.IsRight.{IsRightAt}
use Rattle.sg_groves.specs.Unchanged.{OnlyStored}
use Rattle.sg_groves.proofs.Frames.{only_climbed, only_more}
use Rattle.sg_groves.proofs.Lists.{contains_first, contains_either, contains_later, contains_none, apart_none, apart_cons}
use Rattle.sg_groves.proofs.Ways.{one_node}
use Rattle.sg_dependencies.specs.Vertices.{IsVertex, AreInRange}
use Rattle.sg_dependencies.proofs.SoundRules.{sound_range}
use Rattle.sg_orders.specs.LiveSites.{IsLive}
use Rattle.sg_plans.specs.Planned.{IsPlanned}
use Rattle.sg_plans.specs.Segments.{bearer}
use Rattle.sg_plans.proofs.Bearers.{bearer_found, found_bears}
use Rattle.sg_plans.proofs.Solved.{solved}
use Rattle.sg_terms.specs.Found.{op_at}
use Rattle.sg_terms.specs.Entries.{IsEntry, Gained, GainedAll}
use Rattle.sg_terms.specs.Occurrences.{value_for, IsBearer, IsEntryAt, NotedAtMost}
use Rattle.sg_terms.specs.Storable.{IsSlot, IsNoSlot}
use Rattle.sg_attrib.specs.Visited.{AreRight, IsArgument, IsStepGiven, IsSlotOf, Gives}
use Rattle.sg_attrib.proofs.Placed.{Sets, has_place}
use Rattle.sg_attrib.proofs.Listed.{all_of, gained_nothing}
use Rattle.sg_attrib.proofs.Nodes.{op_live, op_label, planned, StandsThere, stands_there, value_is}

-- lists of values that agree element by element
pub mapped_alike : (f : Occurrence → Value) (h : Reference Place → Value) (at : Occurrence → Reference Place) (xs : List Occurrence) → ((o : Occurrence) → Contains xs o → f o ≡ h (at o)) → map f xs ≡ map h (map at xs)
mapped_alike f h at [] same = refl
mapped_alike f h at (o ∷ xs) same = λ i. same o (contains_first o xs) i ∷ mapped_alike f h at xs (λ x has. same x (contains_later o xs x has)) i

pub argument_vertex : (g : Grove) → IsGrove g → (r : ℕ) (x : Rule) → slice_get g.spec.rules r ≡ Some x → (o : Occurrence) → Contains x.args o → IsVertex (rules_of g.spec) x.op o
argument_vertex g is r x at o names =
    let range = sound_range g.spec is.sound.counted is.sound.shapes is.sound.rules in
    All-contains (IsVertex (rules_of g.spec) x.op) x.args o (slice_get-All (λ (q : Rule). All (IsVertex (rules_of g.spec) q.op) q.args) g.spec.rules r x range.equations.args at) names

module _ (old : Grove) (is_grove : IsGrove old) (plans : Plans) (valid : AreValid (rules_of old.spec) plans) (n : NodeId) (r : ℕ) (x : Rule) (at : slice_get old.spec.rules r ≡ Some x) (op_is : op_at old n ≡ Some x.op) where
  abbrev rules : Rules
  rules = rules_of old.spec

  abbrev gives : Sets
  gives = IsStepGiven rules plans (Eval r)

  range : AreInRange rules
  range = sound_range old.spec is_grove.sound.counted is_grove.sound.shapes is_grove.sound.rules

  target_vertex : IsVertex rules x.op x.target
  target_vertex = slice_get-All (λ (q : Rule). IsVertex rules q.op q.target) old.spec.rules r x range.equations.targets at

  arg_vertex : (o : Occurrence) → Contains x.args o → IsVertex rules x.op o
  arg_vertex = argument_vertex old is_grove r x at

  module _ (root : NodeId) (t : Term) (u : Place) (placed : IsPlaced old root t u n) where
    plan : IsPlanned old.spec plans t
    plan = planned old is_grove plans valid root t placed.top placed.holds

    abbrev here : Site Place
    here = record { node = u; rule = x }

    abbrev defined : Reference Place
    defined = referred (net_of t) u x.target

    live : IsLive rules t here
    live = record { label = op_label old is_grove n root t u placed x.op op_is; stands = slice_get-Contains old.spec.rules r x at }

    found_here : site_of rules (net_of t) defined ≡ Some here
    found_here = bearer_found old.spec t plan.root plan.sound plan.fits here live

    given_here : gives t u defined
    given_here = record { site = here; found = found_here; of_step = (refl, at) }

    -- nothing else is given
    given_is : (a : Reference Place) → gives t u a → defined ≡ a
    given_is a given =
        let step = given.of_step in
        let same : given.site.rule ≡ x = same_Some given.site.rule x (sym step.1 ∙ at) in
        let site : ◌≡◌ {A = Site Place} here given.site = λ i. record { node = sym step.0 i; rule = sym same i } in
        ap (bearer t) site ∙ found_bears rules t a given.site given.found

    target_there : StandsThere old is_grove n root t u x.target.at
    target_there = stands_there old is_grove plans n root t u x.op x.target plan placed op_is target_vertex

    arguments_known : AreRight old root t (IsArgument rules r t u) → map (value_for old n) x.args ≡ map (value_in old.spec t) (args_at (net_of t) here)
    arguments_known known = mapped_alike (value_for old n) (value_in old.spec t) (referred (net_of t) u) x.args (λ o names.
        let st = stands_there old is_grove plans n root t u x.op o plan placed op_is (arg_vertex o names) in
        value_is old is_grove n st.node o st.there ∙ known (referred (net_of t) u o) st.node (record { rule = x; at = at; occurrence = o; names = names; is = refl }) st.climbs)

    entry_here : (e : Instance) → IsEntryAt old n r x e → IsEntry old root t defined e
    entry_here e entry = record {
      way = subst (λ m. Climbs (nodes old) defined.node m root) (same_Some target_there.node e.node (sym target_there.there ∙ entry.bearer.there)) target_there.climbs;
      slot_is = entry.bearer.slot_is;
      site = here;
      found = found_here;
      rule_is = ap (slice_get old.spec.rules) entry.rule_is ∙ at;
    }

    gained_here : (was now : List Instance) (e : Instance) → IsEntryAt old n r x e → now ≡ was ++ e ∷ [] → GainedAll old root t (gives t u) was now
    gained_here was now e entry appended = record {
      gained = record {
        refs = defined ∷ [];
        entries = e ∷ [];
        are = (entry_here e entry, tt);
        appended = appended;
        once = apart_cons defined [] (contains_none defined) apart_none;
        among = all_of (gives t u) (defined ∷ []) (λ a has. elim (contains_either defined [] a has) [ inl same ↦ subst (gives t u) same given_here | inr rest ↦ absurd (contains_none a rest) ]);
      };
      every = λ a given. subst (Contains (defined ∷ [])) (given_is a given) (contains_first defined []);
    }

  module _ {A E : Type 0} (new : Grove) (was now : List Instance) where
    pub evaluated : (y : A) (m : NodeId) (slot after : ℕ) → IsBearer old n x m slot → StandsFor new.pool after (outcome old.spec x (map (value_for old n) x.args)) → number_at new m slot ≡ Some after
        → OnlyStored old new (IsSlot m slot) → now ≡ was ++ record { node = m; slot = slot; rule = r } ∷ [] → Gives {A = A} {E = E} (IsArgument rules r) gives old new was now n (Ok y)
    evaluated y m slot after bears stands stored only noted = record {
      values = λ root t u placed known a k given climbs.
          subst (λ b. (j : NodeId) → Climbs (nodes new) b.node j root → IsRightAt new t b.node j b.slot) (given_is root t u placed a given) (right_here root t u placed known) k climbs;
      frame = only_more old new (IsSlot m slot) (IsSlotOf gives old n) (λ k other s. slot_here k other s.node s.same) only;
      noted = λ root t u placed. gained_here root t u placed was now (record { node = m; slot = slot; rule = r }) (record { bearer = bears; rule_is = refl }) noted;
    }
      where
        value_now : value_there new m slot ≡ outcome old.spec x (map (value_for old n) x.args)
        value_now = ap (λ o. unwrap_or (option_map (value_at new.pool) o) untyped) stored ∙ ap (λ o. unwrap_or o untyped) stands

        right_here : (root : NodeId) (t : Term) (u : Place) (placed : IsPlaced old root t u n) → AreRight old root t (IsArgument rules r t u) → (j : NodeId) → Climbs (nodes new) (nets.node_there (net_of t) u x.target.at) j root
            → IsRightAt new t (nets.node_there (net_of t) u x.target.at) j x.target.slot
        right_here root t u placed known j climbs =
            let st = target_there root t u placed in
            let up = only_climbed old new (IsSlot m slot) only (nets.node_there (net_of t) u x.target.at) j root climbs in
            let same : j ≡ m = one_node old is_grove (nets.node_there (net_of t) u x.target.at) j st.node root up st.climbs ∙ same_Some st.node m (sym st.there ∙ bears.there) in
            ap (λ k. value_there new k x.target.slot) same ∙ ap (value_there new m) (sym bears.slot_is) ∙ value_now
            ∙ ap (outcome old.spec x) (arguments_known root t u placed known)
            ∙ sym (solved old.spec plans t (plan root t u placed) (here root t u placed) (live root t u placed))
            ∙ ap (λ (s : Spec). value_in s t (defined root t u placed)) (sym only.spec)

        slot_here : (k : NodeId) (other : ℕ) → k ≡ m → other ≡ slot → IsSlotOf gives old n k other
        slot_here k other node same =
            let p = has_place old is_grove n (op_live old is_grove n x.op op_is) in
            let st = target_there p.root p.term p.place p.placed in
            record {
              root = p.root;
              term = p.term;
              place = p.place;
              placed = p.placed;
              way = nets.node_there (net_of p.term) p.place x.target.at;
              climbs = subst (λ j. Climbs (nodes old) (nets.node_there (net_of p.term) p.place x.target.at) j p.root) (same_Some st.node m (sym st.there ∙ bears.there) ∙ sym node) st.climbs;
              of_refs = subst (λ z. gives p.term p.place (record { node = nets.node_there (net_of p.term) p.place x.target.at; slot = z })) (sym (same ∙ bears.slot_is)) (given_here p.root p.term p.place p.placed);
            }

    pub not_evaluated : (y : E) → OnlyStored old new IsNoSlot → NotedAtMost old n r x was now → Gives {A = A} {E = E} (IsArgument rules r) gives old new was now n (Err y)
    not_evaluated y only noted = record {
      values = λ root t u placed known. tt;
      frame = only_more old new IsNoSlot (IsSlotOf gives old n) (λ k other none. absurd none) only;
      noted = λ root t u placed. elim noted [
        | inl same ↦ subst (Gained old root t (gives t u) was) (sym same) (gained_nothing old root t (gives t u) was)
        | inr one ↦ (gained_here root t u placed was now one.0 one.1 one.2).gained
      ];
    }
