-- From the exchange of two trees to a scene, and from the end of the repair to what was asked.
use Rattle.std.specs.Prelude.{◌≡◌, ◌≢◌, ◌⊎◌, ℕ, Bool, true, false, cond, bytes_eq, List, [], Contains, Option, Some, None, Result, Ok, Err, OnOk, MatchResult, option_map, unwrap_or}
use Rattle.std.proofs.Common.{refl, sym, ap, ◌∙◌, subst, inl, inr}
use Rattle.std.proofs.lemmas.Bool.{false≢true}
use Rattle.sg_kinds.proofs.Elementary.{bytes_is, bytes_itself}
use Rattle.sg_kinds.specs.Evaluation.{untyped}
use Rattle.sg_kinds.specs.Terms.{Term}
use Rattle.sg_kinds.specs.Places.{Place, sub}
use Rattle.sg_kinds.specs.Nets.{Reference, label_of, net_of, phylum_at}
use Rattle.sg_kinds.specs.Instances.{Site, is_inherited_at, site_above, site_at, site_of}
use Rattle.sg_kinds.specs.Dependencies.{IsAttr, occurrence}
use Rattle.sg_kinds.specs.Specification.{is_inherited, rules_of}
use Rattle.sg_kinds.specs.declared.plans.Plans.{Plans}
use Rattle.sg_kinds.specs.declared.spec.Rules.{Rules}
use Rattle.sg_pool.specs.Pools.{value_at}
use Rattle.sg_eval.specs.declared.journal.Instance.{Instance}
use Rattle.sg_forest.specs.declared.node_id.NodeId.{NodeId}
use Rattle.sg_forest.specs.Trees.{IsInside, Climbs}
use Rattle.sg_forest.proofs.Paths.{inside_itself}
use Rattle.sg_groves.specs.Grove.{Grove, nodes, IsGrove}
use Rattle.sg_groves.specs.Stored.{number_at, value_there}
use Rattle.sg_groves.specs.Unchanged.{OnlyStored}
use Rattle.sg_groves.proofs.Frames.{number_stands, only_climbed, only_more, only_twice, only_value}
use Rattle.sg_groves.proofs.Ways.{one_node, one_way}
use Rattle.sg_orders.proofs.KeysFall.{site_found}
use Rattle.sg_plans.proofs.Bearers.{inherited_at}
use Rattle.sg_terms.specs.Entries.{Gained, GainedAll}
use Rattle.sg_terms.proofs.Same.{Stands-grown}
use Rattle.sg_attrib.proofs.Listed.{gained_all_before, gained_before, gained_more, gained_same}
use Rattle.sg_attrib.proofs.Placed.{placed_still}
use Rattle.sg_propagate.specs.Worklist.{Worklist}
use Rattle.sg_propagate.specs.Scenes.{Scene, term_now, value_now, value_was, IsMeant, IsCalm, IsStaged, IsSetUp, AreFine, AreStale}
use Rattle.sg_propagate.specs.Moves.{AreMeant, Finishes, IsSlotAt, IsTouched, IsRefSlot, Moves, within, meant}
use Rattle.sg_propagate.proofs.Staged.{calm_outside, calm_same}
use Rattle.sg_propagate.proofs.Risen.{IsEquation}

-- places are equal or not
same_place : (u v : Place) → (u ≡ v) ⊎ (u ≢ v)
same_place u v = by (bytes_eq u v) refl
  where
    by : (b : Bool) → bytes_eq u v ≡ b → (u ≡ v) ⊎ (u ≢ v)
    by true test = inl (bytes_is u v test)
    by false test = inr (λ same. false≢true (sym test ∙ ap (bytes_eq u) (sym same) ∙ bytes_itself u))

-- what an equation above a node defines there is inherited
inherited_there : (rules : Rules) (t : Term) (a : Reference Place) (i : Site Place) → site_of rules (net_of t) a ≡ Some i → i.node ≢ a.node → is_inherited_at rules (net_of t) a ≡ true
inherited_there rules t a i found above = by (is_inherited_at rules (net_of t) a) refl
  where
    by : (b : Bool) → is_inherited_at rules (net_of t) a ≡ b → is_inherited_at rules (net_of t) a ≡ true
    by true is = is
    by false is = absurd (
        let own : site_at rules.rules (net_of t) a.node (occurrence 0 a.slot) ≡ Some i =
        sym (ap (λ b. cond b (site_above rules.rules (net_of t) a.slot ((net_of t).up a.node)) (site_at rules.rules (net_of t) a.node (occurrence 0 a.slot))) is) ∙ found in
        above (site_found rules t a.node (occurrence 0 a.slot) i own).node)

-- the old top's inherited values are handed to the new one
module _ (plans : Plans) (sc : Scene) (g now : Grove) (is : IsGrove g) (set : IsSetUp plans sc g) (X : ℕ) (phylum : phylum_at sc.spec.ops (label_of (sub (term_now sc) sc.place)) ≡ Some X) (only : OnlyStored g now (IsSlotAt sc.top))
    (handed : (slot : ℕ) → is_inherited sc.spec.phyla X slot ≡ true → IsAttr (rules_of sc.spec) X slot → number_at now sc.top slot ≡ number_at g sc.left slot) (attr : (slot : ℕ) → is_inherited sc.spec.phyla X slot ≡ true → IsAttr (rules_of sc.spec) X slot) where
  left_apart : (slot : ℕ) → IsSlotAt sc.top sc.left slot → ⊥
  left_apart slot same = set.apart (record { path = sc.place; climbs = subst (λ c. Climbs (nodes g) sc.place c sc.root) (sym same) set.placed.way })

  left_value : (slot : ℕ) → value_there now sc.left slot ≡ value_there g sc.left slot
  left_value slot = only_value g now (IsSlotAt sc.top) only is sc.left slot (left_apart slot)

  -- the pool has grown
  same_value : (slot : ℕ) (o : Option ℕ) → number_at g sc.left slot ≡ o → unwrap_or (option_map (value_at now.pool) o) untyped ≡ unwrap_or (option_map (value_at g.pool) o) untyped
  same_value slot None at = refl
  same_value slot (Some id) at =
      let stands = number_stands g is sc.left slot id at in
      ap (λ o. unwrap_or o untyped) (Stands-grown g.pool now.pool id stands.0 only.pool stands.1) ∙ sym (ap (λ o. unwrap_or o untyped) stands.1)

  handed_value : (slot : ℕ) → is_inherited sc.spec.phyla X slot ≡ true → value_there now sc.top slot ≡ value_was sc (record { node = sc.place; slot = slot })
  handed_value slot inherited =
      ap (λ o. unwrap_or (option_map (value_at now.pool) o) untyped) (handed slot inherited (attr slot inherited))
      ∙ same_value slot (number_at g sc.left slot) refl
      ∙ set.kept X slot phylum (attr slot inherited)

  climbed : (u : Place) (m : NodeId) → Climbs (nodes now) u m sc.root → Climbs (nodes g) u m sc.root
  climbed u m climbs = only_climbed g now (IsSlotAt sc.top) only u m sc.root climbs

  pub all_stale : (refs : Reference Place → Type 0) → AreStale sc now refs
  all_stale refs a m i of found far climbs = elim (same_place a.node sc.place) [
    | inl same ↦
        let up = climbed a.node m climbs in
        let node : sc.top ≡ m = one_node g is sc.place sc.top m sc.root set.placed.way (subst (λ u. Climbs (nodes g) u m sc.root) same up) in
        let ref : a ≡ record { node = sc.place; slot = a.slot } = λ j. record { node = same j; slot = a.slot } in
        let above : i.node ≢ a.node = λ e. far [] (e ∙ same) in
        let inherited = inherited_there (rules_of sc.spec) (term_now sc) a i found above in
        let by_slot : is_inherited sc.spec.phyla X a.slot ≡ true = sym (ap (λ u. is_inherited_at (rules_of sc.spec) (net_of (term_now sc)) (record { node = u; slot = a.slot })) same ∙ inherited_at (rules_of sc.spec) (term_now sc) sc.place X a.slot phylum) ∙ inherited in
        ap (λ c. value_there now c a.slot) (sym node) ∙ handed_value a.slot by_slot ∙ ap (value_was sc) (sym ref)
    | inr other ↦
        let up = climbed a.node m climbs in
        only_value g now (IsSlotAt sc.top) only is m a.slot (λ same. other (one_way g is a.node sc.place m sc.root sc.root set.placed.top set.placed.top up (subst (λ c. Climbs (nodes g) sc.place c sc.root) (sym same) set.placed.way)).0) ∙ set.stale a m i found far other up
  ]

  -- the scene begins
  pub started : (w : Worklist) → ((x : ℕ × ℕ) → Contains w.changed x → ⊥) → IsStaged plans sc now w
  started w empty = record {
    spec_is = only.spec ∙ set.spec_is;
    placed = placed_still g now (IsSlotAt sc.top) only is sc.top sc.root (term_now sc) sc.place set.placed;
    was_planned = set.was_planned;
    planned = set.planned;
    apart = λ inside. set.apart (record { path = inside.path; climbs = only_climbed g now (IsSlotAt sc.top) only inside.path sc.left sc.root inside.climbs });
    kept = λ Y slot left is_attr. left_value slot ∙ set.kept Y slot left is_attr;
    calm = λ a m calm climbs. all_stale (IsCalm sc) a m calm.site calm calm.found (calm_outside sc a calm) climbs ∙ sym (calm_same sc a calm plans set.was_planned set.planned);
    noted = λ x has. absurd (empty x has);
  }

  -- and ends
  pub finished : {A E : Type 0} (w after : Worklist) (new : Grove) (was is_now : List Instance) (r : Result A E) → Moves sc (IsEquation (rules_of sc.spec) (term_now sc) []) now new w after was is_now r → Finishes sc g new was is_now r
  finished {A} {E} w after new was is_now r m = record {
    frame = only_more g new (λ c slot. IsSlotAt sc.top c slot ⊎ IsRefSlot now sc (AreMeant sc (IsEquation (rules_of sc.spec) (term_now sc) [])) c slot) (IsTouched g sc)
        (λ c slot either. elim either [
          | inl same ↦ within (subst (λ d. IsInside (nodes g) d sc.top) (sym same) (inside_itself (nodes g) sc.top))
          | inr s ↦ meant (record { ref = s.ref; of_refs = (let o = s.of_refs in o.1); climbs = climbed s.ref.node c s.climbs; same = s.same })
        ]) (only_twice g now new (IsSlotAt sc.top) (IsRefSlot now sc (AreMeant sc (IsEquation (rules_of sc.spec) (term_now sc) []))) only m.frame);
    listed = listed_by r m.listed;
    right = right_by r m.fine;
  }
    where
      listed_by : (x : Result A E) → MatchResult x (λ _. GainedAll now sc.root (term_now sc) (AreMeant sc (IsEquation (rules_of sc.spec) (term_now sc) [])) was is_now) (λ _. Gained now sc.root (term_now sc) (AreMeant sc (IsEquation (rules_of sc.spec) (term_now sc) [])) was is_now)
          → MatchResult x (λ _. GainedAll g sc.root (term_now sc) (IsMeant sc) was is_now) (λ _. Gained g sc.root (term_now sc) (IsMeant sc) was is_now)
      listed_by (Ok x) gained =
          gained_same g sc.root (term_now sc) (AreMeant sc (IsEquation (rules_of sc.spec) (term_now sc) [])) (IsMeant sc) was is_now (λ a is_meant. is_meant.1) (λ a is_meant. ((is_meant.site, is_meant.found), is_meant))
          (gained_all_before g now (IsSlotAt sc.top) only sc.root (term_now sc) (AreMeant sc (IsEquation (rules_of sc.spec) (term_now sc) [])) was is_now gained)
      listed_by (Err e) gained =
          gained_more g sc.root (term_now sc) (AreMeant sc (IsEquation (rules_of sc.spec) (term_now sc) [])) (IsMeant sc) was is_now (λ a is_meant. is_meant.1)
          (gained_before g now (IsSlotAt sc.top) only sc.root (term_now sc) (AreMeant sc (IsEquation (rules_of sc.spec) (term_now sc) [])) was is_now gained)

      right_by : (x : Result A E) → OnOk x (AreFine sc new after (IsEquation (rules_of sc.spec) (term_now sc) []))
          → OnOk x ((a : Reference Place) (c : NodeId) (i : Site Place) → site_of (rules_of sc.spec) (net_of (term_now sc)) a ≡ Some i → Climbs (nodes new) a.node c sc.root → value_there new c a.slot ≡ value_now sc a)
      right_by (Ok x) fine = λ a c i found climbs. (fine a c (i, found) climbs).right
      right_by (Err e) fine = fine
