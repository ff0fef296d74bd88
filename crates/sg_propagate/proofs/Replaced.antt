-- What a replacement answers, by what the exchange did.
use Rattle.std.specs.Prelude.{◌≡◌, ◌≢◌, ◌⊎◌, ℕ, Bool, true, false, List, [], ◌∷◌, Option, Some, None, Result, Ok, Err, OnOk, MatchResult, slice_get, option_and_then, option_map, unwrap_or}
use Rattle.std.proofs.Common.{refl, sym, ap, ◌∙◌, subst, inl, inr}
use Rattle.std.proofs.lemmas.Bool.{false≢true}
use Rattle.sg_kinds.specs.Values.{Value}
use Rattle.sg_kinds.specs.Terms.{Term}
use Rattle.sg_kinds.specs.Places.{Place, put}
use Rattle.sg_kinds.specs.Nets.{Reference, net_of}
use Rattle.sg_kinds.specs.Instances.{Site, instances, site_of}
use Rattle.sg_kinds.specs.Sound.{IsSound}
use Rattle.sg_kinds.specs.Specification.{rules_of}
use Rattle.sg_kinds.specs.declared.spec.Spec.{Spec}
use Rattle.sg_pool.specs.Pools.{IsGrown}
use Rattle.sg_eval.specs.declared.journal.Instance.{Instance}
use Rattle.sg_forest.specs.declared.node_id.NodeId.{NodeId}
use Rattle.sg_forest.specs.Node as forest
use Rattle.sg_forest.specs.Trees.{HasRoot, IsInside, IsRoot, Climbs}
use Rattle.sg_forest.proofs.Paths.{cases_id, inside_or_not}
use Rattle.sg_groves.specs.declared.kind.Kind.{Kind}
use Rattle.sg_groves.specs.declared.part.Part.{Part}
use Rattle.sg_groves.specs.Evaluated.{IsEvaluated, is_evaluated, is_evaluated_by}
use Rattle.sg_groves.specs.Grove.{Grove, nodes, IsGrove}
use Rattle.sg_groves.specs.Stored.{number_at}
use Rattle.sg_groves.specs.Unchanged.{OnlyStored}
use Rattle.sg_groves.proofs.EvaluatedOnce.{evaluated_from, evaluated_to}
use Rattle.sg_groves.proofs.Frames.{only_climbs, only_number, only_was_root}
use Rattle.sg_groves.proofs.InstancesOnce.{instance_has}
use Rattle.sg_groves.proofs.Lists.{filter_from, filter_to}
use Rattle.sg_groves.proofs.Ways.{one_way}
use Rattle.sg_terms.specs.Entries.{AreEntries, Gained, GainedAll, IsEntry}
use Rattle.sg_trail.specs.Trails.{IsAnySlot, IsExchanged, LeadsBack, Way}
use Rattle.sg_propagate.specs.Asked.{IsAsked, root_then}
use Rattle.sg_propagate.specs.Exchanged.{Exchanges, IsRenewed, Renews, by_equation, by_subtree}
use Rattle.sg_propagate.specs.Moves.{IsTracked}

-- entries stay entries where numbers are stored
module _ (old new : Grove) (changed : NodeId → ℕ → Type 0) (only : OnlyStored old new changed) (root : NodeId) (t : Term) where
  entry_after : (a : Reference Place) (e : Instance) → IsEntry old root t a e → IsEntry new root t a e
  entry_after a e entry = record {
    way = only_climbs old new changed only a.node e.node root entry.way;
    slot_is = entry.slot_is;
    site = entry.site;
    found = subst (λ (s : Spec). site_of (rules_of s) (net_of t) a ≡ Some entry.site) (sym only.spec) entry.found;
    rule_is = subst (λ (s : Spec). slice_get s.rules e.rule ≡ Some entry.site.rule) (sym only.spec) entry.rule_is;
  }

  entries_after : (xs : List (Reference Place)) (es : List Instance) → AreEntries old root t xs es → AreEntries new root t xs es
  entries_after [] [] are = are
  entries_after [] (e ∷ es) are = absurd are
  entries_after (x ∷ xs) [] are = absurd are
  entries_after (x ∷ xs) (e ∷ es) are = (entry_after x e are.0, entries_after xs es are.1)

  pub gained_all_after : (refs : Reference Place → Type 0) (was now : List Instance) → GainedAll old root t refs was now → GainedAll new root t refs was now
  gained_all_after refs was now all =
      let g = all.gained in
      record { gained = record { refs = g.refs; entries = g.entries; are = entries_after g.refs g.entries g.are; appended = g.appended; once = g.once; among = g.among }; every = all.every }

-- an equation is evaluated or not
module _ (spec : Spec) (sound : IsSound spec) (t : Term) (u : Place) (s : Term) (a : Reference Place) where
  abbrev found : Option (Site Place)
  found = site_of (rules_of spec) (net_of (put t u s)) a

  evaluated_by : (o : Option (Site Place)) → found ≡ o → unwrap_or (option_map (is_evaluated_by spec t u s) o) false ≡ true → IsEvaluated spec t u s a
  evaluated_by None at test = absurd (false≢true test)
  evaluated_by (Some i) at test =
      evaluated_from spec t u s a
      (filter_to (is_evaluated spec t u s) (instances (rules_of spec) (put t u s)) a (instance_has spec sound (put t u s) a i at) (ap (λ o. unwrap_or (option_map (is_evaluated_by spec t u s) o) false) at ∙ test))

  evaluated_or_not : IsEvaluated spec t u s a ⊎ (IsEvaluated spec t u s a → ⊥)
  evaluated_or_not = by (is_evaluated spec t u s a) refl
    where
      by : (b : Bool) → is_evaluated spec t u s a ≡ b → IsEvaluated spec t u s a ⊎ (IsEvaluated spec t u s a → ⊥)
      by true test = inl (evaluated_by found refl test)
      by false test = inr (λ is. false≢true (sym test ∙ (filter_from (is_evaluated spec t u s) (instances (rules_of spec) (put t u s)) a (evaluated_to spec t u s sound a is)).1))

-- a slot is renewed or not
module _ (spec : Spec) (sound : IsSound spec) (g : Grove) (is : IsGrove g) (detached root : NodeId) (t : Term) (u : Place) (s : Term) (top : IsRoot (nodes g) (root_then u root detached)) (m : NodeId) (slot : ℕ) where
  abbrev Renewed : Type 0
  Renewed = IsRenewed spec g detached root t u s m slot

  -- in the tree of the root, outside the new subtree
  module _ (path : Place) (climbs : Climbs (nodes g) path m (root_then u root detached)) (out : IsInside (nodes g) m detached → ⊥) where
    abbrev here : Reference Place
    here = record { node = path; slot = slot }

    not_renewed : (IsEvaluated spec t u s here → ⊥) → Renewed → ⊥
    not_renewed never (by_subtree inside) = out inside
    not_renewed never (by_equation a evaluated way same) =
        let node = (one_way g is a.node path m (root_then u root detached) (root_then u root detached) top top way climbs).0 in
        let ref : a ≡ here = λ i. record { node = node i; slot = sym same i } in
        never (subst (IsEvaluated spec t u s) ref evaluated)

    in_tree : Renewed ⊎ (Renewed → ⊥)
    in_tree = elim (evaluated_or_not spec sound t u s here) [
      | inl evaluated ↦ inl (by_equation here evaluated climbs refl)
      | inr never ↦ inr (not_renewed never)
    ]

  renewed_or_not : HasRoot (nodes g) m → Renewed ⊎ (Renewed → ⊥)
  renewed_or_not has = elim (inside_or_not (nodes g) m detached has) [
    | inl inside ↦ inl (by_subtree inside)
    | inr out ↦ elim (cases_id has.root (root_then u root detached)) [
      | inl same ↦ in_tree has.path (subst (Climbs (nodes g) has.path m) same has.climbs) out
      | inr differs ↦ inr (elsewhere out differs)
    ]
  ]
    where
      elsewhere : (IsInside (nodes g) m detached → ⊥) → (has.root ≢ root_then u root detached) → Renewed → ⊥
      elsewhere out differs (by_subtree inside) = out inside
      elsewhere out differs (by_equation a evaluated way same) = differs (one_way g is has.path a.node m has.root (root_then u root detached) has.is_root top has.climbs way).1

-- after the exchange and what was stored then
module _ {A E : Type 0} (old new : Grove) (is : IsGrove old) (at detached : NodeId) (from to : Way) (was now : List Instance) (r : Result A E) (e : Exchanges old new at detached from to was now r) where
  abbrev mid : Grove
  mid = e.between

  pub spec_same : new.spec ≡ old.spec
  spec_same = e.stored.spec ∙ e.exchanged.spec

  pub view_same : new.view ≡ old.view
  view_same = e.stored.view ∙ e.exchanged.view

  pub pool_grown : IsGrown old.pool new.pool
  pool_grown = subst (λ (vs : List Value). IsGrown vs new.pool) e.exchanged.pool e.stored.pool

  pub leads_back : from.at ≡ at → from.detached ≡ detached → IsTracked old old detached from → LeadsBack old new to
  leads_back at_is detached_is tracked =
      let then = e.tracked tracked in
      record {
        grove = is;
        between = mid;
        exchanged = subst (λ d. IsExchanged old mid to.at d) (sym (e.detached_is ∙ detached_is)) (subst (λ a. IsExchanged old mid a detached) (sym (e.at_is ∙ at_is)) e.exchanged);
        stored = e.stored;
        storable = then.storable;
        numbers = then.numbers;
      }

  module _ (root : NodeId) (t : Term) (u : Place) (s : Term) (asked : IsAsked old at detached root t u s) where
    abbrev does : Renews old.spec mid new detached root t u s was now r
    does = e.renews root t u s asked

    mid_top : IsRoot (nodes mid) (root_then u root detached)
    mid_top = only_was_root mid new IsAnySlot e.stored (root_then u root detached) does.top

    renewed_now : (m : NodeId) (slot : ℕ) → IsRenewed old.spec mid detached root t u s m slot → IsRenewed old.spec new detached root t u s m slot
    renewed_now m slot (by_subtree inside) = by_subtree (record { path = inside.path; climbs = only_climbs mid new IsAnySlot e.stored inside.path m detached inside.climbs })
    renewed_now m slot (by_equation a evaluated climbs same) = by_equation a evaluated (only_climbs mid new IsAnySlot e.stored a.node m (root_then u root detached) climbs) same

    -- a number that is another one now is of a slot that is renewed
    pub others_renewed : (m : NodeId) (slot : ℕ) → number_at new m slot ≢ number_at old m slot → IsRenewed old.spec new detached root t u s m slot
    others_renewed m slot differs = by (nodes mid m) refl
      where
        by : (o : Option (forest.Node Kind Part)) → nodes mid m ≡ o → IsRenewed old.spec new detached root t u s m slot
        by None none = absurd (differs
            (ap (option_and_then (λ (x : forest.Node Kind Part). slice_get x.part.values slot)) (e.stored.shape.dead m none ∙ sym none) ∙ e.exchanged.numbers m slot))
        by (Some x) found = elim (renewed_or_not old.spec is.sound mid e.grove detached root t u s mid_top m slot (e.grove.forest.linked.rooted m (record { node = x; found = found }))) [
          | inl renewed ↦ renewed_now m slot renewed
          | inr never ↦ absurd (differs (only_number mid new (IsRenewed old.spec mid detached root t u s) does.frame m slot never ∙ e.exchanged.numbers m slot))
        ]

    -- what is listed
    listed_now : (x : Result A E) → MatchResult x (λ _. GainedAll mid (root_then u root detached) (put t u s) (IsEvaluated old.spec t u s) was now) (λ _. Gained mid (root_then u root detached) (put t u s) (IsEvaluated old.spec t u s) was now)
        → OnOk x (GainedAll new (root_then u root detached) (put t u s) (IsEvaluated old.spec t u s) was now)
    listed_now (Ok y) all = gained_all_after mid new IsAnySlot e.stored (root_then u root detached) (put t u s) (IsEvaluated old.spec t u s) was now all
    listed_now (Err y) some = tt

    pub evaluated_now : OnOk r (GainedAll new (root_then u root detached) (put t u s) (IsEvaluated old.spec t u s) was now)
    evaluated_now = listed_now r does.listed
