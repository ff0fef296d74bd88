-- What two trees that changed places become, whether the node was a root or hung under another.
use Rattle.std.specs.Prelude.{IfOk, ◌≡◌, ◌≢◌, ℕ, false, List, [], ◌∷◌, Contains, Option, Some, None, Result, Ok, Err, OnOk, MatchResult, option_and_then}
use Rattle.std.proofs.Common.{refl, sym, ap, ◌∙◌, subst, inl, inr}
use Rattle.std.proofs.lemmas.List.{append-nil}
use Rattle.std.proofs.lemmas.Option.{none-some, same_Some}
use Rattle.sg_kinds.specs.Values.{Value}
use Rattle.sg_kinds.specs.Terms.{Term}
use Rattle.sg_kinds.specs.Typing.{slot_type}
use Rattle.sg_kinds.specs.Places.{Place, put}
use Rattle.sg_kinds.specs.Nets.{Reference, net_of}
use Rattle.sg_kinds.specs.FromScratch.{value_in}
use Rattle.sg_kinds.specs.Instances.{Site, instances, site_of}
use Rattle.sg_kinds.specs.Specification.{is_inherited, rules_of}
use Rattle.sg_kinds.specs.ValidPlans.{AreValid}
use Rattle.sg_kinds.specs.declared.plans.Plans.{Plans}
use Rattle.sg_kinds.specs.declared.spec.Spec.{Spec}
use Rattle.sg_eval.specs.declared.journal.Instance.{Instance}
use Rattle.sg_forest.specs.declared.node_id.NodeId.{NodeId}
use Rattle.sg_forest.specs.Node as forest
use Rattle.sg_forest.specs.Trees.{IsChild, IsInside, IsLive, IsRoot, Climbs}
use Rattle.sg_forest.specs.Steps.{KeepsParts, IsSwapped, SameSort}
use Rattle.sg_forest.specs.Tree.{KeepsWaysWithin, MovesWays}
use Rattle.sg_forest.proofs.Paths.{child_has_root, inside_by_parent, inside_itself, one_path, root_is_no_child, root_or_child}
use Rattle.sg_forest.proofs.Swapped as swap
use Rattle.sg_groves.specs.declared.kind.Kind.{Kind}
use Rattle.sg_groves.specs.declared.part.Part.{Part}
use Rattle.sg_groves.specs.Evaluated.{IsEvaluated}
use Rattle.sg_groves.specs.Grove.{Grove, nodes, IsTyped, IsGrove}
use Rattle.sg_groves.specs.Holds.{Holds}
use Rattle.sg_groves.specs.IsRight.{IsRight}
use Rattle.sg_groves.specs.Stored.{number_at, value_there}
use Rattle.sg_groves.specs.Unchanged.{OnlyStored}
use Rattle.sg_groves.proofs.Frames.{only_holds, only_more, only_root, only_was_root}
use Rattle.sg_groves.proofs.InstancesOnce.{instance_has, instance_site}
use Rattle.sg_terms.specs.Entries.{Gained, GainedAll}
use Rattle.sg_terms.specs.Found.{op_at}
use Rattle.sg_terms.specs.Kept.{KeepsTermsNotOver, ReplacesTerms}
use Rattle.sg_terms.specs.Storable.{IsStorable}
use Rattle.sg_terms.proofs.Written.{number_node}
use Rattle.sg_trail.specs.Trails.{IsAnySlot, IsExchanged, Way, was_in}
use Rattle.sg_attrib.proofs.Listed.{gained_more, gained_same}
use Rattle.sg_propagate.specs.Asked.{root_then, IsAsked}
use Rattle.sg_propagate.specs.Exchanged.{IsReach, Reaches, Exchanges, IsRenewed, KeepsOtherRoots, Renews, by_equation, by_subtree}
use Rattle.sg_propagate.specs.Moves.{Finishes, IsTouched, IsTracked, meant, within}
use Rattle.sg_propagate.specs.Scenes.{Scene, value_now, AreTops, IsSetUp}
use Rattle.sg_propagate.proofs.SetUp.{set_up}
use Rattle.sg_propagate.proofs.Tops.{tops_there}
use Rattle.sg_propagate.proofs.Tracked.{tracked_still}

-- two trees changed places
pub record IsSwap (old mid : Grove) (at detached : NodeId) : Type 0 where
  pub exchanged : IsExchanged old mid at detached
  pub same : IsRoot (nodes old) at → mid ≡ old
  pub parts : KeepsParts (nodes old) (nodes mid)
  pub replaced : ReplacesTerms old mid at detached
  pub terms : KeepsTermsNotOver old mid at
  pub freed : IsRoot (nodes mid) at
  pub roots : KeepsOtherRoots old mid at detached
  pub ways : KeepsWaysWithin (nodes old) (nodes mid) at
  pub moved : MovesWays (nodes old) (nodes mid) at detached

pub is_swap : (old mid : Grove) (at detached : NodeId) → IsLive (nodes old) at → IsRoot (nodes old) detached → (IsInside (nodes old) at detached → ⊥) → SameSort (λ (k : Kind). k.phylum) (nodes old) at detached
    → ((p : NodeId) (k : ℕ) → IsChild (nodes old) at p k → IsSwapped (nodes old) (nodes mid) at detached p k) → (IsRoot (nodes old) at → mid ≡ old) → mid.spec ≡ old.spec → mid.view ≡ old.view → mid.pool ≡ old.pool → KeepsParts (nodes old) (nodes mid)
    → ((m : NodeId) (slot : ℕ) → number_at mid m slot ≡ number_at old m slot) → ReplacesTerms old mid at detached → KeepsTermsNotOver old mid at → IsRoot (nodes mid) at → KeepsOtherRoots old mid at detached
    → KeepsWaysWithin (nodes old) (nodes mid) at → MovesWays (nodes old) (nodes mid) at detached → IsSwap old mid at detached
is_swap old mid at detached live root apart phyla swapped same spec view pool parts numbers replaced terms freed roots ways moved = record {
  exchanged = record { spec = spec; view = view; pool = pool; live = live; root = root; apart = apart; phyla = phyla; swapped = swapped; unchanged = λ top n. ap (λ (g : Grove). nodes g n) (same top); numbers = numbers };
  same = same;
  parts = parts;
  replaced = replaced;
  terms = terms;
  freed = freed;
  roots = roots;
  ways = ways;
  moved = moved;
}

module _ (old mid : Grove) (is : IsGrove old) (at detached : NodeId) (sw : IsSwap old mid at detached) where
  abbrev ex : IsExchanged old mid at detached
  ex = sw.exchanged

  -- below the root that came nothing moved
  was_below : (p : NodeId) (k : ℕ) → IsChild (nodes old) at p k → (path : List ℕ) (n : NodeId) → Climbs (nodes mid) path n detached → IsInside (nodes old) n detached
  was_below p k hangs [] n same = record { path = []; climbs = same }
  was_below p k hangs (j ∷ path) n climbs = elim (swap.was_child (nodes old) (nodes mid) at detached p k is.forest.linked hangs ex.root ex.apart (ex.swapped p k hangs) n climbs.0 j climbs.1) [
    | inl new ↦ record { path = []; climbs = new.0 }
    | inr was ↦ inside_by_parent (nodes old) n climbs.0 detached j was.1 (was_below p k hangs path climbs.0 climbs.2)
  ]

  pub was_inside : (n : NodeId) → IsInside (nodes mid) n detached → IsInside (nodes old) n detached
  was_inside n inside = elim (root_or_child (nodes old) at ex.live) [
    | inl top ↦ subst (λ (g : Grove). IsInside (nodes g) n detached) (sw.same top) inside
    | inr up ↦ was_below up.0 up.1 up.2 inside.path n inside.climbs
  ]

  op_after : (n : NodeId) (x : forest.Node Kind Part) → nodes old n ≡ Some x → op_at mid n ≡ x.label.op
  op_after n x found = let now = sw.parts.kept n x found in ap (option_and_then (λ (y : forest.Node Kind Part). y.label.op)) now.1 ∙ ap (λ (l : Kind). l.op) now.2

  op_before : (n : NodeId) (op slot id : ℕ) → op_at mid n ≡ Some op → number_at mid n slot ≡ Some id → op_at old n ≡ Some op
  op_before n op slot id at_now number =
      let x = number_node old n slot id (sym (ex.numbers n slot) ∙ number) in
      ap (option_and_then (λ (y : forest.Node Kind Part). y.label.op)) x.1 ∙ sym (op_after n x.0 x.1) ∙ at_now

  op_still : (n : NodeId) (op : ℕ) → op_at old n ≡ Some op → op_at mid n ≡ Some op
  op_still n op has = by (nodes old n) refl
    where
      by : (o : Option (forest.Node Kind Part)) → nodes old n ≡ o → op_at mid n ≡ Some op
      by None found = absurd (none-some op (sym (ap (option_and_then (λ (y : forest.Node Kind Part). y.label.op)) found) ∙ has))
      by (Some x) found = op_after n x found ∙ sym (ap (option_and_then (λ (y : forest.Node Kind Part). y.label.op)) found) ∙ has

  storable_moved : (n : NodeId) (slot id : ℕ) → IsStorable old n slot id → IsStorable mid n slot id
  storable_moved n slot id s = record {
    op = s.op;
    is = op_still n s.op s.is;
    type = s.type;
    has_type = subst (λ (z : Spec). slot_type z s.op 0 slot ≡ Some s.type) (sym ex.spec) s.has_type;
    typed = subst (λ (z : Spec). IsTyped z mid.pool s.type id) (sym ex.spec) (subst (λ (vs : List Value). IsTyped old.spec vs s.type id) (sym ex.pool) s.typed);
  }

  -- the trail tells the same
  pub tracked_moved : (way : Way) → IsTracked old old detached way → IsTracked old mid detached way
  tracked_moved way t = record {
    numbers = λ n slot. ap (was_in way.entries n slot) (ex.numbers n slot) ∙ t.numbers n slot;
    storable = λ e has. storable_moved e.node e.slot e.number (t.storable e has);
    covered = λ n op slot id inside at_now number. t.covered n op slot id (was_inside n inside) (op_before n op slot id at_now number) (sym (ex.numbers n slot) ∙ number);
  }

  -- roots and terms where numbers are stored then
  module _ (is_mid : IsGrove mid) (new : Grove) (changed : NodeId → ℕ → Type 0) (only : OnlyStored mid new changed) where
    pub freed_still : IsRoot (nodes new) at
    freed_still = only_root mid new changed only at sw.freed

    pub roots_still : KeepsOtherRoots old new at detached
    roots_still n apart other = let both = sw.roots n apart other in (λ now. both.0 (only_was_root mid new changed only n now), λ was. only_root mid new changed only n (both.1 was))

    pub terms_still : KeepsTermsNotOver old new at
    terms_still m t out holds = only_holds mid new changed only is_mid m t (sw.terms m t out holds)

  -- what is asked of the tops then
  label_after : (n : NodeId) (x y : forest.Node Kind Part) → nodes old n ≡ Some x → nodes mid n ≡ Some y → y.label ≡ x.label
  label_after n x y was now = let kept = sw.parts.kept n x was in ap (λ (z : forest.Node Kind Part). z.label) (same_Some y kept.0 (sym now ∙ kept.1)) ∙ kept.2

  live_after : (n : NodeId) (x : forest.Node Kind Part) → nodes old n ≡ Some x → IsLive (nodes mid) n
  live_after n x found = let kept = sw.parts.kept n x found in record { node = kept.0; found = kept.1 }

  pub tops_moved : IsGrove mid → AreTops mid detached at
  tops_moved is_mid = tops_there mid is_mid detached at (live_after detached ex.root.node ex.root.found) (live_after at ex.live.node ex.live.found) (λ x y at_d at_a.
      ap (λ (l : Kind). l.phylum) (label_after detached ex.root.node x ex.root.found at_d)
      ∙ sym (ex.phyla ex.live.node ex.root.node ex.live.found ex.root.found)
      ∙ sym (ap (λ (l : Kind). l.phylum) (label_after at ex.live.node y ex.live.found at_a)))

  module _ (none : (root : NodeId) (x : forest.Node Kind Part) → IsRoot (nodes old) root → IsInside (nodes old) at root → nodes old root ≡ Some x → (slot : ℕ) → is_inherited old.spec.phyla x.label.phylum slot ≡ false) where
    -- the root that came has the phylum of the root that went
    pub root_inherits : IsRoot (nodes old) at → (x : forest.Node Kind Part) → nodes mid detached ≡ Some x → (slot : ℕ) → is_inherited mid.spec.phyla x.label.phylum slot ≡ false
    root_inherits top x found slot =
        ap (λ (z : Spec). is_inherited z.phyla x.label.phylum slot) ex.spec
        ∙ ap (λ X. is_inherited old.spec.phyla X slot) (ap (λ (l : Kind). l.phylum) (label_after detached ex.root.node x ex.root.found found) ∙ sym (ex.phyla ex.live.node ex.root.node ex.live.found ex.root.found))
        ∙ none at ex.live.node top (inside_itself (nodes old) at) ex.live.found slot

    -- the tree's root is the same
    pub under_inherits : (p : NodeId) (k : ℕ) → IsChild (nodes old) at p k → (root : NodeId) (x : forest.Node Kind Part) → IsRoot (nodes mid) root → IsInside (nodes mid) detached root → nodes mid root ≡ Some x → (slot : ℕ) → is_inherited mid.spec.phyla x.label.phylum slot ≡ false
    under_inherits p k hangs root x is_root inside found slot =
        let has = child_has_root (nodes old) is.forest.linked at p k hangs in
        let top = has.is_root in
        ap (λ (z : Spec). is_inherited z.phyla x.label.phylum slot) ex.spec
        ∙ ap (λ (l : Kind). is_inherited old.spec.phyla l.phylum slot) (label_after has.root top.node x top.found (ap (nodes mid) (sym (one_top has.root has.path top has.climbs)) ∙ found))
        ∙ none has.root top.node top (record { path = has.path; climbs = has.climbs }) top.found slot
      where
        one_top : (top : NodeId) (path : Place) → IsRoot (nodes old) top → Climbs (nodes old) path at top → root ≡ top
        one_top top [] is_top same = absurd (root_is_no_child (nodes old) at p k (subst (IsRoot (nodes old)) (sym same) is_top) hangs)
        one_top top (j ∷ path) is_top climbs =
            let not_at : top ≢ at = λ e. root_is_no_child (nodes old) at climbs.0 j (subst (IsRoot (nodes old)) e is_top) climbs.1 in
            let not_detached : top ≢ detached = λ e. ex.apart (record { path = j ∷ path; climbs = subst (Climbs (nodes old) (j ∷ path) at) e climbs }) in
            let top_now = (sw.roots top not_at not_detached).1 is_top in
            (one_path (nodes mid) inside.path (j ∷ path) detached root top is_root top_now inside.climbs (sw.moved j path top climbs)).1

  -- under another node
  module _ {A E : Type 0} (plans : Plans) (is_mid : IsGrove mid) (valid : AreValid (rules_of old.spec) plans) (p : NodeId) (k : ℕ) (hangs : IsChild (nodes old) at p k) (new : Grove) (was now : List Instance) (r : Result A E) (root : NodeId) (t : Term) (s : Term)
      (finishes : (sc : Scene) → IsSetUp plans sc mid → sc.top ≡ detached → sc.left ≡ at → Finishes sc mid new was now r) where
    abbrev scene : ℕ → Place → Scene
    scene j u = record { spec = old.spec; root = root; was = t; place = j ∷ u; part = s; top = detached; left = at }

    module _ (j : ℕ) (u : Place) (asked : IsAsked old at detached root t (j ∷ u) s) where
      set : IsSetUp plans (scene j u) mid
      set = set_up plans old mid is is_mid valid at detached root t j u s asked ex sw.replaced sw.moved sw.ways sw.freed sw.roots

      ends : Finishes (scene j u) mid new was now r
      ends = finishes (scene j u) set refl refl

      held : Holds new root (put t (j ∷ u) s)
      held = only_holds mid new (IsTouched mid (scene j u)) ends.frame is_mid root (put t (j ∷ u) s) set.placed.holds

      spec_is : new.spec ≡ old.spec
      spec_is = ends.frame.spec ∙ ex.spec

      right_by : (x : Result A E) → OnOk x ((a : Reference Place) (m : NodeId) (i : Site Place) → site_of (rules_of old.spec) (net_of (put t (j ∷ u) s)) a ≡ Some i → Climbs (nodes new) a.node m root → value_there new m a.slot ≡ value_now (scene j u) a) → OnOk x (IsRight new root)
      right_by (Ok y) right = record {
        term = put t (j ∷ u) s;
        holds = held;
        right = λ v m slot i climbs found.
            right (record { node = v; slot = slot }) m i (subst (λ (z : Spec). site_of (rules_of z) (net_of (put t (j ∷ u) s)) (record { node = v; slot = slot }) ≡ Some i) spec_is found) climbs
            ∙ ap (λ (z : Spec). value_in z (put t (j ∷ u) s) (record { node = v; slot = slot })) (sym spec_is);
      }
      right_by (Err e) right = right

      renewed : (m : NodeId) (slot : ℕ) → IsTouched mid (scene j u) m slot → IsRenewed old.spec mid detached root t (j ∷ u) s m slot
      renewed m slot (within inside) = by_subtree inside
      renewed m slot (meant w) = by_equation w.ref w.of_refs w.climbs w.same

      child_renews : Renews old.spec mid new detached root t (j ∷ u) s was now r
      child_renews = record {
        top = only_root mid new (IsTouched mid (scene j u)) ends.frame root set.placed.top;
        holds = held;
        frame = only_more mid new (IsTouched mid (scene j u)) (IsRenewed old.spec mid detached root t (j ∷ u) s) renewed ends.frame;
        listed = ends.listed;
        right = right_by r ends.right;
      }

    pub renews_under : (u : Place) → IsAsked old at detached root t u s → Renews old.spec mid new detached root t u s was now r
    renews_under [] asked = absurd (root_is_no_child (nodes old) at p k (subst (IsRoot (nodes old)) (sym asked.placed.way) asked.placed.top) hangs)
    renews_under (j ∷ u) asked = child_renews j u asked

  -- at a root
  module _ {A E : Type 0} (is_mid : IsGrove mid) (is_root : IsRoot (nodes old) at) (new : Grove) (was now : List Instance) (r : Result A E)
      (holds : (t : Term) → Holds mid detached t → Holds new detached t) (right : OnOk r (IsRight new detached)) (only : OnlyStored mid new (λ n slot. IsInside (nodes mid) n detached))
      (noted : (t : Term) → Holds mid detached t → MatchResult r (λ _. GainedAll mid detached t (Contains (instances (rules_of mid.spec) t)) was now) (λ _. Gained mid detached t (Contains (instances (rules_of mid.spec) t)) was now)) where
    -- each equation is one of the new subtree
    all_to : (t s : Term) (a : Reference Place) → Contains (instances (rules_of mid.spec) s) a → IsEvaluated old.spec t [] s a
    all_to t s a has =
        let site = instance_site mid.spec s a has in
        record {
          site = site.0;
          found = subst (λ (z : Spec). site_of (rules_of z) (net_of s) a ≡ Some site.0) ex.spec site.1;
          why = inl (record { below = site.0.node; is = sym (append-nil site.0.node) });
        }

    all_from : (t s : Term) (a : Reference Place) → IsEvaluated old.spec t [] s a → Contains (instances (rules_of mid.spec) s) a
    all_from t s a e = instance_has mid.spec is_mid.sound s a e.site (subst (λ (z : Spec). site_of (rules_of z) (net_of s) a ≡ Some e.site) (sym ex.spec) e.found)

    listed_by : (t s : Term) (x : Result A E) → MatchResult x (λ _. GainedAll mid detached s (Contains (instances (rules_of mid.spec) s)) was now) (λ _. Gained mid detached s (Contains (instances (rules_of mid.spec) s)) was now)
        → MatchResult x (λ _. GainedAll mid detached s (IsEvaluated old.spec t [] s) was now) (λ _. Gained mid detached s (IsEvaluated old.spec t [] s) was now)
    listed_by t s (Ok y) all = gained_same mid detached s (Contains (instances (rules_of mid.spec) s)) (IsEvaluated old.spec t [] s) was now (all_to t s) (all_from t s) all
    listed_by t s (Err e) some = gained_more mid detached s (Contains (instances (rules_of mid.spec) s)) (IsEvaluated old.spec t [] s) was now (all_to t s) some

    pub renews_root : (root : NodeId) (t : Term) (u : Place) (s : Term) → IsAsked old at detached root t u s → Renews old.spec mid new detached root t u s was now r
    renews_root root t [] s asked =
        let part : Holds mid detached s = subst (λ (g : Grove). Holds g detached s) (sym (sw.same is_root)) asked.part in
        record {
          top = only_root mid new (λ n slot. IsInside (nodes mid) n detached) only detached (subst (λ (g : Grove). IsRoot (nodes g) detached) (sym (sw.same is_root)) ex.root);
          holds = holds s part;
          frame = only_more mid new (λ n slot. IsInside (nodes mid) n detached) (IsRenewed old.spec mid detached root t [] s) (λ m slot inside. by_subtree inside) only;
          listed = listed_by t s r (noted s part);
          right = right;
        }
    renews_root root t (j ∷ u) s asked = absurd (root_is_no_child (nodes old) at asked.placed.way.0 j is_root asked.placed.way.1)

    pub tracked_root : (way : Way) → IsTracked old old detached way → IsTracked old new detached way
    tracked_root way t =
        let moved = tracked_moved way t in
        tracked_still mid new (λ n slot. IsInside (nodes mid) n detached) only old detached way (λ n op slot id at_now number inside. moved.covered n op slot id inside at_now number) moved

    pub exchanges_root : (way : Way) → Exchanges old new at detached way way was now r
    exchanges_root way = record {
      between = mid;
      grove = is_mid;
      exchanged = ex;
      stored = only_more mid new (λ n slot. IsInside (nodes mid) n detached) IsAnySlot (λ n slot inside. tt) only;
      at_is = refl;
      detached_is = refl;
      tracked = tracked_root way;
      freed = freed_still is_mid new (λ n slot. IsInside (nodes mid) n detached) only;
      roots = roots_still is_mid new (λ n slot. IsInside (nodes mid) n detached) only;
      terms = terms_still is_mid new (λ n slot. IsInside (nodes mid) n detached) only;
      renews = renews_root;
    }

  -- the node that the change reaches
  pub reaches_under : {E : Type 0} (plans : Plans) (is_mid : IsGrove mid) (valid : AreValid (rules_of old.spec) plans) (p : NodeId) (k : ℕ) (hangs : IsChild (nodes old) at p k) (new : Grove) (r : Result NodeId E)
      → ((sc : Scene) → IsSetUp plans sc mid → sc.top ≡ detached → sc.left ≡ at → IfOk r (IsReach sc new)) → (root : NodeId) (t : Term) (u : Place) (s : Term) → IsAsked old at detached root t u s → IfOk r (Reaches old.spec new (root_then u root detached) t u s)
  reaches_under plans is_mid valid p k hangs new r reach root t [] s asked = absurd (root_is_no_child (nodes old) at p k (subst (IsRoot (nodes old)) (sym asked.placed.way) asked.placed.top) hangs)
  reaches_under plans is_mid valid p k hangs new r reach root t (j ∷ u) s asked =
      reach (record { spec = old.spec; root = root; was = t; place = j ∷ u; part = s; top = detached; left = at }) (set_up plans old mid is is_mid valid at detached root t j u s asked ex sw.replaced sw.moved sw.ways sw.freed sw.roots) refl refl

  pub reaches_root : IsRoot (nodes old) at → (new : Grove) (root : NodeId) (t : Term) (u : Place) (s : Term) → IsAsked old at detached root t u s → Reaches old.spec new (root_then u root detached) t u s detached
  reaches_root is_root new root t [] s asked = record {
    place = [];
    way = [];
    over = refl;
    climbs = refl;
    outside = λ a out. absurd (out a.node (sym (append-nil a.node)));
    own = λ X slot some left attr. absurd (some refl);
  }
  reaches_root is_root new root t (j ∷ u) s asked = absurd (root_is_no_child (nodes old) at asked.placed.way.0 j is_root asked.placed.way.1)

  pub exchanges_under : {A E : Type 0} (plans : Plans) (is_mid : IsGrove mid) (valid : AreValid (rules_of old.spec) plans) (p : NodeId) (k : ℕ) (hangs : IsChild (nodes old) at p k) (new : Grove) (from to : Way) (was now : List Instance) (r : Result A E)
      → OnlyStored mid new IsAnySlot → to.at ≡ from.at → to.detached ≡ from.detached → ((first : Grove) → IsTracked first mid detached from → IsTracked first new detached to)
      → ((sc : Scene) → IsSetUp plans sc mid → sc.top ≡ detached → sc.left ≡ at → Finishes sc mid new was now r) → Exchanges old new at detached from to was now r
  exchanges_under plans is_mid valid p k hangs new from to was now r only at_is detached_is tracked finishes = record {
    between = mid;
    grove = is_mid;
    exchanged = ex;
    stored = only;
    at_is = at_is;
    detached_is = detached_is;
    tracked = λ t. tracked old (tracked_moved from t);
    freed = freed_still is_mid new IsAnySlot only;
    roots = roots_still is_mid new IsAnySlot only;
    terms = terms_still is_mid new IsAnySlot only;
    renews = λ root t u s asked. renews_under plans is_mid valid p k hangs new was now r root t s finishes u asked;
  }
