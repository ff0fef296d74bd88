-- Other marks of a node of the edited term.
use Rattle.std.specs.Prelude.{◌≡◌, ◌≢◌, refl, ℕ, Bool, [], ◌∷◌, None, Some, option_map, unwrap_or}
use Rattle.std.proofs.Common.{sym, ap, ◌∙◌, subst, inl, inr}
use Rattle.std.proofs.lemmas.Option.{same_Some}
use Rattle.sg_kinds.specs.Evaluation.{untyped}
use Rattle.sg_kinds.specs.Terms.{Term, Leaf, Node}
use Rattle.sg_kinds.specs.Fits.{Fits}
use Rattle.sg_kinds.specs.FromScratch.{value_in}
use Rattle.sg_kinds.specs.Instances.{site_of}
use Rattle.sg_kinds.specs.Nets.{net_of}
use Rattle.sg_kinds.specs.Places.{Place, put, sub}
use Rattle.sg_kinds.specs.Specification.{rules_of}
use Rattle.sg_kinds.specs.declared.spec.Spec.{Spec}
use Rattle.sg_kinds.proofs.TermLaws.{sub_put}
use Rattle.sg_pool.specs.Pools.{value_at}
use Rattle.sg_forest.specs.declared.node_id.NodeId.{NodeId}
use Rattle.sg_forest.specs.Node as forest
use Rattle.sg_forest.specs.Steps.{IsPartSet, KeepsShape}
use Rattle.sg_forest.specs.Trees.{Climbs, IsLive, IsRoot}
use Rattle.sg_forest.proofs.Paths.{cases_id}
use Rattle.sg_forest.proofs.Shape as shapes
use Rattle.sg_groves.specs.declared.kind.Kind.{Kind}
use Rattle.sg_groves.specs.declared.part.Part.{Part}
use Rattle.sg_groves.specs.Grove.{Grove, nodes, IsGrove}
use Rattle.sg_groves.specs.Holds.{Holds}
use Rattle.sg_groves.specs.IsRight.{IsRight}
use Rattle.sg_groves.specs.Stored.{number_at, value_there}
use Rattle.sg_groves.proofs.Held.{held_fits, one_term, part_held}
use Rattle.sg_groves.proofs.Puts.{put_put}
use Rattle.sg_groves.proofs.Ways.{one_way}
use Rattle.sg_terms.specs.Kept.{ChangesTerms, KeepsTermsWithout}
use Rattle.sg_terms.specs.Labels.{with_scheme, with_elided}
use Rattle.sg_build.proofs.Roots.{one_phylum}
use Rattle.sg_changes.specs.Changes.{marked, with_marks}
use Rattle.sg_changes.specs.declared.spot.Selection.{Selection}
use Rattle.sg_changes.specs.declared.step.Marks.{Marks}
use Rattle.sg_changes.proofs.Marking.{part_is}
use Rattle.sg_states.specs.Seen.{settled_spot}
use Rattle.sg_states.specs.Paged.{IsWhole, IsLook}
use Rattle.sg_states.specs.declared.looks.Look.{Look}
use Rattle.sg_exchanges.specs.Turns.{MayTurn, IsSeen, IsTurned}
use Rattle.sg_exchanges.specs.declared.turns.What.TheVariants.{Shown}
use Rattle.sg_exchanges.proofs.Free.{root_free}
use Rattle.sg_exchanges.proofs.Values.{net_marked, value_marked}

abbrev TheNode : Type 0
TheNode = forest.Node Kind Part

-- what is seen in a grove of the same specification and view
pub seen_as : (old new : Grove) (root : NodeId) (t : Term) → new.spec ≡ old.spec → new.view ≡ old.view → (height : ℕ) (select : Selection) (top : ℕ) (look : Look)
    → IsLook new root t (settled_spot new.spec height new.view t select top) look → IsLook new root t (settled_spot old.spec height old.view t select top) look
seen_as old new root t spec view height select top look is =
    subst (λ v. IsLook new root t (settled_spot old.spec height v t select top) look) view
    (subst (λ (s : Spec). IsLook new root t (settled_spot s height new.view t select top) look) spec is)

-- two writes of one part
module _ (old mid new : Grove) (n : NodeId) (k : ℕ) (on : Bool) where
  pub label_stays : (x : TheNode) (part : Part) → IsPartSet (nodes old) (nodes mid) n part → nodes old n ≡ Some x → x.label.op ≢ None → (y : TheNode) → nodes mid n ≡ Some y → y.label.op ≢ None
  label_stays x part set found op y at none = op (ap (λ (z : TheNode). z.label.op) (same_Some _ y (sym (set.changed x found) ∙ at)) ∙ none)

  pub live_stays : (part : Part) (x : TheNode) → IsPartSet (nodes old) (nodes mid) n part → nodes old n ≡ Some x → IsLive (nodes mid) n
  live_stays part x set found = record { node = record x { part = part }; found = set.changed x found }

  pub set_twice : (x : TheNode) → nodes old n ≡ Some x → IsPartSet (nodes old) (nodes mid) n (record x.part { scheme = k })
      → ((y : TheNode) → nodes mid n ≡ Some y → IsPartSet (nodes mid) (nodes new) n (record y.part { elided = on })) → IsPartSet (nodes old) (nodes new) n (record x.part { scheme = k; elided = on })
  set_twice x found one two =
      let at = one.changed x found in
      let next = two (record x { part = record x.part { scheme = k } }) at in
      record {
        changed = λ y there.
            let same : x ≡ y = same_Some x y (sym found ∙ there) in
            subst (λ (z : TheNode). nodes new n ≡ Some (record z { part = record x.part { scheme = k; elided = on } })) same (next.changed (record x { part = record x.part { scheme = k } }) at);
        others = λ m apart. next.others m apart ∙ one.others m apart;
      }

  marks_are : (s : Term) → with_elided on (with_scheme k s) ≡ with_marks s (record { scheme = k; elided = on })
  marks_are (Leaf p v) = refl
  marks_are (Node op scheme elided ts) = refl

  pub over_twice : KeepsShape (nodes old) (nodes mid) → ChangesTerms old mid n (with_scheme k) → ChangesTerms mid new n (with_elided on) → ChangesTerms old new n (λ s. with_marks s (record { scheme = k; elided = on }))
  over_twice shape one two u r t s way holds at =
      let first = one u r t s way holds at in
      let second = two u r (put t u (with_scheme k s)) (with_scheme k s) (shapes.Climbs-shape (nodes old) (nodes mid) shape u n r way) first (sub_put t u s (with_scheme k s) at) in
      subst (Holds new r) (put_put t u (with_scheme k s) (with_elided on (with_scheme k s)) ∙ ap (put t u) (marks_are s)) second

  pub without_twice : KeepsShape (nodes old) (nodes mid) → KeepsTermsWithout old mid n → KeepsTermsWithout mid new n → KeepsTermsWithout old new n
  without_twice shape one two m t out holds = two m t (λ inside. out (shapes.IsInside-shape (nodes mid) (nodes old) (shapes.KeepsShape-back (nodes old) (nodes mid) shape) n m inside)) (one m t out holds)

-- the edited term with other marks
module _ (old : Grove) (is : IsGrove old) (root at : NodeId) (m : Marks) (t : Term) (u : Place) (may : MayTurn old root at (Shown m) t u) where
  part : (x : Term) × Holds old at x × (sub t u ≡ Some x)
  part = part_held old is u at root t may.way may.whole.holds

  pub marked_live : IsLive (nodes old) at
  marked_live = by u may.way
    where
      by : (w : Place) → Climbs (nodes old) w at root → IsLive (nodes old) at
      by [] e = subst (IsLive (nodes old)) (sym e) (record { node = may.whole.top.node; found = may.whole.top.found })
      by (k ∷ w) c = record { node = c.1.node; found = c.1.found }

  module _ (new : Grove) (on : IsGrove new) (spec : new.spec ≡ old.spec) (pool : new.pool ≡ old.pool) (shape : KeepsShape (nodes old) (nodes new)) (over : ChangesTerms old new at (λ s. with_marks s m))
      (others : KeepsTermsWithout old new at) (numbers : (n : NodeId) (slot : ℕ) → number_at new n slot ≡ number_at old n slot) where
    back : KeepsShape (nodes new) (nodes old)
    back = shapes.KeepsShape-back (nodes old) (nodes new) shape

    pub marked_top : IsRoot (nodes new) root
    marked_top = shapes.IsRoot-shape (nodes old) (nodes new) shape root may.whole.top

    marked_holds : Holds new root (marked t u m)
    marked_holds = subst (λ z. Holds new root (put t u (with_marks z m))) (sym (part_is t u part.0 part.2)) (over u root t part.0 may.way may.whole.holds part.2)

    values : (n : NodeId) (slot : ℕ) → value_there new n slot ≡ value_there old n slot
    values n slot = ap (λ o. unwrap_or (option_map (value_at new.pool) o) untyped) (numbers n slot) ∙ ap (λ vs. unwrap_or (option_map (value_at vs) (number_at old n slot)) untyped) pool

    marked_right : IsRight new root
    marked_right =
        let r = may.whole.right in
        let same : r.term ≡ t = one_term old root r.term t r.holds may.whole.holds in
        record {
          term = marked t u m;
          holds = marked_holds;
          right = λ w n slot i way found.
              let was = shapes.Climbs-shape (nodes new) (nodes old) back w n root way in
              let site : site_of (rules_of old.spec) (net_of r.term) (record { node = w; slot = slot }) ≡ Some i =
              ap (λ z. site_of (rules_of old.spec) (net_of z) (record { node = w; slot = slot })) same
              ∙ ap (λ z. site_of (rules_of old.spec) z (record { node = w; slot = slot })) (sym (net_marked t u part.0 m part.2))
              ∙ ap (λ (s : Spec). site_of (rules_of s) (net_of (marked t u m)) (record { node = w; slot = slot })) (sym spec) ∙ found in
              values n slot ∙ r.right w n slot i was site
              ∙ ap (λ z. value_in old.spec z (record { node = w; slot = slot })) same
              ∙ sym (value_marked t u part.0 m part.2 old.spec (record { node = w; slot = slot }))
              ∙ ap (λ (s : Spec). value_in s (marked t u m) (record { node = w; slot = slot })) (sym spec);
        }

    marked_fits : Fits old.spec (marked t u m) old.spec.root
    marked_fits =
        let kept = shape.kept root may.whole.top.node may.whole.top.found in
        let fit = held_fits new on root kept.0 (marked t u m) kept.1 marked_holds in
        let was : may.whole.top.node.label.phylum ≡ old.spec.root = one_phylum old.spec t may.whole.top.node.label.phylum old.spec.root (held_fits old is root may.whole.top.node t may.whole.top.found may.whole.holds) may.fits in
        subst (Fits old.spec (marked t u m)) (ap (λ (l : Kind). l.phylum) kept.2 ∙ was) (subst (λ (s : Spec). Fits s (marked t u m) kept.0.label.phylum) spec fit)

    pub marked_whole : IsWhole new root (marked t u m)
    marked_whole = record {
      top = marked_top;
      holds = marked_holds;
      right = marked_right;
      free = root_free new on root (marked t u m) marked_holds (subst (λ (s : Spec). Fits s (marked t u m) s.root) (sym spec) marked_fits) marked_top.node marked_top.found;
    }

    pub marked_turn : IsTurned old new root at (Shown m) t u root
    marked_turn = record {
      whole = marked_whole;
      fits = marked_fits;
      hanging = λ n s r apart other holds. others n s (λ inside. apart (sym (one_way old is u inside.path at root n may.whole.top r may.way inside.climbs).1)) holds;
      out = tt;
      roots = λ rest were. record {
        once = were.once;
        are = λ n. (
          (λ r. (were.are n).0 (shapes.IsRoot-shape (nodes new) (nodes old) back n r)),
          (λ one. shapes.IsRoot-shape (nodes old) (nodes new) shape n ((were.are n).1 one)),
        );
      };
    }

    pub marked_seen : new.view ≡ old.view → (height : ℕ) (select : Selection) (top : ℕ) (look : Look) → ((r : Term) → IsWhole new root r → IsLook new root r (settled_spot new.spec height new.view r select top) look)
        → IsSeen old new root at (Shown m) t u height select top (record { root = root; look = look })
    marked_seen view height select top look looks = record {
      turned = marked_turn;
      look = seen_as old new root (marked t u m) spec view height select top look (looks (marked t u m) marked_whole);
    }

-- marks that are put back
pub put_back : (old mid new : Grove) (n : NodeId) (x : TheNode) (part : Part) (k : ℕ) (on : Bool) → nodes old n ≡ Some x → IsPartSet (nodes old) (nodes mid) n part → part.values ≡ x.part.values → k ≡ x.part.scheme → on ≡ x.part.elided
    → ((y : TheNode) → nodes mid n ≡ Some y → IsPartSet (nodes mid) (nodes new) n (record y.part { scheme = k; elided = on })) → (m : NodeId) → nodes new m ≡ nodes old m
put_back old mid new n x part k on found one values scheme elided two m = elim (cases_id m n) [
  | inl same ↦ subst (λ z. nodes new z ≡ nodes old z) (sym same) (here ∙ sym found)
  | inr apart ↦ (two (record x { part = part }) at).others m apart ∙ one.others m apart
]
  where
    at : nodes mid n ≡ Some (record x { part = part })
    at = one.changed x found

    here : nodes new n ≡ Some x
    here =
        (two (record x { part = part }) at).changed (record x { part = part }) at
        ∙ ap (λ vs. Some (record x { part = record { scheme = k; elided = on; values = vs } })) values
        ∙ ap (λ z. Some (record x { part = record { scheme = z; elided = on; values = x.part.values } })) scheme
        ∙ ap (λ z. Some (record x { part = record { scheme = x.part.scheme; elided = z; values = x.part.values } })) elided
