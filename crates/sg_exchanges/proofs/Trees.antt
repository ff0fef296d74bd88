-- Trees that are the same in another grove.
use Rattle.std.specs.Prelude.{◌≡◌, refl, ℕ, [], ◌∷◌, Option, None, Some, slice_get, option_map, option_and_then, unwrap_or}
use Rattle.std.proofs.Common.{sym, ap, ◌∙◌, subst}
use Rattle.sg_kinds.specs.Values.{Bytes}
use Rattle.sg_kinds.specs.Evaluation.{untyped}
use Rattle.sg_kinds.specs.Terms.{Term}
use Rattle.sg_kinds.specs.Nets.{net_of}
use Rattle.sg_kinds.specs.FromScratch.{value_in}
use Rattle.sg_kinds.specs.Instances.{site_of}
use Rattle.sg_kinds.specs.Specification.{is_inherited, rules_of}
use Rattle.sg_kinds.specs.Places.{Place}
use Rattle.sg_kinds.specs.declared.spec.Spec.{Spec}
use Rattle.sg_pool.specs.Pools.{value_at}
use Rattle.sg_pool.proofs.Grown.{grown_same, grown_twice}
use Rattle.sg_eval.proofs.Bindings.{stands_later}
use Rattle.sg_forest.specs.declared.node_id.NodeId.{NodeId}
use Rattle.sg_forest.specs.Node as forest
use Rattle.sg_forest.specs.Trees.{Climbs, IsInside, IsLive, IsRoot, Lists}
use Rattle.sg_forest.proofs.Paths.{inside_itself}
use Rattle.sg_forest.proofs.Standing.{Stands-kept}
use Rattle.sg_groves.specs.declared.kind.Kind.{Kind}
use Rattle.sg_groves.specs.declared.part.Part.{Part}
use Rattle.sg_groves.specs.Grove.{Grove, nodes, IsGrove}
use Rattle.sg_groves.specs.Holds.{Holds}
use Rattle.sg_groves.specs.IsRight.{IsRight}
use Rattle.sg_groves.specs.Stored.{number_at, value_there}
use Rattle.sg_groves.specs.TermAt.{term_at}
use Rattle.sg_groves.proofs.Frames.{grown_term, number_stands}
use Rattle.sg_groves.proofs.Held.{held_at, live_holds, one_term}
use Rattle.sg_unparse.specs.Along.{node_along, kid_of}
use Rattle.sg_unparse.specs.Written.{sheet_of}
use Rattle.sg_states.specs.Seen.{marks_seen}
use Rattle.sg_states.specs.Paged.{IsWhole, page_seen}
use Rattle.sg_exchanges.specs.Roots.{KeepsTree}

-- a node that is there holds its term
pub holds_at : (g : Grove) → IsGrove g → (n : NodeId) → IsLive (nodes g) n → Holds g n (term_at g n)
holds_at g is n live = (let h = live_holds g is n live in subst (Holds g n) (sym (held_at g is n h.0 h.1)) h.1)

pub kept_still : (g : Grove) (root : NodeId) → KeepsTree g g root
kept_still g root = record { spec = refl; view = refl; pool = grown_same g.pool g.pool refl; nodes = λ n inside. refl }

module _ (old new : Grove) (root : NodeId) (k : KeepsTree old new root) where
  pub climbs_on : (u : Place) (n : NodeId) → Climbs (nodes old) u n root → Climbs (nodes new) u n root
  climbs_on [] n e = e
  climbs_on (j ∷ u) n w =
      let inside : IsInside (nodes old) n root = record { path = j ∷ u; climbs = w } in
      (w.0, record { node = w.1.node; found = k.nodes n inside ∙ w.1.found; hangs = w.1.hangs }, climbs_on u w.0 w.2)

  pub root_on : IsRoot (nodes old) root → IsRoot (nodes new) root
  root_on top = record { node = top.node; found = k.nodes root (inside_itself (nodes old) root) ∙ top.found; top = top.top }

  module _ (is : IsGrove old) (on : IsGrove new) where
    pub climbs_back : (u : Place) (n : NodeId) → Climbs (nodes new) u n root → Climbs (nodes old) u n root
    climbs_back [] n e = e
    climbs_back (j ∷ u) n w =
        let up = climbs_back u w.0 w.2 in
        let inside : IsInside (nodes old) w.0 root = record { path = u; climbs = up } in
        let l = on.forest.linked.upward w.0 j n w.1 in
        let was : Lists (nodes old) w.0 j n = record { node = l.node; found = sym (k.nodes w.0 inside) ∙ l.found; lists = l.lists } in
        (w.0, is.forest.linked.down w.0 j n was, up)

    pub value_on : (m : NodeId) (slot : ℕ) → IsInside (nodes old) m root → value_there new m slot ≡ value_there old m slot
    value_on m slot inside = by (number_at old m slot) refl
      where
        same : number_at new m slot ≡ number_at old m slot
        same = ap (λ (o : Option (forest.Node Kind Part)). option_and_then (λ x. slice_get x.part.values slot) o) (k.nodes m inside)

        by : (o : Option ℕ) → number_at old m slot ≡ o → value_there new m slot ≡ value_there old m slot
        by None e = ap (λ o. unwrap_or (option_map (value_at new.pool) o) untyped) (same ∙ e) ∙ sym (ap (λ o. unwrap_or (option_map (value_at old.pool) o) untyped) e)
        by (Some id) e =
            let v = number_stands old is m slot id e in
            ap (λ o. unwrap_or (option_map (value_at new.pool) o) untyped) (same ∙ e)
            ∙ stands_later old.pool new.pool id v.0 v.1 k.pool
            ∙ sym (stands_later old.pool old.pool id v.0 v.1 (grown_same old.pool old.pool refl))
            ∙ sym (ap (λ o. unwrap_or (option_map (value_at old.pool) o) untyped) e)

    -- it holds what it did
    pub holds_on : (t : Term) → Holds old root t → Holds new root t
    holds_on t h = record {
      tree = h.tree;
      stands = Stands-kept (nodes old) (nodes new) (λ n. IsInside (nodes old) n root)
          (λ n x inside found. (x, k.nodes n inside ∙ found, refl, refl, refl))
          (λ p j n inside lists. record { path = j ∷ inside.path; climbs = (p, is.forest.linked.down p j n lists, inside.climbs) })
          h.tree root (inside_itself (nodes old) root) h.stands;
      term = grown_term old is new.pool k.pool h.tree root h.stands ∙ h.term;
    }

    pub term_on : IsLive (nodes old) root → term_at new root ≡ term_at old root
    term_on live =
        let h = live_holds old is root live in
        held_at new on root h.0 (holds_on h.0 h.1) ∙ sym (held_at old is root h.0 h.1)

    pub right_on : (t : Term) → Holds old root t → Holds new root t → IsRight old root → IsRight new root
    right_on t was holds right =
        let same : right.term ≡ t = one_term old root right.term t right.holds was in
        record {
          term = t;
          holds = holds;
          right = λ u m slot i way found.
              let back = climbs_back u m way in
              let site : site_of (rules_of old.spec) (net_of right.term) (record { node = u; slot = slot }) ≡ Some i =
              ap (λ z. site_of (rules_of old.spec) (net_of z) (record { node = u; slot = slot })) same ∙ ap (λ (s : Spec). site_of (rules_of s) (net_of t) (record { node = u; slot = slot })) (sym k.spec) ∙ found in
              value_on m slot (record { path = u; climbs = back })
              ∙ right.right u m slot i back site
              ∙ ap (λ z. value_in old.spec z (record { node = u; slot = slot })) same
              ∙ ap (λ (s : Spec). value_in s t (record { node = u; slot = slot })) (sym k.spec);
        }

    pub whole_on : (t : Term) → Holds new root t → IsWhole old root t → IsWhole new root t
    unfolding root_on
    whole_on t holds w = record {
      top = root_on w.top;
      holds = holds;
      right = right_on t w.holds holds w.right;
      free = λ slot. ap (λ (s : Spec). is_inherited s.phyla w.top.node.label.phylum slot) k.spec ∙ w.free slot;
    }

    pub whole_kept : (t : Term) → IsWhole old root t → IsWhole new root t
    whole_kept t w = whole_on t (holds_on t w.holds) w

    -- the nodes along places stay within the tree
    along_inside : (u : Place) → IsInside (nodes old) (node_along old root u) root
    along_inside [] = inside_itself (nodes old) root
    along_inside (j ∷ u) = by (nodes old (node_along old root u)) refl (along_inside u)
      where
        kid : (x : forest.Node Kind Part) → nodes old (node_along old root u) ≡ Some x → (o : Option NodeId) → slice_get x.kids j ≡ o → IsInside (nodes old) (node_along old root u) root → IsInside (nodes old) (unwrap_or o root) root
        kid x found None e inside = inside_itself (nodes old) root
        kid x found (Some m) e inside =
            let child = is.forest.linked.down (node_along old root u) j m (record { node = x; found = found; lists = e }) in
            record { path = j ∷ inside.path; climbs = (node_along old root u, child, inside.climbs) }

        by : (o : Option (forest.Node Kind Part)) → nodes old (node_along old root u) ≡ o → IsInside (nodes old) (node_along old root u) root
            → IsInside (nodes old) (unwrap_or (option_and_then (λ (x : forest.Node Kind Part). slice_get x.kids j) o) root) root
        by None found inside = inside_itself (nodes old) root
        by (Some x) found inside = kid x found (slice_get x.kids j) refl inside

    along_on : (u : Place) → node_along new root u ≡ node_along old root u
    along_on [] = refl
    along_on (j ∷ u) =
        ap (λ n. unwrap_or (kid_of new n j) root) (along_on u)
        ∙ ap (λ (o : Option (forest.Node Kind Part)). unwrap_or (option_and_then (λ x. slice_get x.kids j) o) root) (k.nodes (node_along old root u) (along_inside u))

    pub page_on : (t : Term) (typed : Place → Option Bytes) → page_seen new root t typed ≡ page_seen old root t typed
    unfolding page_seen
    page_on t typed =
        ap (λ (s : Spec). sheet_of (node_along new root) (marks_seen s new.view t typed)) k.spec
        ∙ ap (λ v. sheet_of (node_along new root) (marks_seen old.spec v t typed)) k.view
        ∙ (let same : node_along new root ≡ node_along old root = λ i u. along_on u i in ap (λ f. sheet_of f (marks_seen old.spec old.view t typed)) same)

pub kept_twice : (old mid new : Grove) (root : NodeId) → KeepsTree old mid root → KeepsTree mid new root → KeepsTree old new root
kept_twice old mid new root one two = record {
  spec = two.spec ∙ one.spec;
  view = two.view ∙ one.view;
  pool = grown_twice old.pool mid.pool new.pool one.pool two.pool;
  nodes = λ n inside. two.nodes n (record { path = inside.path; climbs = climbs_on old mid root one inside.path n inside.climbs }) ∙ one.nodes n inside;
}
