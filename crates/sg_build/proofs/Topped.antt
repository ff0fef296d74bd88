-- A new root over the roots that were added last.
use Rattle.std.specs.Prelude.{◌≡◌, ◌≢◌, ◌⊎◌, ◌↔◌, refl, ℕ, zero, suc, List, [], ◌∷◌, length, Option, Some, None, slice_get, option_and_then}
use Rattle.std.proofs.Common.{sym, ap, ◌∙◌, subst, inl, inr, arith}
use Rattle.std.proofs.lemmas.Option.{none-some, same_Some, slice_get_within}
use Rattle.sg_kinds.proofs.Elementary.{slice_get-there}
use Rattle.sg_kinds.specs.Places.{Place}
use Rattle.sg_pool.proofs.Grown.{grown_twice}
use Rattle.sg_forest.specs.declared.node_id.NodeId.{NodeId}
use Rattle.sg_forest.specs.Node as forest
use Rattle.sg_forest.specs.Trees.{IsLive, IsRoot, IsChild, Lists, IsInside, Climbs}
use Rattle.sg_forest.specs.Steps.{KeepsKids}
use Rattle.sg_forest.proofs.Paths.{cases_id, one_kid, inside_itself, inside_append}
use Rattle.sg_groves.specs.declared.kind.Kind.{Kind}
use Rattle.sg_groves.specs.declared.part.Part.{Part}
use Rattle.sg_groves.specs.Grove.{Grove, nodes, IsGrove}
use Rattle.sg_groves.specs.Stored.{number_at}
use Rattle.sg_terms.specs.Found.{op_at}
use Rattle.sg_terms.specs.Kept.{IsAdded}
use Rattle.sg_build.specs.Grown.{IsInOneOf, GrewBy}
use Rattle.sg_build.proofs.Framed.{not_there, there_or_not, grew_free}

-- a node was added as a root over roots
pub record IsTop (mid new : Grove) (kids : List NodeId) (id : NodeId) : Type 0 where
  pub added : IsAdded mid new
  pub fresh : nodes mid id ≡ None
  pub root : IsRoot (nodes new) id
  pub under : (k : ℕ) (kid : NodeId) → slice_get kids k ≡ Some kid → IsRoot (nodes mid) kid
  pub hung : (k : ℕ) (kid : NodeId) → slice_get kids k ≡ Some kid → IsChild (nodes new) kid id k
  pub roots : (n : NodeId) → n ≢ id → IsRoot (nodes new) n ↔ IsRoot (nodes mid) n × ((k : ℕ) → slice_get kids k ≢ Some n)
  pub count : (x : forest.Node Kind Part) → nodes new id ≡ Some x → length x.kids ≡ length kids
  pub unknown : (op slot k : ℕ) → op_at new id ≡ Some op → number_at new id slot ≡ Some k → k ≡ 0

module _ (mid new : Grove) (kids : List NodeId) (id : NodeId) (is : IsGrove mid) (after : IsGrove new) (top : IsTop mid new kids id) where
  kept : KeepsKids (nodes mid) (nodes new)
  kept = top.added.kids

  root_live : (n : NodeId) → IsRoot (nodes mid) n → IsLive (nodes mid) n
  root_live n root = record { node = root.node; found = root.found }

  -- a child of the new root is one of the roots
  kid_of_top : (k : ℕ) (n : NodeId) → Lists (nodes new) id k n → IsLive (nodes mid) n
  kid_of_top k n lists =
      let count = top.count lists.node lists.found in
      let low = slice_get_within lists.node.kids k n lists.lists in
      let kid = slice_get-there kids k (omega (arith, low, count)) in
      let other = after.forest.linked.upward id k kid.0 (top.hung k kid.0 kid.1) in
      let same : kid.0 ≡ n = one_kid (nodes new) id kid.0 n k other lists in
      subst (IsLive (nodes mid)) same (root_live kid.0 (top.under k kid.0 kid.1))

  -- a child of a node that was there was there
  kid_of_old : (p : NodeId) (k : ℕ) (n : NodeId) → IsLive (nodes mid) p → Lists (nodes new) p k n → IsLive (nodes mid) n
  kid_of_old p k n live lists =
      let then = kept.kept p live.node live.found in
      let same : then.0 ≡ lists.node = cc (then.1, lists.found) in
      let listed : slice_get live.node.kids k ≡ Some n = ap (λ ids. slice_get ids k) (sym then.4 ∙ ap (λ (x : forest.Node Kind Part). x.kids) same) ∙ lists.lists in
      let child = is.forest.linked.down p k n (record { node = live.node; found = live.found; lists = listed }) in
      record { node = child.node; found = child.found }

  was_there : (u : Place) (n r : NodeId) → IsRoot (nodes new) r → Climbs (nodes new) u n r → (n ≡ id) ⊎ IsLive (nodes mid) n
  was_there [] n r root same = elim (cases_id n id) [
    | inl new ↦ inl new
    | inr other ↦ inr (root_live n ((top.roots n other).0 (subst (IsRoot (nodes new)) (sym same) root)).0)
  ]
  was_there (k ∷ u) n r root climbs =
      let lists = after.forest.linked.upward climbs.0 k n climbs.1 in
      elim (was_there u climbs.0 r root climbs.2) [
        | inl above ↦ inr (kid_of_top k n (subst (λ p. Lists (nodes new) p k n) above lists))
        | inr live ↦ inr (kid_of_old climbs.0 k n live lists)
      ]

  added_or_there : (n : NodeId) → IsLive (nodes new) n → (n ≡ id) ⊎ IsLive (nodes mid) n
  added_or_there n live = let up = after.forest.linked.rooted n live in was_there up.path n up.root up.is_root up.climbs

  -- a node that is none of the roots is as it was
  hangs_still : (n : NodeId) (x y : forest.Node Kind Part) → nodes mid n ≡ Some x → nodes new n ≡ Some y → ((k : ℕ) → slice_get kids k ≢ Some n) → y.up ≡ x.up
  hangs_still n x y found then out = by x.up refl
    where
      not_top : n ≢ id
      not_top same = none-some x (sym top.fresh ∙ ap (nodes mid) (sym same) ∙ found)

      by : (up : Option (NodeId × ℕ)) → x.up ≡ up → y.up ≡ up
      by None free =
          let root = (top.roots n not_top).1 (record { node = x; found = found; top = free }, out) in
          let same : root.node ≡ y = cc (root.found, then) in
          ap (λ (z : forest.Node Kind Part). z.up) (sym same) ∙ root.top
      by (Some (p, k)) hangs =
          let way = top.added.ways (k ∷ []) n p (p, record { node = x; found = found; hangs = hangs }, refl) in
          let child = way.1 in
          let same : child.node ≡ y = cc (child.found, then) in
          ap (λ (z : forest.Node Kind Part). z.up) (sym same) ∙ child.hangs ∙ ap (λ q. Some (q, k)) way.2

  as_before : (n : NodeId) → IsLive (nodes mid) n → ((k : ℕ) → slice_get kids k ≢ Some n) → nodes new n ≡ nodes mid n
  as_before n live out =
      let x = live.node in
      let then = kept.kept n x live.found in
      let y = then.0 in
      let up = hangs_still n x y live.found then.1 out in
      let same : y ≡ x = λ i. record { label = then.2 i; part = then.3 i; up = up i; kids = then.4 i } in
      then.1 ∙ ap Some same ∙ sym live.found

  module _ (old : Grove) (grew : GrewBy old mid kids) where
    no_kid : (n : NodeId) → IsLive (nodes old) n → (k : ℕ) → slice_get kids k ≢ Some n
    no_kid n live k at = not_there old n (grew.fresh k n at) live

    at_place : (k : ℕ) (n : NodeId) → slice_get (id ∷ []) k ≡ Some n → (k ≡ 0) × (id ≡ n)
    at_place zero n at = (refl, same_Some id n at)
    at_place (suc k) n at = absurd (none-some n at)

    within_top : (n : NodeId) → IsInOneOf mid kids n → IsInOneOf new (id ∷ []) n
    within_top n one = record {
      place = 0;
      root = id;
      at = refl;
      inside = inside_append (nodes new) n one.root id (record { path = one.inside.path; climbs = top.added.ways one.inside.path n one.root one.inside.climbs })
          (record { path = one.place ∷ []; climbs = (id, top.hung one.place one.root one.at, refl) });
    }

    known : (n : NodeId) (op slot k : ℕ) → nodes old n ≡ None → IsLive (nodes mid) n → op_at new n ≡ Some op → number_at new n slot ≡ Some k → k ≡ 0
    known n op slot k none live at number =
        let x = live.node in
        let then = kept.kept n x live.found in
        let op_was : op_at mid n ≡ op_at new n =
        ap (option_and_then (λ (z : forest.Node Kind Part). z.label.op)) live.found ∙ ap (λ (l : Kind). l.op) (sym then.2)
        ∙ sym (ap (option_and_then (λ (z : forest.Node Kind Part). z.label.op)) then.1) in
        let number_was : number_at mid n slot ≡ number_at new n slot =
        ap (option_and_then (λ (z : forest.Node Kind Part). slice_get z.part.values slot)) live.found ∙ ap (λ (p : Part). slice_get p.values slot) (sym then.3)
        ∙ sym (ap (option_and_then (λ (z : forest.Node Kind Part). slice_get z.part.values slot)) then.1) in
        grew.unknown n op slot k none (op_was ∙ at) (number_was ∙ number)

    pub grew_over : GrewBy old new (id ∷ [])
    grew_over = record {
      spec = top.added.spec ∙ grew.spec;
      view = top.added.view ∙ grew.view;
      pool = grown_twice old.pool mid.pool new.pool grew.pool top.added.pool;
      before = λ n live.
          let was = grew.before n live in
          as_before n (record { node = live.node; found = was ∙ live.found }) (no_kid n live) ∙ was;
      fresh = λ k n at. let here = at_place k n at in subst (λ m. nodes old m ≡ None) here.1 (grew_free old mid kids grew id top.fresh);
      tops = λ k n at. let here = at_place k n at in subst (IsRoot (nodes new)) here.1 top.root;
      once = λ j k n one two. (at_place j n one).0 ∙ sym (at_place k n two).0;
      added = λ n none live. elim (added_or_there n live) [
        | inl same ↦ record { place = 0; root = id; at = refl; inside = subst (λ m. IsInside (nodes new) m id) (sym same) (inside_itself (nodes new) id) }
        | inr there ↦ within_top n (grew.added n none there)
      ];
      unknown = λ n op slot k none at number. elim (there_or_not mid n) [
        | inl free ↦ elim (added_or_there n (op_live n op at)) [
          | inl same ↦ top.unknown op slot k (ap (op_at new) (sym same) ∙ at) (ap (λ m. number_at new m slot) (sym same) ∙ number)
          | inr there ↦ absurd (not_there mid n free there)
        ]
        | inr there ↦ known n op slot k none there at number
      ];
    }
      where
        op_live : (n : NodeId) (op : ℕ) → op_at new n ≡ Some op → IsLive (nodes new) n
        op_live n op at = elim (there_or_not new n) [ inl free ↦ absurd (none-some op (sym (ap (option_and_then (λ (z : forest.Node Kind Part). z.label.op)) free) ∙ at)) | inr live ↦ live ]
