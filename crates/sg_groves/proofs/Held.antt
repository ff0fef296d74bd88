-- The terms that nodes hold: one each, that fits its phylum, and their parts.
use Rattle.std.specs.Prelude.{◌≡◌, refl, ℕ, zero, suc, ◌<◌, List, [], ◌∷◌, length, map, Option, Some, None, slice_get, option_map, option_and_then, unwrap_or, MatchOption}
use Rattle.std.proofs.Common.{sym, ap, ◌∙◌, subst, arith}
use Rattle.std.proofs.lemmas.Option.{none-some, same_Some, slice_get_within}
use Rattle.sg_kinds.specs.Evaluation.{untyped}
use Rattle.sg_kinds.specs.Terms.{Term, Terms, Leaf, Node, AndTerm, terms_of, kids_of}
use Rattle.sg_kinds.specs.Places.{Place, child, sub}
use Rattle.sg_kinds.specs.Fits.{MayHold, Fits, AllFit}
use Rattle.sg_kinds.specs.Specification.{args_of}
use Rattle.sg_kinds.specs.declared.spec.Phylum.{Phylum}
use Rattle.sg_kinds.specs.declared.spec.Operator.{Operator}
use Rattle.sg_pool.specs.Pools.{value_at}
use Rattle.sg_forest.specs.declared.node_id.NodeId.{NodeId}
use Rattle.sg_forest.specs.Node as forest
use Rattle.sg_forest.specs.Trees.{IsLive, IsChild, Climbs, room_below}
use Rattle.sg_forest.specs.Tree.{Tree, Row, node, end, beside, Stands, StandAll}
use Rattle.sg_forest.proofs.Standing.{one_tree, has_tree}
use Rattle.sg_forest.proofs.Depth.{room_below-child}
use Rattle.sg_groves.specs.declared.kind.Kind.{Kind}
use Rattle.sg_groves.specs.declared.part.Part.{Part}
use Rattle.sg_groves.specs.Grove.{Grove, nodes, IsLeaf, IsOperation, IsGrove}
use Rattle.sg_groves.specs.Stored.{kept}
use Rattle.sg_groves.specs.Holds.{term_over, term_of, terms_under, Holds}
use Rattle.sg_groves.specs.TermAt.{term_within, term_at}

pub one_term : (g : Grove) (n : NodeId) (t s : Term) → Holds g n t → Holds g n s → t ≡ s
one_term g n t s one two = sym one.term ∙ ap (term_of g.pool) (one_tree (nodes g) one.tree two.tree n one.stands two.stands) ∙ two.term

-- a tree stands under a node that is there
pub stands_node : (g : Grove) (t : Tree Kind Part) (n : NodeId) → Stands (nodes g) n t → (x : forest.Node Kind Part) × (nodes g n ≡ Some x)
stands_node g (node kind part ts) n stands = (stands.1.node, stands.1.found)

module _ (g : Grove) (is : IsGrove g) where
  -- terms fit the phyla of their nodes
  leaf_value : (x : forest.Node Kind Part) (leaf : IsLeaf g x) → kept g.pool x.part 0 ≡ leaf.value
  leaf_value x leaf =
      ap (λ ids. unwrap_or (option_map (value_at g.pool) (slice_get ids 0)) untyped) leaf.values
      ∙ ap (λ v. unwrap_or v untyped) leaf.stands

  leaf_fits : (x : forest.Node Kind Part) → IsLeaf g x → Fits g.spec (Leaf x.label.phylum (kept g.pool x.part 0)) x.label.phylum
  leaf_fits x leaf = (refl, subst (λ v. MatchOption (slice_get g.spec.phyla x.label.phylum) ⊥ (λ (p : Phylum). MayHold g.spec p.shape v)) (sym (leaf_value x leaf)) leaf.held)

  node_fits : (x : forest.Node Kind Part) (op : ℕ) (ts : Terms) → IsOperation g x op → AllFit g.spec ts (args_of g.spec.ops op) → Fits g.spec (Node op x.part.scheme x.part.elided ts) x.label.phylum
  node_fits x op ts operation all = by (slice_get g.spec.ops op) refl operation.phylum
    where
      by : (o : Option Operator) → slice_get g.spec.ops op ≡ o → option_map (λ (y : Operator). y.phylum) o ≡ Some x.label.phylum
          → MatchOption o ⊥ (λ (y : Operator). (y.phylum ≡ x.label.phylum) × (x.part.scheme < 16) × AllFit g.spec ts y.args)
      by None at e = absurd (none-some x.label.phylum e)
      by (Some y) at e = (same_Some y.phylum x.label.phylum e, operation.scheme, subst (AllFit g.spec ts) (ap (λ z. unwrap_or (option_map (λ (y : Operator). y.args) z) []) at) all)

  either_fits : (x : forest.Node Kind Part) (ts : Terms) (o : Option ℕ) → MatchOption o (IsLeaf g x) (IsOperation g x) → ((op : ℕ) → IsOperation g x op → AllFit g.spec ts (args_of g.spec.ops op))
      → Fits g.spec (elim o [ None ↦ Leaf x.label.phylum (kept g.pool x.part 0) | Some op ↦ Node op x.part.scheme x.part.elided ts ]) x.label.phylum
  either_fits x ts None leaf all = leaf_fits x leaf
  either_fits x ts (Some op) operation all = node_fits x op ts operation (all op operation)

  mutual
    tree_fits : (t : Tree Kind Part) (n : NodeId) (x : forest.Node Kind Part) → nodes g n ≡ Some x → Stands (nodes g) n t → Fits g.spec (term_of g.pool t) x.label.phylum
    tree_fits (node kind part ts) n x found stands =
        let shows = stands.1 in
        let same : x ≡ shows.node = cc (found, shows.found) in
        let label : x.label ≡ kind = ap (λ z. z.label) same ∙ shows.has_label in
        let parts : x.part ≡ part = ap (λ z. z.part) same ∙ shows.has_part in
        let kids : x.kids ≡ stands.0 = ap (λ z. z.kids) same ∙ shows.has_kids in
        let count : length stands.0 ≡ x.label.arity = ap length (sym kids) ∙ is.forest.arities n x found in
        let over = either_fits x (terms_under g.pool ts) x.label.op (is.each n x found) (λ op operation.
        row_fits ts stands.0 (args_of g.spec.ops op) (count ∙ operation.arity) (λ k m y listed there. operation.kids k m y (ap (λ ids. slice_get ids k) kids ∙ listed) there) stands.2) in
        let here : Kind → Part → Type 0 = λ k p. Fits g.spec (term_over g.pool k p (terms_under g.pool ts)) x.label.phylum in
        subst (here kind) parts (subst (λ k. here k x.part) label over)

    row_fits : (ts : Row Kind Part) (ids : List NodeId) (ps : List ℕ) → length ids ≡ length ps
        → ((k : ℕ) (m : NodeId) (y : forest.Node Kind Part) → slice_get ids k ≡ Some m → nodes g m ≡ Some y → slice_get ps k ≡ Some y.label.phylum) → StandAll (nodes g) ids ts → AllFit g.spec (terms_under g.pool ts) ps
    row_fits end ids [] count each all = tt
    row_fits end ids (p ∷ ps) count each all = let none : length ids ≡ 0 = ap length all in absurd (omega (arith, count, none))
    row_fits (beside t ts) ids [] count each all = let some : length ids ≡ suc (length all.1) = ap length all.2 in absurd (omega (arith, count, some))
    row_fits (beside t ts) ids (p ∷ ps) count each all =
        let there = stands_node g t all.0 all.3 in
        let phylum : p ≡ there.0.label.phylum = same_Some p there.0.label.phylum (each 0 all.0 there.0 (ap (λ l. slice_get l 0) all.2) there.1) in
        let some : length ids ≡ suc (length all.1) = ap length all.2 in
        let fewer : length all.1 ≡ length ps = omega (arith, count, some) in (
          subst (Fits g.spec (term_of g.pool t)) (sym phylum) (tree_fits t all.0 there.0 there.1 all.3),
          row_fits ts all.1 ps fewer (λ k m y listed found. each (suc k) m y (ap (λ l. slice_get l (suc k)) all.2 ∙ listed) found) all.4,
        )

  pub held_fits : (n : NodeId) (x : forest.Node Kind Part) (t : Term) → nodes g n ≡ Some x → Holds g n t → Fits g.spec t x.label.phylum
  held_fits n x t found holds = subst (λ s. Fits g.spec s x.label.phylum) holds.term (tree_fits holds.tree n x found holds.stands)

  -- the term under a child
  row_at : (ts : Row Kind Part) (ids : List NodeId) (k : ℕ) (n : NodeId) → StandAll (nodes g) ids ts → slice_get ids k ≡ Some n
      → (s : Tree Kind Part) × Stands (nodes g) n s × (slice_get (terms_of (terms_under g.pool ts)) k ≡ Some (term_of g.pool s))
  row_at end ids k n all listed = absurd (none-some n (sym (ap (λ l. slice_get l k) all) ∙ listed))
  row_at (beside t ts) ids zero n all listed =
      let same : all.0 ≡ n = same_Some all.0 n (sym (ap (λ l. slice_get l 0) all.2) ∙ listed) in
      (t, subst (λ m. Stands (nodes g) m t) same all.3, refl)
  row_at (beside t ts) ids (suc k) n all listed = row_at ts all.1 k n all.4 (sym (ap (λ l. slice_get l (suc k)) all.2) ∙ listed)

  pub kid_held : (t : Tree Kind Part) (p n : NodeId) (k : ℕ) → Stands (nodes g) p t → IsChild (nodes g) n p k
      → (s : Tree Kind Part) × Stands (nodes g) n s × (child k (term_of g.pool t) ≡ Some (term_of g.pool s))
  kid_held (node kind part ts) p n k stands hangs =
      let shows = stands.1 in
      let lists = is.forest.linked.upward p k n hangs in
      let same : lists.node ≡ shows.node = cc (lists.found, shows.found) in
      let listed : slice_get stands.0 k ≡ Some n = ap (λ l. slice_get l k) (sym (ap (λ z. z.kids) same ∙ shows.has_kids)) ∙ lists.lists in
      let below = row_at ts stands.0 k n stands.2 listed in (
        below.0,
        below.1,
        by lists.node (term_of g.pool below.0) kind.op (subst (λ o. MatchOption o (IsLeaf g lists.node) (IsOperation g lists.node)) (ap (λ z. z.label.op) same ∙ ap (λ (l : Kind). l.op) shows.has_label) (is.each p lists.node lists.found))
            (is.forest.arities p lists.node lists.found) (slice_get_within lists.node.kids k n lists.lists) below.2,
      )
    where
      by : (x : forest.Node Kind Part) (s : Term) (o : Option ℕ) → MatchOption o (IsLeaf g x) (IsOperation g x) → length x.kids ≡ x.label.arity → k < length x.kids → slice_get (terms_of (terms_under g.pool ts)) k ≡ Some s
          → child k (elim o [ None ↦ Leaf kind.phylum (kept g.pool part 0) | Some op ↦ Node op part.scheme part.elided (terms_under g.pool ts) ]) ≡ Some s
      by x s None leaf count low at = let none = leaf.arity in absurd (omega (arith, count, none, low))
      by x s (Some op) operation count low at = at

  pub place_held : (u : Place) (n root : NodeId) (t : Tree Kind Part) → Climbs (nodes g) u n root → Stands (nodes g) root t
      → (s : Tree Kind Part) × Stands (nodes g) n s × (sub (term_of g.pool t) u ≡ Some (term_of g.pool s))
  place_held [] n root t same stands = (t, subst (λ m. Stands (nodes g) m t) (sym same) stands, refl)
  place_held (k ∷ u) n root t climbs stands =
      let above = place_held u climbs.0 root t climbs.2 stands in
      let here = kid_held above.0 climbs.0 n k above.1 climbs.1 in
      (here.0, here.1, ap (option_and_then (child k)) above.2 ∙ here.2)

  pub part_held : (u : Place) (n root : NodeId) (t : Term) → Climbs (nodes g) u n root → Holds g root t → (s : Term) × Holds g n s × (sub t u ≡ Some s)
  part_held u n root t climbs holds =
      let below = place_held u n root holds.tree climbs holds.stands in
      (term_of g.pool below.0, record { tree = below.0; stands = below.1; term = refl }, subst (λ x. sub x u ≡ Some (term_of g.pool below.0)) holds.term below.2)

  -- the node of a part
  row_there : (ts : Row Kind Part) (ids : List NodeId) (k : ℕ) (s : Term) → StandAll (nodes g) ids ts → slice_get (terms_of (terms_under g.pool ts)) k ≡ Some s
      → (n : NodeId) × (slice_get ids k ≡ Some n) × Holds g n s
  row_there end ids k s all at = absurd (none-some s at)
  row_there (beside t ts) ids zero s all at = (all.0, ap (λ l. slice_get l 0) all.2, record { tree = t; stands = all.3; term = same_Some (term_of g.pool t) s at })
  row_there (beside t ts) ids (suc k) s all at =
      let below = row_there ts all.1 k s all.4 at in
      (below.0, ap (λ l. slice_get l (suc k)) all.2 ∙ below.1, below.2)

  kid_there : (t : Tree Kind Part) (p : NodeId) (k : ℕ) (s : Term) → Stands (nodes g) p t → child k (term_of g.pool t) ≡ Some s → (n : NodeId) × IsChild (nodes g) n p k × Holds g n s
  kid_there (node kind part ts) p k s stands at =
      let shows = stands.1 in
      let below = row_there ts stands.0 k s stands.2 (by kind.op at) in
      (below.0, is.forest.linked.down p k below.0 (record { node = shows.node; found = shows.found; lists = ap (λ l. slice_get l k) shows.has_kids ∙ below.1 }), below.2)
    where
      by : (o : Option ℕ) → child k (elim o [ None ↦ Leaf kind.phylum (kept g.pool part 0) | Some op ↦ Node op part.scheme part.elided (terms_under g.pool ts) ]) ≡ Some s → slice_get (terms_of (terms_under g.pool ts)) k ≡ Some s
      by None got = absurd (none-some s got)
      by (Some op) got = got

  pub node_held : (u : Place) (root : NodeId) (t s : Term) → Holds g root t → sub t u ≡ Some s → (n : NodeId) × Climbs (nodes g) u n root × Holds g n s
  node_held [] root t s holds at = (root, refl, record { tree = holds.tree; stands = holds.stands; term = holds.term ∙ same_Some t s at })
  node_held (k ∷ u) root t s holds at = by (sub t u) refl at (λ m there. node_held u root t m holds there)
    where
      by : (o : Option Term) → sub t u ≡ o → option_and_then (child k) o ≡ Some s → ((m : Term) → sub t u ≡ Some m → (n : NodeId) × Climbs (nodes g) u n root × Holds g n m)
          → (n : NodeId) × Climbs (nodes g) (k ∷ u) n root × Holds g n s
      by None there got above = absurd (none-some s got)
      by (Some m) there got above =
          let over = above m there in
          let under = kid_there over.2.tree over.0 k s over.2.stands (ap (child k) over.2.term ∙ got) in
          (under.0, (over.0, under.1, over.1), under.2)

  -- the term under a node, as a function
  mutual
    tree_within : (t : Tree Kind Part) (n : NodeId) (most : ℕ) → room_below g.trees n < most → Stands (nodes g) n t → term_within g most n ≡ term_of g.pool t
    tree_within (node kind part ts) n zero low stands = absurd (omega (arith, low))
    tree_within (node kind part ts) n (suc most) low stands =
        let shows = stands.1 in
        let x = shows.node in
        let kids : (k : ℕ) (m : NodeId) → slice_get stands.0 k ≡ Some m → room_below g.trees m < most = λ k m listed.
        let hangs = is.forest.linked.down n k m (record { node = x; found = shows.found; lists = ap (λ l. slice_get l k) shows.has_kids ∙ listed }) in
        let less = room_below-child g.trees is.forest.linked m n k hangs in
        omega (arith, less, low) in
        let row : kids_of (map (term_within g most) x.kids) ≡ terms_under g.pool ts = ap (λ l. kids_of (map (term_within g most) l)) shows.has_kids ∙ row_within ts stands.0 most kids stands.2 in
        ap (λ (o : Option (forest.Node Kind Part)). elim o as (λ _. Term) [ None ↦ Leaf 0 untyped | Some y ↦ term_over g.pool y.label y.part (kids_of (map (term_within g most) y.kids)) ]) shows.found
        ∙ ap (λ l. term_over g.pool l x.part (kids_of (map (term_within g most) x.kids))) shows.has_label
        ∙ ap (λ p. term_over g.pool kind p (kids_of (map (term_within g most) x.kids))) shows.has_part
        ∙ ap (term_over g.pool kind part) row

    row_within : (ts : Row Kind Part) (ids : List NodeId) (most : ℕ) → ((k : ℕ) (m : NodeId) → slice_get ids k ≡ Some m → room_below g.trees m < most) → StandAll (nodes g) ids ts
        → kids_of (map (term_within g most) ids) ≡ terms_under g.pool ts
    row_within end ids most low all = ap (λ l. kids_of (map (term_within g most) l)) all
    row_within (beside t ts) ids most low all =
        let first = tree_within t all.0 most (low 0 all.0 (ap (λ l. slice_get l 0) all.2)) all.3 in
        let rest = row_within ts all.1 most (λ k m listed. low (suc k) m (ap (λ l. slice_get l (suc k)) all.2 ∙ listed)) all.4 in
        ap (λ l. kids_of (map (term_within g most) l)) all.2 ∙ (λ i. AndTerm (first i) (rest i))

  pub held_at : (n : NodeId) (t : Term) → Holds g n t → term_at g n ≡ t
  held_at n t holds = tree_within holds.tree n (suc (room_below g.trees n)) (omega arith) holds.stands ∙ holds.term

  -- each node holds a term
  pub live_holds : (n : NodeId) → IsLive (nodes g) n → (t : Term) × Holds g n t
  live_holds n live = let found = has_tree g.trees is.forest.linked n live in (term_of g.pool found.0, record { tree = found.0; stands = found.1; term = refl })
