-- Where only stored values change.
use Rattle.std.specs.Prelude.{◌≡◌, ◌⊎◌, refl, ℕ, zero, suc, List, [], ◌∷◌, Option, Some, None, slice_get, option_map, option_and_then, unwrap_or, MatchOption}
use Rattle.std.proofs.Common.{sym, ap, ◌∙◌, subst, inl, inr, arith}
use Rattle.std.proofs.lemmas.Option.{none-some, same_Some, slice_get_within}
use Rattle.sg_kinds.proofs.Elementary.{slice_get-before, slice_get-there}
use Rattle.sg_kinds.specs.Values.{Value}
use Rattle.sg_kinds.specs.Evaluation.{untyped}
use Rattle.sg_kinds.specs.Terms.{Term, Terms, Leaf, Node, AndTerm}
use Rattle.sg_kinds.specs.Typing.{slots_there}
use Rattle.sg_kinds.specs.Places.{Place}
use Rattle.sg_kinds.specs.Nets.{net_of}
use Rattle.sg_kinds.specs.Instances.{site_of}
use Rattle.sg_kinds.specs.FromScratch.{value_in}
use Rattle.sg_kinds.specs.Specification.{rules_of}
use Rattle.sg_kinds.specs.declared.spec.Spec.{Spec}
use Rattle.sg_pool.specs.Pools.{value_at, IsGrown, StandsFor}
use Rattle.sg_pool.proofs.Grown.{grown_itself, grown_twice}
use Rattle.sg_forest.specs.declared.node_id.NodeId.{NodeId}
use Rattle.sg_forest.specs.Node as forest
use Rattle.sg_forest.specs.Trees.{IsRoot, Climbs}
use Rattle.sg_forest.specs.Tree as tree
use Rattle.sg_forest.proofs.Shape as shapes
use Rattle.sg_forest.proofs.Standing.{one_tree}
use Rattle.sg_groves.specs.declared.kind.Kind.{Kind}
use Rattle.sg_groves.specs.declared.part.Part.{Part}
use Rattle.sg_groves.specs.Grove.{Grove, nodes, IsLeaf, IsOperation, IsGrove}
use Rattle.sg_groves.specs.Stored.{kept, number_at, value_there}
use Rattle.sg_groves.specs.Holds.{term_over, term_of, terms_under, Holds}
use Rattle.sg_groves.specs.Unchanged.{KeepsPart, OnlyStored}
use Rattle.sg_groves.specs.IsRight.{IsRight}
use Rattle.sg_groves.proofs.Held.{one_term, live_holds, stands_node}

abbrev Slots : Type 1
Slots = NodeId → ℕ → Type 0

part_itself : (kind : Kind) (p : Part) (changed : ℕ → Type 0) → KeepsPart kind p p changed
part_itself kind p changed = record { scheme = refl; elided = refl; count = refl; others = λ slot out. refl; leaf = λ is. refl }

pub only_itself : (g : Grove) (changed : Slots) → OnlyStored g g changed
only_itself g changed = record {
  spec = refl;
  view = refl;
  pool = grown_itself g.pool;
  shape = shapes.KeepsShape-same (nodes g);
  room = λ n. refl;
  parts = λ n x y found there. let same : x ≡ y = cc (found, there) in subst (λ z. KeepsPart x.label x.part z.part (changed n)) same (part_itself x.label x.part (changed n));
}

pub only_more : (old new : Grove) (few more : Slots) → ((n : NodeId) (slot : ℕ) → few n slot → more n slot) → OnlyStored old new few → OnlyStored old new more
only_more old new few more within only = record {
  spec = only.spec;
  view = only.view;
  pool = only.pool;
  shape = only.shape;
  room = only.room;
  parts = λ n x y found there. let p = only.parts n x y found there in record {
    scheme = p.scheme;
    elided = p.elided;
    count = p.count;
    others = λ slot out. p.others slot (λ one. out (within n slot one));
    leaf = p.leaf;
  };
}

pub only_twice : (old mid new : Grove) (first second : Slots) → OnlyStored old mid first → OnlyStored mid new second → OnlyStored old new (λ n slot. first n slot ⊎ second n slot)
only_twice old mid new first second one two = record {
  spec = two.spec ∙ one.spec;
  view = two.view ∙ one.view;
  pool = grown_twice old.pool mid.pool new.pool one.pool two.pool;
  shape = shapes.KeepsShape-then (nodes old) (nodes mid) (nodes new) one.shape two.shape;
  room = λ n. two.room n ∙ one.room n;
  parts = λ n x z found there.
      let between = one.shape.kept n x found in
      let y = between.0 in
      let p = one.parts n x y found between.1 in
      let q = two.parts n y z between.1 there in
      record {
        scheme = q.scheme ∙ p.scheme;
        elided = q.elided ∙ p.elided;
        count = q.count ∙ p.count;
        others = λ slot out. q.others slot (λ in_second. out (inr in_second)) ∙ p.others slot (λ in_first. out (inl in_first));
        leaf = λ is. q.leaf (ap (λ (l : Kind). l.op) between.2 ∙ is) ∙ p.leaf is;
      };
}

-- each stored number is in the pool
pub number_stands : (g : Grove) → IsGrove g → (n : NodeId) (slot id : ℕ) → number_at g n slot ≡ Some id → (v : Value) × StandsFor g.pool id v
number_stands g is n slot id at = by (nodes g n) refl at
  where
    in_node : (x : forest.Node Kind Part) (o : Option ℕ) → MatchOption o (IsLeaf g x) (IsOperation g x) → slice_get x.part.values slot ≡ Some id → (v : Value) × StandsFor g.pool id v
    in_node x None leaf got = in_leaf slot (sym (ap (λ l. slice_get l slot) leaf.values) ∙ got)
      where
        in_leaf : (k : ℕ) → slice_get (leaf.id ∷ []) k ≡ Some id → (v : Value) × StandsFor g.pool id v
        in_leaf zero e = (leaf.value, subst (λ j. StandsFor g.pool j leaf.value) (same_Some leaf.id id e) leaf.stands)
        in_leaf (suc k) e = absurd (none-some id e)
    in_node x (Some op) operation got =
        let typed = operation.values in
        let low = slice_get_within x.part.values slot id got in
        let type = slice_get-there (slots_there g.spec op 0) slot (let count = typed.count in omega (arith, low, count)) in
        let one = typed.each slot type.0 id type.1 got in
        (one.value, one.stands)

    by : (o : Option (forest.Node Kind Part)) → nodes g n ≡ o → option_and_then (λ x. slice_get x.part.values slot) o ≡ Some id → (v : Value) × StandsFor g.pool id v
    by None found got = absurd (none-some id got)
    by (Some x) found got = in_node x x.label.op (is.each n x found) got

module _ (old new : Grove) (changed : Slots) (only : OnlyStored old new changed) where
  -- a number keeps its value
  grown_stands : (id : ℕ) (v : Value) → StandsFor old.pool id v → StandsFor new.pool id v
  grown_stands id v stands = ap (λ l. slice_get l id) only.pool.is ∙ slice_get-before old.pool only.pool.more id v stands

  -- ways and roots
  pub only_climbs : (u : Place) (n m : NodeId) → Climbs (nodes old) u n m → Climbs (nodes new) u n m
  only_climbs = shapes.Climbs-shape (nodes old) (nodes new) only.shape

  pub only_root : (n : NodeId) → IsRoot (nodes old) n → IsRoot (nodes new) n
  only_root = shapes.IsRoot-shape (nodes old) (nodes new) only.shape

  pub only_climbed : (u : Place) (n m : NodeId) → Climbs (nodes new) u n m → Climbs (nodes old) u n m
  only_climbed = shapes.Climbs-shape (nodes new) (nodes old) (shapes.KeepsShape-back (nodes old) (nodes new) only.shape)

  pub only_was_root : (n : NodeId) → IsRoot (nodes new) n → IsRoot (nodes old) n
  only_was_root = shapes.IsRoot-shape (nodes new) (nodes old) (shapes.KeepsShape-back (nodes old) (nodes new) only.shape)

  -- stored numbers and values
  pub only_number : (n : NodeId) (slot : ℕ) → (changed n slot → ⊥) → number_at new n slot ≡ number_at old n slot
  only_number n slot out = by (nodes old n) refl
    where
      by : (o : Option (forest.Node Kind Part)) → nodes old n ≡ o → number_at new n slot ≡ option_and_then (λ x. slice_get x.part.values slot) o
      by None found = ap (option_and_then (λ (x : forest.Node Kind Part). slice_get x.part.values slot)) (only.shape.dead n found)
      by (Some x) found =
          let now = only.shape.kept n x found in
          ap (option_and_then (λ (y : forest.Node Kind Part). slice_get y.part.values slot)) now.1 ∙ (only.parts n x now.0 found now.1).others slot out

  pub only_value : IsGrove old → (n : NodeId) (slot : ℕ) → (changed n slot → ⊥) → value_there new n slot ≡ value_there old n slot
  only_value is n slot out = ap (λ o. unwrap_or (option_map (value_at new.pool) o) untyped) (only_number n slot out) ∙ by (number_at old n slot) refl
    where
      by : (o : Option ℕ) → number_at old n slot ≡ o → unwrap_or (option_map (value_at new.pool) o) untyped ≡ unwrap_or (option_map (value_at old.pool) o) untyped
      by None at = refl
      by (Some id) at =
          let stands = number_stands old is n slot id at in
          ap (λ o. unwrap_or o untyped) (grown_stands id stands.0 stands.1 ∙ sym stands.1)

  -- held terms
  module _ (is : IsGrove old) where
    leaf_kept : (x y : forest.Node Kind Part) → IsLeaf old x → y.part.values ≡ x.part.values → kept new.pool y.part 0 ≡ kept old.pool x.part 0
    leaf_kept x y leaf same =
        ap (λ ids. unwrap_or (option_map (value_at new.pool) (slice_get ids 0)) untyped) (same ∙ leaf.values)
        ∙ ap (λ o. unwrap_or o untyped) (grown_stands leaf.id leaf.value leaf.stands ∙ sym leaf.stands)
        ∙ sym (ap (λ ids. unwrap_or (option_map (value_at old.pool) (slice_get ids 0)) untyped) leaf.values)

    top_kept : (x y : forest.Node Kind Part) (ts : Terms) → KeepsPart x.label x.part y.part (λ slot. Unit {0}) → (o : Option ℕ) → x.label.op ≡ o → MatchOption o (IsLeaf old x) (IsOperation old x)
        → ◌≡◌ {A = Term} (elim o [ None ↦ Leaf x.label.phylum (kept new.pool y.part 0) | Some op ↦ Node op y.part.scheme y.part.elided ts ])
        (elim o [ None ↦ Leaf x.label.phylum (kept old.pool x.part 0) | Some op ↦ Node op x.part.scheme x.part.elided ts ])
    top_kept x y ts keeps None at leaf = ap (Leaf x.label.phylum) (leaf_kept x y leaf (keeps.leaf at))
    top_kept x y ts keeps (Some op) at operation = λ i. Node op (keeps.scheme i) (keeps.elided i) ts

    mutual
      tree_kept : (t : tree.Tree Kind Part) (n : NodeId) → tree.Stands (nodes old) n t → (s : tree.Tree Kind Part) × tree.Stands (nodes new) n s × (term_of new.pool s ≡ term_of old.pool t)
      tree_kept (tree.node kind part ts) n stands =
          let shows = stands.1 in
          let x = shows.node in
          let now = only.shape.kept n x shows.found in
          let y = now.0 in
          let row = row_kept ts stands.0 stands.2 in
          let p = only.parts n x y shows.found now.1 in
          let weak : KeepsPart x.label x.part y.part (λ slot. Unit {0}) = record { scheme = p.scheme; elided = p.elided; count = p.count; others = λ slot out. absurd (out tt); leaf = p.leaf } in
          let same : term_over new.pool x.label y.part (terms_under new.pool row.0) ≡ term_over old.pool x.label x.part (terms_under new.pool row.0) = top_kept x y (terms_under new.pool row.0) weak x.label.op refl (is.each n x shows.found) in (
            tree.node kind y.part row.0,
            (stands.0, record { node = y; found = now.1; has_label = now.2 ∙ shows.has_label; has_part = refl; has_kids = now.4 ∙ shows.has_kids }, row.1),
            ap (λ l. term_over new.pool l y.part (terms_under new.pool row.0)) (sym shows.has_label) ∙ same
                ∙ (λ i. term_over old.pool (shows.has_label i) (shows.has_part i) (row.2 i)),
          )

      row_kept : (ts : tree.Row Kind Part) (ids : List NodeId) → tree.StandAll (nodes old) ids ts → (us : tree.Row Kind Part) × tree.StandAll (nodes new) ids us × (terms_under new.pool us ≡ terms_under old.pool ts)
      row_kept tree.end ids all = (tree.end, all, refl)
      row_kept (tree.beside t ts) ids all =
          let first = tree_kept t all.0 all.3 in
          let rest = row_kept ts all.1 all.4 in
          (tree.beside first.0 rest.0, (all.0, all.1, all.2, first.1, rest.1), λ i. AndTerm (first.2 i) (rest.2 i))

    pub only_holds : (n : NodeId) (t : Term) → Holds old n t → Holds new n t
    only_holds n t holds = let now = tree_kept holds.tree n holds.stands in record { tree = now.0; stands = now.1; term = now.2 ∙ holds.term }

    pub only_held : (n : NodeId) (t : Term) → Holds new n t → Holds old n t
    only_held n t holds =
        let there = stands_node new holds.tree n holds.stands in
        let live = shapes.IsLive-shape (nodes new) (nodes old) (shapes.KeepsShape-back (nodes old) (nodes new) only.shape) n (record { node = there.0; found = there.1 }) in
        let was = live_holds old is n live in
        subst (Holds old n) (one_term new n was.0 t (only_holds n was.0 was.1) holds) was.1

    -- a tree that is right stays so where nothing in it changes
    pub only_right : (n : NodeId) → IsRight old n → ((u : Place) (m : NodeId) (slot : ℕ) → Climbs (nodes old) u m n → changed m slot → ⊥) → IsRight new n
    only_right n right out = record {
      term = right.term;
      holds = only_holds n right.term right.holds;
      right = λ u m slot i climbs site.
          let way = only_climbed u m n climbs in
          let was : site_of (rules_of old.spec) (net_of right.term) (record { node = u; slot = slot }) ≡ Some i = subst (λ (x : Spec). site_of (rules_of x) (net_of right.term) (record { node = u; slot = slot }) ≡ Some i) only.spec site in
          only_value is m slot (out u m slot way) ∙ right.right u m slot i way was
          ∙ ap (λ (x : Spec). value_in x right.term (record { node = u; slot = slot })) (sym only.spec);
    }

-- where only the pool grows each term stays
module _ (g : Grove) (is : IsGrove g) (pool : List Value) (grown : IsGrown g.pool pool) where
  pub grown_term : (t : tree.Tree Kind Part) (n : NodeId) → tree.Stands (nodes g) n t → term_of pool t ≡ term_of g.pool t
  grown_term t n stands =
      let later : Grove = record { spec = g.spec; trees = g.trees; pool = pool; view = g.view } in
      let same : OnlyStored g g (λ n slot. ⊥) = only_itself g (λ n slot. ⊥) in
      let only : OnlyStored g later (λ n slot. ⊥) = record { spec = refl; view = refl; pool = grown; shape = same.shape; room = same.room; parts = same.parts } in
      let now = tree_kept g later (λ n slot. ⊥) only is t n stands in
      ap (term_of pool) (one_tree (nodes g) t now.0 n stands now.1) ∙ now.2
