-- Where new roots were added: what was there stays, and more may be added.
use Rattle.std.specs.Prelude.{◌≡◌, ◌⊎◌, refl, ℕ, zero, suc, ◌+◌, List, [], ◌∷◌, ◌++◌, length, Option, Some, None, slice_get, option_and_then}
use Rattle.std.proofs.Common.{sym, ap, ◌∙◌, subst, inl, inr, arith}
use Rattle.std.proofs.lemmas.Option.{none-some}
use Rattle.sg_kinds.specs.Places.{Place}
use Rattle.sg_pool.specs.Pools.{IsGrown}
use Rattle.sg_pool.proofs.Grown.{grown_itself, grown_twice}
use Rattle.sg_forest.specs.declared.node_id.NodeId.{NodeId}
use Rattle.sg_forest.specs.Node as forest
use Rattle.sg_forest.specs.Trees.{IsLive, IsRoot, IsChild, IsInside, Climbs}
use Rattle.sg_forest.specs.Tree.{KeepsWays}
use Rattle.sg_forest.specs.Steps.{KeepsKids}
use Rattle.sg_forest.proofs.Laws.{KeepsTrees-kids}
use Rattle.sg_forest.proofs.Paths.{parent_is_live}
use Rattle.sg_groves.specs.declared.kind.Kind.{Kind}
use Rattle.sg_groves.specs.declared.part.Part.{Part}
use Rattle.sg_groves.specs.Grove.{Grove, nodes, IsGrove}
use Rattle.sg_groves.specs.Stored.{number_at}
use Rattle.sg_groves.proofs.Frames.{grown_term}
use Rattle.sg_terms.specs.Found.{op_at}
use Rattle.sg_terms.specs.Kept.{KeepsTerms}
use Rattle.sg_build.specs.Grown.{GrewBy, IsUnknown}

-- a place of two lists
at_either : {X : Type 0} (xs ys : List X) (k : ℕ) (x : X) → slice_get (xs ++ ys) k ≡ Some x → (slice_get xs k ≡ Some x) ⊎ ((j : ℕ) × (slice_get ys j ≡ Some x) × (k ≡ length xs + j))
at_either [] ys k x at = inr (k, at, omega arith)
at_either (y ∷ xs) ys zero x at = inl at
at_either (y ∷ xs) ys (suc k) x at = elim (at_either xs ys k x at) [ inl one ↦ inl one | inr two ↦ inr (two.0, two.1, (let e = two.2 in omega (arith, e))) ]

at_first : {X : Type 0} (xs ys : List X) (k : ℕ) (x : X) → slice_get xs k ≡ Some x → slice_get (xs ++ ys) k ≡ Some x
at_first [] ys k x at = absurd (none-some x at)
at_first (y ∷ xs) ys zero x at = at
at_first (y ∷ xs) ys (suc k) x at = at_first xs ys k x at

at_second : {X : Type 0} (xs ys : List X) (k : ℕ) (x : X) → slice_get ys k ≡ Some x → slice_get (xs ++ ys) (length xs + k) ≡ Some x
at_second [] ys k x at = let e : 0 + k ≡ k = omega arith in ap (slice_get ys) e ∙ at
at_second (y ∷ xs) ys k x at = let e : suc (length xs) + k ≡ suc (length xs + k) = omega arith in ap (slice_get (y ∷ (xs ++ ys))) e ∙ at_second xs ys k x at

-- a node that is not there is not live
pub not_there : (g : Grove) (n : NodeId) → nodes g n ≡ None → IsLive (nodes g) n → ⊥
not_there g n none live = none-some live.node (sym none ∙ live.found)

pub there_or_not : (g : Grove) (n : NodeId) → (nodes g n ≡ None) ⊎ IsLive (nodes g) n
there_or_not g n = by (nodes g n) refl
  where
    by : (o : Option (forest.Node Kind Part)) → nodes g n ≡ o → (nodes g n ≡ None) ⊎ IsLive (nodes g) n
    by None is = inl is
    by (Some x) is = inr (record { node = x; found = is })

-- what is stored at a node is told by the node alone
pub same_op : (g h : Grove) (n : NodeId) (op : ℕ) → nodes h n ≡ nodes g n → op_at h n ≡ Some op → op_at g n ≡ Some op
same_op g h n op same at = ap (option_and_then (λ (x : forest.Node Kind Part). x.label.op)) (sym same) ∙ at

pub same_number : (g h : Grove) (n : NodeId) (slot id : ℕ) → nodes h n ≡ nodes g n → number_at h n slot ≡ Some id → number_at g n slot ≡ Some id
same_number g h n slot id same at = ap (option_and_then (λ (x : forest.Node Kind Part). slice_get x.part.values slot)) (sym same) ∙ at

-- nothing added
pub grew_same : (old new : Grove) → new.spec ≡ old.spec → new.view ≡ old.view → IsGrown old.pool new.pool → ((n : NodeId) → nodes new n ≡ nodes old n) → GrewBy old new []
grew_same old new spec view pool same = record {
  spec = spec;
  view = view;
  pool = pool;
  before = λ n live. same n;
  fresh = λ k n at. absurd (none-some n at);
  tops = λ k n at. absurd (none-some n at);
  once = λ j k n one two. absurd (none-some n one);
  added = λ n none live. absurd (not_there old n none (record { node = live.node; found = sym (same n) ∙ live.found }));
  unknown = λ n op slot id none at number. absurd (none-some op (sym (ap (option_and_then (λ (x : forest.Node Kind Part). x.label.op)) (same n ∙ none)) ∙ at));
}

pub grew_none : (g : Grove) → GrewBy g g []
grew_none g = grew_same g g refl refl (grown_itself g.pool) (λ n. refl)

module _ (old new : Grove) (roots : List NodeId) (grew : GrewBy old new roots) where
  pub grew_live : (n : NodeId) → IsLive (nodes old) n → IsLive (nodes new) n
  grew_live n live = record { node = live.node; found = grew.before n live ∙ live.found }

  pub grew_root : (n : NodeId) → IsRoot (nodes old) n → IsRoot (nodes new) n
  grew_root n root = record { node = root.node; found = grew.before n (record { node = root.node; found = root.found }) ∙ root.found; top = root.top }

  grew_child : (n p : NodeId) (k : ℕ) → IsChild (nodes old) n p k → IsChild (nodes new) n p k
  grew_child n p k child = record { node = child.node; found = grew.before n (record { node = child.node; found = child.found }) ∙ child.found; hangs = child.hangs }

  pub grew_ways : KeepsWays (nodes old) (nodes new)
  grew_ways [] n m same = same
  grew_ways (k ∷ u) n m climbs = (climbs.0, grew_child n climbs.0 k climbs.1, grew_ways u climbs.0 m climbs.2)

  grew_kids : KeepsKids (nodes old) (nodes new)
  grew_kids = record { kept = λ n x found. (x, grew.before n (record { node = x; found = found }) ∙ found, refl, refl, refl) }

  -- a number that was free before
  pub grew_free : (n : NodeId) → nodes new n ≡ None → nodes old n ≡ None
  grew_free n none = elim (there_or_not old n) [ inl free ↦ free | inr live ↦ absurd (not_there new n none (grew_live n live)) ]

  module _ (is : IsGrove old) where
    -- a node that was there is in no new tree
    grew_apart : (u : Place) (n r : NodeId) → IsLive (nodes old) n → Climbs (nodes new) u n r → IsLive (nodes old) r
    grew_apart [] n r live same = subst (IsLive (nodes old)) same live
    grew_apart (k ∷ u) n r live climbs =
        let child = climbs.1 in
        let here : IsChild (nodes old) n climbs.0 k = record { node = child.node; found = sym (grew.before n live) ∙ child.found; hangs = child.hangs } in
        grew_apart u climbs.0 r (parent_is_live (nodes old) is.forest.linked n climbs.0 k here) climbs.2

    pub grew_outside : (k : ℕ) (n r : NodeId) → slice_get roots k ≡ Some r → IsInside (nodes new) n r → nodes old n ≡ None
    grew_outside k n r at inside = elim (there_or_not old n) [ inl free ↦ free | inr live ↦ absurd (not_there old r (grew.fresh k r at) (grew_apart inside.path n r live inside.climbs)) ]

    -- each held term stays
    pub grew_terms : KeepsTerms old new
    grew_terms m t h = record {
      tree = h.tree;
      stands = KeepsTrees-kids (nodes old) (nodes new) grew_kids m h.tree h.stands;
      term = grown_term old is new.pool grew.pool h.tree m h.stands ∙ h.term;
    }

    pub grew_unknown : (k : ℕ) (r : NodeId) → slice_get roots k ≡ Some r → IsUnknown new r
    grew_unknown k r at n op slot id inside is_op number = grew.unknown n op slot id (grew_outside k n r at inside) is_op number

-- more and more
module _ (old mid new : Grove) (xs ys : List NodeId) (one : GrewBy old mid xs) (two : GrewBy mid new ys) where
  first_or_second : (k : ℕ) (n : NodeId) → slice_get (xs ++ ys) k ≡ Some n → (slice_get xs k ≡ Some n) ⊎ ((j : ℕ) × (slice_get ys j ≡ Some n) × (k ≡ length xs + j))
  first_or_second k n at = at_either xs ys k n at

  top_live : (k : ℕ) (n : NodeId) → slice_get xs k ≡ Some n → IsLive (nodes mid) n
  top_live k n at = let top = one.tops k n at in record { node = top.node; found = top.found }

  never_both : (j k : ℕ) (n : NodeId) → slice_get xs j ≡ Some n → slice_get ys k ≡ Some n → ⊥
  never_both j k n first second = not_there mid n (two.fresh k n second) (top_live j n first)

  pub grew_then : GrewBy old new (xs ++ ys)
  grew_then = record {
    spec = two.spec ∙ one.spec;
    view = two.view ∙ one.view;
    pool = grown_twice old.pool mid.pool new.pool one.pool two.pool;
    before = λ n live. two.before n (grew_live old mid xs one n live) ∙ one.before n live;
    fresh = λ k n at. elim (first_or_second k n at) [ inl first ↦ one.fresh k n first | inr second ↦ grew_free old mid xs one n (two.fresh second.0 n second.1) ];
    tops = λ k n at. elim (first_or_second k n at) [ inl first ↦ grew_root mid new ys two n (one.tops k n first) | inr second ↦ two.tops second.0 n second.1 ];
    once = λ j k n first second. elim (first_or_second j n first) [
      | inl a ↦ elim (first_or_second k n second) [ inl b ↦ one.once j k n a b | inr b ↦ absurd (never_both j b.0 n a b.1) ]
      | inr a ↦ elim (first_or_second k n second) [
        | inl b ↦ absurd (never_both k a.0 n b a.1)
        | inr b ↦ (let same = two.once a.0 b.0 n a.1 b.1 in let e = a.2 in let f = b.2 in omega (arith, same, e, f))
      ]
    ];
    added = λ n none live. elim (there_or_not mid n) [
      | inl free ↦ (let at = two.added n free live in record { place = length xs + at.place; root = at.root; at = at_second xs ys at.place at.root at.at; inside = at.inside })
      | inr there ↦ (
          let at = one.added n none there in
          record { place = at.place; root = at.root; at = at_first xs ys at.place at.root at.at; inside = record { path = at.inside.path; climbs = grew_ways mid new ys two at.inside.path n at.root at.inside.climbs } }
          )
    ];
    unknown = λ n op slot id none is number. elim (there_or_not mid n) [
      | inl free ↦ two.unknown n op slot id free is number
      | inr there ↦ (let same = two.before n there in one.unknown n op slot id none (same_op mid new n op same is) (same_number mid new n slot id same number))
    ];
  }
