-- One of the roots that were added, and its tree, goes again.
use Rattle.std.specs.Prelude.{◌≡◌, ◌≢◌, ◌↔◌, refl, ℕ, zero, suc, List, [], ◌∷◌, Some, None, slice_get, option_and_then}
use Rattle.std.proofs.Common.{sym, ap, ◌∙◌, subst, inl, inr, arith}
use Rattle.std.proofs.lemmas.Option.{none-some, same_Some}
use Rattle.sg_pool.specs.Pools.{IsGrown}
use Rattle.sg_kinds.specs.Places.{Place}
use Rattle.sg_forest.specs.declared.node_id.NodeId.{NodeId}
use Rattle.sg_forest.specs.Node as forest
use Rattle.sg_forest.specs.Trees.{IsLive, IsRoot, IsInside, Climbs}
use Rattle.sg_forest.specs.Steps.{IsDropped}
use Rattle.sg_forest.specs.Tree.{KeepsWaysOutside}
use Rattle.sg_groves.specs.declared.kind.Kind.{Kind}
use Rattle.sg_groves.specs.declared.part.Part.{Part}
use Rattle.sg_groves.specs.Grove.{Grove, nodes, IsGrove}
use Rattle.sg_build.specs.Grown.{IsInOneOf, GrewBy}
use Rattle.sg_build.proofs.Framed.{not_there, there_or_not, same_op, same_number, grew_outside}

-- what `drop_tree` tells
pub record IsGone (mid new : Grove) (r : NodeId) : Type 0 where
  pub dropped : IsDropped (nodes mid) (nodes new) r
  pub roots : (n : NodeId) → IsRoot (nodes new) n ↔ IsRoot (nodes mid) n × (n ≢ r)
  pub ways : KeepsWaysOutside (nodes mid) (nodes new) r
  pub spec : new.spec ≡ mid.spec
  pub view : new.view ≡ mid.view
  pub pool : new.pool ≡ mid.pool

module _ (old mid new : Grove) (r : NodeId) (rest : List NodeId) (is : IsGrove old) (held : IsGrove mid) (grew : GrewBy old mid (r ∷ rest)) (gone : IsGone mid new r) where
  -- what is there is outside the dropped tree, and as it was
  dead_outside : (n : NodeId) → nodes mid n ≡ None → IsInside (nodes mid) n r → ⊥
  dead_outside n none inside = by inside.path inside.climbs
    where
      by : (u : Place) → Climbs (nodes mid) u n r → ⊥
      by [] same = let top = grew.tops 0 r refl in not_there mid n none (record { node = top.node; found = ap (nodes mid) same ∙ top.found })
      by (k ∷ u) climbs = let child = climbs.1 in not_there mid n none (record { node = child.node; found = child.found })

  outside : (n : NodeId) → IsLive (nodes new) n → IsInside (nodes mid) n r → ⊥
  outside n live inside = not_there new n (gone.dropped.gone n inside) live

  same : (n : NodeId) → IsLive (nodes new) n → nodes new n ≡ nodes mid n
  same n live = gone.dropped.others n (outside n live)

  was_live : (n : NodeId) → IsLive (nodes new) n → IsLive (nodes mid) n
  was_live n live = record { node = live.node; found = sym (same n live) ∙ live.found }

  rest_of : (n : NodeId) → IsLive (nodes new) n → IsInOneOf mid (r ∷ rest) n → IsInOneOf new rest n
  rest_of n live one = by one.place one.at
    where
      by : (k : ℕ) → slice_get (r ∷ rest) k ≡ Some one.root → IsInOneOf new rest n
      by zero at = absurd (outside n live (subst (IsInside (nodes mid) n) (sym (same_Some r one.root at)) one.inside))
      by (suc k) at = record { place = k; root = one.root; at = at; inside = record { path = one.inside.path; climbs = gone.ways one.inside.path n one.root (outside n live) one.inside.climbs } }

  pub grew_without : GrewBy old new rest
  grew_without = record {
    spec = gone.spec ∙ grew.spec;
    view = gone.view ∙ grew.view;
    pool = subst (IsGrown old.pool) (sym gone.pool) grew.pool;
    before = λ n live. gone.dropped.others n (λ inside. not_there old n (grew_outside old mid (r ∷ rest) grew is 0 n r refl inside) live) ∙ grew.before n live;
    fresh = λ k n at. grew.fresh (suc k) n at;
    tops = λ k n at. (gone.roots n).1 (grew.tops (suc k) n at, λ e. let twice = grew.once 0 (suc k) r refl (at ∙ ap Some e) in absurd (omega (arith, twice)));
    once = λ j k n one two. let e = grew.once (suc j) (suc k) n one two in omega (arith, e);
    added = λ n none live. rest_of n live (grew.added n none (was_live n live));
    unknown = λ n op slot id none at number. elim (there_or_not new n) [
      | inl free ↦ absurd (none-some op (sym (ap (option_and_then (λ (x : forest.Node Kind Part). x.label.op)) free) ∙ at))
      | inr live ↦ grew.unknown n op slot id none (same_op mid new n op (same n live) at) (same_number mid new n slot id (same n live) number)
    ];
  }

-- nothing is left of what was added
pub as_it_was : (old new : Grove) → GrewBy old new [] → (n : NodeId) → nodes new n ≡ nodes old n
as_it_was old new grew n = elim (there_or_not old n) [
  | inr live ↦ grew.before n live
  | inl none ↦ elim (there_or_not new n) [
    | inl free ↦ free ∙ sym none
    | inr live ↦ (let one = grew.added n none live in absurd (none-some one.root one.at))
  ]
]
