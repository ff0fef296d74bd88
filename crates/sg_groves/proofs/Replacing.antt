-- The term of a tree with another in a place is the term with the other's in that place.
use Rattle.std.specs.Prelude.{◌≡◌, refl, ℕ, zero, suc, List, [], ◌∷◌, Option, Some, None, slice_get, option_and_then}
use Rattle.std.proofs.Common.{sym, ap, ◌∙◌, subst}
use Rattle.std.proofs.lemmas.Option.{none-some, same_Some}
use Rattle.sg_kinds.specs.Values.{Value}
use Rattle.sg_kinds.specs.Terms.{Term, Leaf, Node, AndTerm, terms_of}
use Rattle.sg_kinds.specs.Places.{Place, child, sub, put, with_child}
use Rattle.sg_kinds.specs.Places as places
use Rattle.sg_forest.specs.Tree.{Tree, Row, node, end, beside, changed_at, changed_kid, changed, replaced}
use Rattle.sg_groves.specs.declared.kind.Kind.{Kind}
use Rattle.sg_groves.specs.declared.part.Part.{Part}
use Rattle.sg_groves.specs.Stored.{kept}
use Rattle.sg_groves.specs.Holds.{term_of, terms_under}

module _ (pool : List Value) where
  -- a change of a tree is one of its term
  abbrev Becomes : (Tree Kind Part → Tree Kind Part) → Term → Term → Type 0
  Becomes f x s = (t : Tree Kind Part) → term_of pool t ≡ x → term_of pool (f t) ≡ s

  row_changed : (ts : Row Kind Part) (k : ℕ) (f : Tree Kind Part → Tree Kind Part) (x s : Term) → slice_get (terms_of (terms_under pool ts)) k ≡ Some x → Becomes f x s
      → terms_under pool (changed_at k f ts) ≡ places.with_kid (terms_under pool ts) k s
  row_changed end k f x s at becomes = refl
  row_changed (beside t ts) zero f x s at becomes = ap (λ y. AndTerm y (terms_under pool ts)) (becomes t (same_Some (term_of pool t) x at))
  row_changed (beside t ts) (suc k) f x s at becomes = ap (AndTerm (term_of pool t)) (row_changed ts k f x s at becomes)

  kid_changed : (k : ℕ) (f : Tree Kind Part → Tree Kind Part) (n x s : Term) → child k n ≡ Some x → Becomes f x s → Becomes (changed_kid k f) n (with_child n k s)
  kid_changed k f n x s at becomes (node kind part ts) is = by kind.op (subst (λ m. child k m ≡ Some x) (sym is) at) ∙ ap (λ m. with_child m k s) is
    where
      by : (o : Option ℕ) → child k (elim o [ None ↦ Leaf kind.phylum (kept pool part 0) | Some op ↦ Node op part.scheme part.elided (terms_under pool ts) ]) ≡ Some x
          → ◌≡◌ {A = Term} (elim o [ None ↦ Leaf kind.phylum (kept pool part 0) | Some op ↦ Node op part.scheme part.elided (terms_under pool (changed_at k f ts)) ])
          (with_child (elim o [ None ↦ Leaf kind.phylum (kept pool part 0) | Some op ↦ Node op part.scheme part.elided (terms_under pool ts) ]) k s)
      by None got = absurd (none-some x got)
      by (Some op) got = ap (Node op part.scheme part.elided) (row_changed ts k f x s got becomes)

  pub tree_changed : (u : Place) (f : Tree Kind Part → Tree Kind Part) (t : Tree Kind Part) (x s : Term) → sub (term_of pool t) u ≡ Some x → Becomes f x s → term_of pool (changed u f t) ≡ put (term_of pool t) u s
  tree_changed [] f t x s at becomes = becomes t (same_Some (term_of pool t) x at)
  tree_changed (k ∷ u) f t x s at becomes = by (sub (term_of pool t) u) refl at (λ g n m. tree_changed u g t n m)
    where
      by : (o : Option Term) → sub (term_of pool t) u ≡ o → option_and_then (child k) o ≡ Some x
          → ((g : Tree Kind Part → Tree Kind Part) (n m : Term) → sub (term_of pool t) u ≡ Some n → Becomes g n m → term_of pool (changed u g t) ≡ put (term_of pool t) u m)
          → term_of pool (changed u (changed_kid k f) t) ≡ elim o [ None ↦ term_of pool t | Some n ↦ put (term_of pool t) u (with_child n k s) ]
      by None is got again = absurd (none-some x got)
      by (Some n) is got again = again (changed_kid k f) n (with_child n k s) is (kid_changed k f n x s got becomes)

  pub tree_replaced : (u : Place) (new t : Tree Kind Part) (x : Term) → sub (term_of pool t) u ≡ Some x → term_of pool (replaced u new t) ≡ put (term_of pool t) u (term_of pool new)
  tree_replaced u new t x at = tree_changed u (λ _. new) t x (term_of pool new) at (λ _ _. refl)

  pub tree_changed_by : (u : Place) (f : Tree Kind Part → Tree Kind Part) (h : Term → Term) (t : Tree Kind Part) (x : Term) → ((d : Tree Kind Part) → term_of pool (f d) ≡ h (term_of pool d)) → sub (term_of pool t) u ≡ Some x
      → term_of pool (changed u f t) ≡ put (term_of pool t) u (h x)
  tree_changed_by u f h t x same at = tree_changed u f t x (h x) at (λ d is. same d ∙ ap h is)
