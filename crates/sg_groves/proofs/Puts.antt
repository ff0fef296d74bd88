-- What a term that was put at a place leaves, and a second one in the same place.
use Rattle.std.specs.Prelude.{◌≡◌, ◌≢◌, ◌⊎◌, refl, ℕ, zero, suc, [], ◌∷◌, ◌++◌, Option, Some, None, slice_get, option_map, option_and_then}
use Rattle.std.proofs.Common.{sym, ap, ◌∙◌, subst, inl, inr, append_assoc, append-nil}
use Rattle.std.proofs.lemmas.Bool.{cases_eq}
use Rattle.sg_kinds.specs.Terms.{Term, Terms, Leaf, Node, NoTerm, AndTerm, terms_of}
use Rattle.sg_kinds.specs.Places.{Place, child, sub, put, with_child, with_kid}
use Rattle.sg_kinds.specs.Nets.{label_of}
use Rattle.sg_kinds.proofs.TermLaws.{sub_put, sub_put_inside}
use Rattle.sg_groves.specs.Bare.{bare, node_in}
use Rattle.sg_groves.specs.Evaluated.{IsAtOrBelow}
use Rattle.sg_groves.proofs.Below.{below_or_not}

-- a place below a place
pub sub_below : (t : Term) (u v : Place) (x : Term) → sub t u ≡ Some x → sub t (v ++ u) ≡ sub x v
sub_below t u [] x at = at
sub_below t u (k ∷ v) x at = ap (option_and_then (child k)) (sub_below t u v x at)

-- the same child changed twice
pub with_kid_twice : (ts : Terms) (k : ℕ) (s x : Term) → with_kid (with_kid ts k s) k x ≡ with_kid ts k x
with_kid_twice NoTerm k s x = refl
with_kid_twice (AndTerm t ts) zero s x = refl
with_kid_twice (AndTerm t ts) (suc k) s x = ap (AndTerm t) (with_kid_twice ts k s x)

pub with_child_twice : (n : Term) (k : ℕ) (s x : Term) → with_child (with_child n k s) k x ≡ with_child n k x
with_child_twice (Leaf p v) k s x = refl
with_child_twice (Node op scheme elided ts) k s x = ap (Node op scheme elided) (with_kid_twice ts k s x)

pub put_put : (t : Term) (u : Place) (s x : Term) → put (put t u s) u x ≡ put t u x
put_put t [] s x = refl
put_put t (k ∷ u) s x = by (sub t u) refl (put_put t u)
  where
    by : (o : Option Term) → sub t u ≡ o → ((s x : Term) → put (put t u s) u x ≡ put t u x)
        → put (elim o [ None ↦ t | Some n ↦ put t u (with_child n k s) ]) (k ∷ u) x ≡ elim o [ None ↦ t | Some n ↦ put t u (with_child n k x) ]
    by None at again = ap (λ (o : Option Term). elim o as (λ _. Term) [ None ↦ t | Some n ↦ put t u (with_child n k x) ]) at
    by (Some n) at again =
        let there = sub_put t u n (with_child n k s) at in
        ap (λ (o : Option Term). elim o as (λ _. Term) [ None ↦ put t u (with_child n k s) | Some m ↦ put (put t u (with_child n k s)) u (with_child m k x) ]) there
        ∙ ap (λ m. put (put t u (with_child n k s)) u m) (with_child_twice n k s x)
        ∙ again (with_child n k s) (with_child n k x)

-- another child than the changed one
pub other_kid : (ts : Terms) (k j : ℕ) (s : Term) → j ≢ k → slice_get (terms_of (with_kid ts k s)) j ≡ slice_get (terms_of ts) j
other_kid NoTerm k j s differs = refl
other_kid (AndTerm t ts) zero zero s differs = absurd (differs refl)
other_kid (AndTerm t ts) zero (suc j) s differs = refl
other_kid (AndTerm t ts) (suc k) zero s differs = refl
other_kid (AndTerm t ts) (suc k) (suc j) s differs = other_kid ts k j s (λ e. differs (ap suc e))

pub other_child : (n : Term) (k j : ℕ) (s : Term) → j ≢ k → child j (with_child n k s) ≡ child j n
other_child (Leaf p v) k j s differs = refl
other_child (Node op scheme elided ts) k j s differs = other_kid ts k j s differs

bare-with_child : (n : Term) (k : ℕ) (s : Term) → bare (with_child n k s) ≡ bare n
bare-with_child (Leaf p v) k s = refl
bare-with_child (Node op scheme elided ts) k s = refl

-- what stands at a place below a node with a changed child: the node, or something below that child, or the same as before
below_changed : (n : Term) (k : ℕ) (s : Term) (v : Place) → (v ≡ []) ⊎ (IsAtOrBelow v (k ∷ []) ⊎ (sub (with_child n k s) v ≡ sub n v))
below_changed n k s [] = inl refl
below_changed n k s (j ∷ v) = by (below_changed n k s v)
  where
    at_top : (v ≡ []) → ((j ≡ k) ⊎ (j ≢ k)) → (j ∷ v ≡ []) ⊎ (IsAtOrBelow (j ∷ v) (k ∷ []) ⊎ (sub (with_child n k s) (j ∷ v) ≡ sub n (j ∷ v)))
    at_top top (inl same) = inr (inl (record { below = []; is = λ i. same i ∷ top i }))
    at_top top (inr differs) = inr (inr (subst (λ w. sub (with_child n k s) (j ∷ w) ≡ sub n (j ∷ w)) (sym top) (other_child n k j s differs)))

    by : (v ≡ []) ⊎ (IsAtOrBelow v (k ∷ []) ⊎ (sub (with_child n k s) v ≡ sub n v)) → (j ∷ v ≡ []) ⊎ (IsAtOrBelow (j ∷ v) (k ∷ []) ⊎ (sub (with_child n k s) (j ∷ v) ≡ sub n (j ∷ v)))
    by (inl top) = at_top top (cases_eq j k)
    by (inr (inl below)) = inr (inl (record { below = j ∷ below.below; is = ap (λ w. j ∷ w) below.is }))
    by (inr (inr same)) = inr (inr (ap (option_and_then (child j)) same))

-- at or below a child
below_child : (v u : Place) (k : ℕ) → IsAtOrBelow v (k ∷ []) → IsAtOrBelow (v ++ u) (k ∷ u)
below_child v u k b = record { below = b.below; is = ap (λ w. w ++ u) b.is ∙ append_assoc b.below (k ∷ []) u }

-- each node that is not in the new subterm stays
pub node_outside : (t : Term) (u : Place) (s : Term) (w : Place) → (IsAtOrBelow w u → ⊥) → node_in (put t u s) w ≡ node_in t w
node_outside t [] s w out = absurd (out (record { below = w; is = sym (append-nil w) }))
node_outside t (k ∷ u) s w out = by (sub t u) refl (node_outside t u)
  where
    inside : (n : Term) → sub t u ≡ Some n → IsAtOrBelow w u → node_in (put t u (with_child n k s)) w ≡ node_in t w
    inside n at b =
        let v = b.below in
        let now : sub (put t u (with_child n k s)) w ≡ sub (with_child n k s) v = ap (sub (put t u (with_child n k s))) b.is ∙ sub_put_inside t u v n (with_child n k s) at in
        let was : sub t w ≡ sub n v = ap (sub t) b.is ∙ sub_below t u v n at in
        let same : option_map bare (sub (with_child n k s) v) ≡ option_map bare (sub n v) = elim (below_changed n k s v) [
          | inl top ↦ ap (λ x. option_map bare (sub (with_child n k s) x)) top ∙ ap Some (bare-with_child n k s) ∙ sym (ap (λ x. option_map bare (sub n x)) top)
          | inr (inl below) ↦ absurd (out (let c = below_child v u k below in record { below = c.below; is = b.is ∙ c.is }))
          | inr (inr same) ↦ ap (option_map bare) same
        ] in
        ap (option_map bare) now ∙ same ∙ sym (ap (option_map bare) was)

    by : (o : Option Term) → sub t u ≡ o → ((s : Term) (w : Place) → (IsAtOrBelow w u → ⊥) → node_in (put t u s) w ≡ node_in t w)
        → option_map bare (sub (elim o [ None ↦ t | Some n ↦ put t u (with_child n k s) ]) w) ≡ node_in t w
    by None at again = refl
    by (Some n) at again = elim (below_or_not w u) [
      | inl b ↦ inside n at b
      | inr apart ↦ again (with_child n k s) w apart
    ]

-- and its label
label_of-bare : (o : Option Term) → label_of (option_map bare o) ≡ label_of o
label_of-bare None = refl
label_of-bare (Some (Leaf p v)) = refl
label_of-bare (Some (Node op scheme elided ts)) = refl

pub label_outside : (t : Term) (u : Place) (s : Term) (w : Place) → (IsAtOrBelow w u → ⊥) → label_of (sub (put t u s) w) ≡ label_of (sub t w)
label_outside t u s w out = sym (label_of-bare (sub (put t u s) w)) ∙ ap label_of (node_outside t u s w out) ∙ label_of-bare (sub t w)
