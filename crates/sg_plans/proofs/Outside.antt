-- What is put at a place changes no node outside it.
use Rattle.std.specs.Prelude.{◌≡◌, ℕ, zero, suc, ◌⊎◌, List, [], ◌∷◌, ◌++◌, Option, None, Some, slice_get, option_and_then}
use Rattle.std.proofs.Common.{refl, sym, ap, ◌∙◌, arith, inl, inr, append_assoc}
use Rattle.std.proofs.lemmas.Bool.{cases_order}
use Rattle.std.proofs.lemmas.List.{append-nil}
use Rattle.sg_kinds.specs.declared.spec.Rules.{Rules}
use Rattle.sg_kinds.specs.Terms.{Term, Terms, Leaf, Node, NoTerm, AndTerm, terms_of}
use Rattle.sg_kinds.specs.Places.{Place, child, sub, put, with_child, with_kid}
use Rattle.sg_kinds.specs.Nets.{label_of}
use Rattle.sg_kinds.specs.Instances.{Site}
use Rattle.sg_kinds.proofs.TermLaws.{sub_put_inside, put_sub}
use Rattle.sg_orders.specs.LiveSites.{IsLive}
use Rattle.sg_plans.specs.Segments.{IsOutside}
use Rattle.sg_plans.proofs.Stepped.{last_of}

-- another child stays
kid_stays : (ts : Terms) (k l : ℕ) (s : Term) → (l ≡ k → ⊥) → slice_get (terms_of (with_kid ts k s)) l ≡ slice_get (terms_of ts) l
kid_stays NoTerm k l s other = refl
kid_stays (AndTerm t ts) zero zero s other = absurd (other refl)
kid_stays (AndTerm t ts) zero (suc l) s other = refl
kid_stays (AndTerm t ts) (suc k) zero s other = refl
kid_stays (AndTerm t ts) (suc k) (suc l) s other = kid_stays ts k l s (λ e. other (ap suc e))

child_stays : (n : Term) (k l : ℕ) (s : Term) → (l ≡ k → ⊥) → child l (with_child n k s) ≡ child l n
child_stays (Leaf p v) k l s other = refl
child_stays (Node op scheme elided ts) k l s other = kid_stays ts k l s other

label_stays : (n : Term) (k : ℕ) (s : Term) → label_of (Some (with_child n k s)) ≡ label_of (Some n)
label_stays (Leaf p v) k s = refl
label_stays (Node op scheme elided ts) k s = refl

-- what stands below a child
sub_joins : (n : Term) (v : List ℕ) (l : ℕ) → sub n (v ++ l ∷ []) ≡ option_and_then (λ c. sub c v) (child l n)
sub_joins n [] l = by (child l n)
  where
    by : (o : Option Term) → o ≡ option_and_then (λ c. Some c) o
    by None = refl
    by (Some c) = refl
sub_joins n (k ∷ v) l = ap (option_and_then (child k)) (sub_joins n v l) ∙ by (child l n)
  where
    by : (o : Option Term) → option_and_then (child k) (option_and_then (λ c. sub c v) o) ≡ option_and_then (λ c. sub c (k ∷ v)) o
    by None = refl
    by (Some c) = refl

below_stays : (n : Term) (k l : ℕ) (v : List ℕ) (s : Term) → (l ≡ k → ⊥) → sub (with_child n k s) (v ++ l ∷ []) ≡ sub n (v ++ l ∷ [])
below_stays n k l v s other = sub_joins (with_child n k s) v l ∙ ap (option_and_then (λ c. sub c v)) (child_stays n k l s other) ∙ sym (sub_joins n v l)

sub_within : (t : Term) (u w : Place) (n : Term) → sub t u ≡ Some n → sub t (w ++ u) ≡ sub n w
sub_within t u w n at = ap (λ x. sub x (w ++ u)) (sym (put_sub t u n at)) ∙ sub_put_inside t u w n n at

abbrev put_by : Term → Place → ℕ → Term → Option Term → Term
put_by t u k s o = elim o [ None ↦ t | Some n ↦ put t u (with_child n k s) ]

-- a place is at or below that of the change, or its node stays
inside_or_same : (t : Term) (u : Place) (s : Term) (v : Place) → ((w : List ℕ) × (v ≡ w ++ u)) ⊎ (label_of (sub (put t u s) v) ≡ label_of (sub t v))
inside_or_same t [] s v = inl (v, sym (append-nil v))
inside_or_same t (k ∷ u) s v = by (sub t u) refl (λ x. inside_or_same t u x v)
  where
    within : (n : Term) → sub t u ≡ Some n → (w : List ℕ) → v ≡ w ++ u → ((w : List ℕ) × (v ≡ w ++ k ∷ u)) ⊎ (label_of (sub (put t u (with_child n k s)) v) ≡ label_of (sub t v))
    within n at [] is = inr (
        ap (λ x. label_of (sub (put t u (with_child n k s)) x)) is ∙ ap label_of (sub_put_inside t u [] n (with_child n k s) at) ∙ label_stays n k s ∙ sym (ap label_of at) ∙ ap (λ x. label_of (sub t x)) (sym is))
    within n at (h ∷ w) is =
        let split = last_of h w in
        let below : v ≡ (split.0 ++ split.1 ∷ []) ++ u = is ∙ ap (λ xs. xs ++ u) split.2 in
        let other : (split.1 ≡ k → ⊥) → label_of (sub (put t u (with_child n k s)) v) ≡ label_of (sub t v) = λ no.
        ap (λ x. label_of (sub (put t u (with_child n k s)) x)) below
        ∙ ap label_of (sub_put_inside t u (split.0 ++ split.1 ∷ []) n (with_child n k s) at ∙ below_stays n k split.1 split.0 s no ∙ sym (sub_within t u (split.0 ++ split.1 ∷ []) n at))
        ∙ ap (λ x. label_of (sub t x)) (sym below) in
        elim (cases_order split.1 k) [
          | inl same ↦ inl (split.0, below ∙ append_assoc split.0 (split.1 ∷ []) u ∙ ap (λ l. split.0 ++ l ∷ u) same)
          | inr (inl less) ↦ inr (other (λ e. omega (arith, less, e)))
          | inr (inr more) ↦ inr (other (λ e. omega (arith, more, e)))
        ]

    by : (o : Option Term) → sub t u ≡ o → ((x : Term) → ((w : List ℕ) × (v ≡ w ++ u)) ⊎ (label_of (sub (put t u x) v) ≡ label_of (sub t v))) → ((w : List ℕ) × (v ≡ w ++ k ∷ u)) ⊎ (label_of (sub (put t (k ∷ u) s) v) ≡ label_of (sub t v))
    by None at above = inr (ap (λ o. label_of (sub (put_by t u k s o) v)) at)
    by (Some n) at above =
        let same : label_of (sub (put t (k ∷ u) s) v) ≡ label_of (sub (put t u (with_child n k s)) v) = ap (λ o. label_of (sub (put_by t u k s o) v)) at in
        elim (above (with_child n k s)) [
          | inr stays ↦ inr (same ∙ stays)
          | inl at_u ↦ elim (within n at at_u.0 at_u.1) [ inl inside ↦ inl inside | inr stays ↦ inr (same ∙ stays) ]
        ]

pub label_outside : (t : Term) (u : Place) (s : Term) (v : Place) → IsOutside u v → label_of (sub (put t u s) v) ≡ label_of (sub t v)
label_outside t u s v out = elim (inside_or_same t u s v) [ inl inside ↦ absurd (out inside.0 inside.1) | inr same ↦ same ]

-- so equations outside it are the same
pub live_before : (rules : Rules) (t : Term) (u : Place) (s : Term) (i : Site Place) → IsOutside u i.node → IsLive rules (put t u s) i → IsLive rules t i
live_before rules t u s i out live = record { label = sym (label_outside t u s i.node out) ∙ live.label; stands = live.stands }

pub live_after : (rules : Rules) (t : Term) (u : Place) (s : Term) (i : Site Place) → IsOutside u i.node → IsLive rules t i → IsLive rules (put t u s) i
live_after rules t u s i out live = record { label = label_outside t u s i.node out ∙ live.label; stands = live.stands }
