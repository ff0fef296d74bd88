-- Outside what is put at a place a leaf keeps its value, and an equation that names nothing changed defines what it did.
use Rattle.std.specs.Prelude.{◌≡◌, ◌≢◌, ◌⊎◌, ℕ, suc, Bool, true, false, List, [], ◌∷◌, ◌++◌, map, Contains}
use Rattle.std.proofs.Common.{refl, sym, ap, ◌∙◌, arith, inl, inr}
use Rattle.std.proofs.lemmas.Bool.{false≢true}
use Rattle.sg_kinds.specs.declared.plans.Plans.{Plans}
use Rattle.sg_kinds.specs.declared.spec.Spec.{Spec}
use Rattle.sg_kinds.specs.Values.{Value, same_value}
use Rattle.sg_kinds.specs.SameValue.{value_is, value_same}
use Rattle.sg_kinds.specs.Terms.{Term}
use Rattle.sg_kinds.specs.Specification.{rules_of}
use Rattle.sg_kinds.specs.Places.{Place, put}
use Rattle.sg_kinds.specs.Nets.{Reference, net_of}
use Rattle.sg_kinds.specs.Instances.{Site, args_at}
use Rattle.sg_kinds.specs.FromScratch.{value_in}
use Rattle.sg_kinds.specs.Outcome.{outcome}
use Rattle.sg_orders.specs.LiveSites.{IsLive}
use Rattle.sg_plans.specs.Planned.{IsPlanned}
use Rattle.sg_plans.specs.Segments.{IsLeafSlot, IsOutside, bearer}
use Rattle.sg_plans.proofs.Outside.{label_outside, live_before}
use Rattle.sg_plans.proofs.Solved.{leaf_value, solved}

-- values are equal or not
pub same_or_not : (x y : Value) → (x ≡ y) ⊎ (x ≢ y)
same_or_not x y = by (same_value x y) refl
  where
    by : (b : Bool) → same_value x y ≡ b → (x ≡ y) ⊎ (x ≢ y)
    by true is = inl (value_is x y is)
    by false is = inr (λ same. false≢true (sym is ∙ ap (same_value x) (sym same) ∙ value_same x))

-- one of two places is at or below the other where they have a place at or below both
pub one_above : (v w c u : List ℕ) → v ++ c ≡ w ++ u → ((x : List ℕ) × (c ≡ x ++ u)) ⊎ ((x : List ℕ) × (u ≡ x ++ c))
one_above [] w c u same = inl (w, same)
one_above (k ∷ v) [] c u same = inr (k ∷ v, sym same)
one_above (k ∷ v) (h ∷ w) c u same = one_above v w c u (ap tail same)
  where
    tail : List ℕ → List ℕ
    tail [] = []
    tail (x ∷ xs) = xs

-- two functions that agree on a list's elements
same_map : {X Y : Type 0} (f g : X → Y) (xs : List X) → ((x : X) → Contains xs x → f x ≡ g x) → map f xs ≡ map g xs
same_map f g [] same = refl
same_map f g (x ∷ xs) same = ap (λ y. y ∷ map f xs) (same x (0, omega arith, refl)) ∙ ap (λ ys. g x ∷ ys) (same_map f g xs (λ y has. same y (suc has.0, (let l = has.1 in omega (arith, l)), has.2)))

-- a reference has the value of before
abbrev pub IsSame : Spec → Term → Term → Place → Reference Place → Type 0
IsSame spec t s u a = value_in spec (put t u s) a ≡ value_in spec t a

module _ (spec : Spec) (plans : Plans) (t s : Term) (u : Place) (was_planned : IsPlanned spec plans t) (planned : IsPlanned spec plans (put t u s)) where
  -- a leaf outside has its value still
  pub leaf_same : (a : Reference Place) → IsLeafSlot (put t u s) a → IsOutside u a.node → IsSame spec t s u a
  leaf_same a leaf out =
      leaf_value spec plans (put t u s) planned a leaf.phylum leaf.value leaf.label
      ∙ sym (leaf_value spec plans t was_planned a leaf.phylum leaf.value (sym (label_outside t u s a.node out) ∙ leaf.label))

  -- an equation outside without changed arguments defines what it defined
  pub cut : (i : Site Place) → IsLive (rules_of spec) (put t u s) i → IsOutside u i.node → ((a : Reference Place) → Contains (args_at (net_of (put t u s)) i) a → IsSame spec t s u a) → IsSame spec t s u (bearer (put t u s) i)
  cut i live out same =
      solved spec plans (put t u s) planned i live
      ∙ ap (outcome spec i.rule) (same_map (value_in spec (put t u s)) (value_in spec t) (args_at (net_of (put t u s)) i) same)
      ∙ sym (solved spec plans t was_planned i (live_before (rules_of spec) t u s i out live))
