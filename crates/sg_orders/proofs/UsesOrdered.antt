-- The language of a source and its use is ordered, and has valid plans.
use Rattle.std.specs.Prelude.{◌≡◌, refl, ℕ, zero, suc, ◌%◌, ◌<◌, ◌≤◌, Bool, true, false, nat_eq, [], ◌∷◌, length, Some, slice_index, AllPairs, List, Contains, ◌≢◌}
use Rattle.std.proofs.Common.{arith, inl, inr}
use mathlib.Core.Path.{sym, ap, ◌∙◌}
use Rattle.sg_kinds.specs.declared.spec.Occurrence.{Occurrence}
use Rattle.sg_kinds.specs.declared.spec.Rule.{Rule}
use Rattle.sg_kinds.specs.Specification.{attrs_of, is_inherited, rules_of}
use Rattle.sg_kinds.specs.Dependencies.{phylum_there, IsAttr, occurrence, Direct, InOperator, InPhylum}
use Rattle.sg_kinds.specs.Layers.{IsLayering, MayBeTaken, IsOfKind, Extended, within, layered}
use Rattle.sg_kinds.specs.declared.plans.Plans.{Plans}
use Rattle.sg_kinds.specs.Visits.{row_at, position_in, belongs, seat}
use Rattle.sg_kinds.specs.ValidPlans.{AreVisits, ArePositions, IsStepAt, AreStepsOf, AreSteps, AreValid}
use Rattle.sg_kinds.specs.declared.plans.PlanStep.{PlanStep}
use Rattle.sg_kinds.specs.declared.plans.PlanStep.TheVariants.{Eval, Visit}
use Rattle.sg_orders.specs.Keys.{key, IsLess}
use Rattle.sg_kinds.specs.Terms.{Term}
use Rattle.sg_kinds.specs.Completing.{completing}
use Rattle.sg_kinds.proofs.Least.{least_in_phylum, least_in_operator}
use Rattle.sg_kinds.proofs.Each.{Each, EachPair, each_of, pairs_of}
use Rattle.sg_kinds.proofs.Languages.{uses, rule, at}

abbrev plans : Plans
plans = record {
  visits = (1 ∷ []) ∷ (1 ∷ []) ∷ (1 ∷ []) ∷ [] ∷ (1 ∷ []) ∷ (1 ∷ 1 ∷ 1 ∷ []) ∷ [];
  places = (0 ∷ 1 ∷ 2 ∷ 3 ∷ []) ∷ (0 ∷ []) ∷ (0 ∷ []) ∷ (0 ∷ 1 ∷ 2 ∷ []) ∷ [];
  steps = ((Visit 0 1 ∷ Eval 2 ∷ Eval 3 ∷ Visit 1 1 ∷ []) ∷ []) ∷ ((Eval 0 ∷ []) ∷ []) ∷ ((Eval 1 ∷ []) ∷ []) ∷ ((Eval 4 ∷ []) ∷ []) ∷ [];
}

abbrev layer : ℕ → ℕ → ℕ
layer (suc (suc (suc (suc (suc zero))))) a = slice_index (2 ∷ 2 ∷ 1 ∷ []) a
layer X a = 1

-- by stages: the source, what is inherited, the sum
abbrev stage_at : ℕ → ℕ
stage_at a = slice_index (2 ∷ 2 ∷ 3 ∷ []) a

abbrev stage_of : ℕ → ℕ → ℕ → ℕ
stage_of zero zero a = 0
stage_of zero (suc zero) a = 1
stage_of zero (suc (suc k)) a = stage_at a
stage_of (suc p) k a = stage_at a

-- stages and positions rise along all dependencies
record Rises (p : ℕ) (u v : Occurrence) : Type 0 where
  stage : stage_of p u.at u.slot < stage_of p v.at v.slot
  place : position_in (rules_of uses) plans p u < position_in (rules_of uses) plans p v

abbrev Joins : ℕ → ℕ → ℕ → Type 0
Joins X a b = (X ≡ 5) × (a < 2) × (b ≡ 2)

holds : (p : ℕ) (u v : Occurrence) → Direct (rules_of uses) p u v → Rises p u v
unfolding Each
holds p u v d = rw (← d.target) (rw (← d.of_operator) (each_of (λ x. Rises d.rule.op x d.rule.target) d.rule.args (each_of (λ (r : Rule). Each (λ x. Rises r.op x r.target) r.args) uses.rules every d.stands.0 d.rule d.stands.1 d.stands.2) d.names.0 u d.names.1 d.names.2))
  where
    every : Each (λ (r : Rule). Each (λ x. Rises r.op x r.target) r.args) uses.rules
    every = (tt, (tt, ((record { stage = omega arith; place = omega arith }, tt), ((record { stage = omega arith; place = omega arith }, tt), ((record { stage = omega arith; place = omega arith }, (record { stage = omega arith; place = omega arith }, tt)), tt)))))

number : (m n : ℕ) → Some m ≡ Some n → m ≡ n
number m n e = cc e

spread : (p k a b : ℕ) → phylum_there uses.ops p k ≡ Some 5 → a < 2 → b ≡ 2 → Rises p (occurrence k a) (occurrence k b)
spread zero zero a b is m n = absurd (let e = number 3 5 is in omega (arith, e))
spread zero (suc zero) a b is m n = absurd (let e = number 4 5 is in omega (arith, e))
spread zero (suc (suc zero)) zero b is m n = rw n (record { stage = omega arith; place = omega arith })
spread zero (suc (suc zero)) (suc zero) b is m n = rw n (record { stage = omega arith; place = omega arith })
spread zero (suc (suc zero)) (suc (suc a)) b is m n = absurd (omega (arith, m))
spread zero (suc (suc (suc k))) a b is m n = cc
spread (suc zero) zero a b is m n = absurd (let e = number 4 5 is in omega (arith, e))
spread (suc zero) (suc k) a b is m n = cc
spread (suc (suc zero)) zero a b is m n = absurd (let e = number 4 5 is in omega (arith, e))
spread (suc (suc zero)) (suc k) a b is m n = cc
spread (suc (suc (suc zero))) zero zero b is m n = rw n (record { stage = omega arith; place = omega arith })
spread (suc (suc (suc zero))) zero (suc zero) b is m n = rw n (record { stage = omega arith; place = omega arith })
spread (suc (suc (suc zero))) zero (suc (suc a)) b is m n = absurd (omega (arith, m))
spread (suc (suc (suc zero))) (suc k) a b is m n = cc
spread (suc (suc (suc (suc p)))) zero a b is m n = cc
spread (suc (suc (suc (suc p)))) (suc k) a b is m n = cc

spreads : (p k X a b : ℕ) → phylum_there uses.ops p k ≡ Some X → Joins X a b → Rises p (occurrence k a) (occurrence k b)
spreads p k X a b is j = spread p k a b (is ∙ ap (λ x. Some x) j.0) j.1 j.2

join : (a b : ℕ) → a < 3 → b < 3 → stage_at a < stage_at b → (a < 2) × (b ≡ 2)
join zero zero m n r = absurd (omega (arith, r))
join zero (suc zero) m n r = absurd (omega (arith, r))
join zero (suc (suc zero)) m n r = (omega arith, refl)
join zero (suc (suc (suc b))) m n r = absurd (omega (arith, n))
join (suc zero) zero m n r = absurd (omega (arith, r))
join (suc zero) (suc zero) m n r = absurd (omega (arith, r))
join (suc zero) (suc (suc zero)) m n r = (omega arith, refl)
join (suc zero) (suc (suc (suc b))) m n r = absurd (omega (arith, n))
join (suc (suc zero)) zero m n r = absurd (omega (arith, r))
join (suc (suc zero)) (suc zero) m n r = absurd (omega (arith, r))
join (suc (suc zero)) (suc (suc zero)) m n r = absurd (omega (arith, r))
join (suc (suc zero)) (suc (suc (suc b))) m n r = absurd (omega (arith, n))
join (suc (suc (suc a))) b m n r = absurd (omega (arith, m))

-- one attribute alone is joined to nothing
alone : (f : ℕ → ℕ) (a b : ℕ) → a < 1 → b < 1 → f a < f b → ⊥
alone f zero zero m n r = omega (arith, r)
alone f zero (suc b) m n r = omega (arith, n)
alone f (suc a) b m n r = omega (arith, m)

joins : (p k X a b : ℕ) → phylum_there uses.ops p k ≡ Some X → IsAttr (rules_of uses) X a → IsAttr (rules_of uses) X b → Rises p (occurrence k a) (occurrence k b) → Joins X a b
joins zero zero X a b is m n r = absurd (omega (arith, r.stage))
joins zero (suc zero) X a b is m n r = absurd (omega (arith, r.stage))
joins zero (suc (suc zero)) X a b is m n r = let e : X ≡ 5 = sym (number 5 X is) in let j = join a b (rw e at m) (rw e at n) r.stage in (e, j.0, j.1)
joins zero (suc (suc (suc k))) X a b is m n r = cc
joins (suc zero) zero X a b is m n r = let e : X ≡ 4 = sym (number 4 X is) in absurd (alone stage_at a b (rw e at m) (rw e at n) r.stage)
joins (suc zero) (suc k) X a b is m n r = cc
joins (suc (suc zero)) zero X a b is m n r = let e : X ≡ 4 = sym (number 4 X is) in absurd (alone stage_at a b (rw e at m) (rw e at n) r.stage)
joins (suc (suc zero)) (suc k) X a b is m n r = cc
joins (suc (suc (suc zero))) zero X a b is m n r = let e : X ≡ 5 = sym (number 5 X is) in let j = join a b (rw e at m) (rw e at n) r.stage in (e, j.0, j.1)
joins (suc (suc (suc zero))) (suc k) X a b is m n r = cc
joins (suc (suc (suc (suc p)))) zero X a b is m n r = cc
joins (suc (suc (suc (suc p)))) (suc k) X a b is m n r = cc

chained : (p : ℕ) (u v w : Occurrence) → Rises p u v → Rises p v w → Rises p u w
chained p u v w f g = record { stage = let a = f.stage in let b = g.stage in omega (arith, a, b); place = let a = f.place in let b = g.place in omega (arith, a, b) }

only : (X a b : ℕ) → InPhylum (rules_of uses) X a b → Joins X a b
only = least_in_phylum (rules_of uses) Rises Joins holds chained spreads joins

rising : (p : ℕ) (u v : Occurrence) → InOperator (rules_of uses) p u v → Rises p u v
rising = least_in_operator (rules_of uses) Rises Joins holds chained spreads joins

-- a phylum with synthesized attributes alone has the one layer 1
all_last : (X : ℕ) → ((a : ℕ) → IsAttr (rules_of uses) X a → is_inherited uses.phyla X a ≡ false) → (X ≡ 5 → ⊥) → IsLayering (rules_of uses) X (λ a. 1)
all_last X none other = record {
  positive = λ a m. omega arith;
  allowed = λ a m. record { kind = λ b n e. none b n; not_before = λ b n e. omega arith; closed = λ b c n e d. absurd (other (only X b c d).0) };
  largest = λ m taken low may a n e. let k = may.not_before a n e in omega (arith, low, k);
}

of_five : (a : ℕ) → a < 3 → 1 ≤ layer 5 a
of_five zero m = omega arith
of_five (suc zero) m = omega arith
of_five (suc (suc zero)) m = omega arith
of_five (suc (suc (suc a))) m = absurd (omega (arith, m))

kind_five : (a b : ℕ) → a < 3 → b < 3 → nat_eq (layer 5 b) (layer 5 a) ≡ true → IsOfKind (rules_of uses) 5 (layer 5 a) b
kind_five zero zero m n e = refl
kind_five zero (suc zero) m n e = refl
kind_five zero (suc (suc zero)) m n e = cc
kind_five zero (suc (suc (suc b))) m n e = absurd (omega (arith, n))
kind_five (suc zero) zero m n e = refl
kind_five (suc zero) (suc zero) m n e = refl
kind_five (suc zero) (suc (suc zero)) m n e = cc
kind_five (suc zero) (suc (suc (suc b))) m n e = absurd (omega (arith, n))
kind_five (suc (suc zero)) zero m n e = cc
kind_five (suc (suc zero)) (suc zero) m n e = cc
kind_five (suc (suc zero)) (suc (suc zero)) m n e = refl
kind_five (suc (suc zero)) (suc (suc (suc b))) m n e = absurd (omega (arith, n))
kind_five (suc (suc (suc a))) b m n e = absurd (omega (arith, m))

same : (m n : ℕ) → nat_eq m n ≡ true → m ≡ n
same m n e = grind arith

before_five : (a b : ℕ) → Joins 5 a b → layer 5 b < layer 5 a
before_five zero b j = rw j.2 (omega arith)
before_five (suc zero) b j = rw j.2 (omega arith)
before_five (suc (suc a)) b j = absurd (let k = j.1 in omega (arith, k))

two_or_one : (m : ℕ) → 1 ≤ m → m ≤ 2 → true ≡ nat_eq (m % 2) 0 → 2 ≡ m
two_or_one zero low high e = absurd (omega (arith, low))
two_or_one (suc zero) low high e = cc
two_or_one (suc (suc m)) low high e = omega (arith, high)

largest_five : (m : ℕ) (taken : ℕ → Bool) → 1 ≤ m → MayBeTaken (rules_of uses) 5 (layer 5) m taken → (a : ℕ) → a < 3 → taken a ≡ true → layer 5 a ≡ m
largest_five m taken low may zero n e = two_or_one m low (may.not_before 0 n e) (may.kind 0 n e)
largest_five m taken low may (suc zero) n e = two_or_one m low (may.not_before 1 n e) (may.kind 1 n e)
largest_five m taken low may (suc (suc zero)) n e = let k : m ≤ 1 = may.not_before 2 n e in omega (arith, low, k)
largest_five m taken low may (suc (suc (suc a))) n e = absurd (omega (arith, n))

five : IsLayering (rules_of uses) 5 (layer 5)
five = record {
  positive = of_five;
  allowed = λ a m. record {
    kind = λ b n e. kind_five a b m n e;
    not_before = λ b n e. let k = same (layer 5 b) (layer 5 a) e in omega (arith, k);
    closed = λ b c n e d. inr (let k = same (layer 5 b) (layer 5 a) e in let l = before_five b c (only 5 b c d) in omega (arith, k, l));
  };
  largest = largest_five;
}

one_attr : (X : ℕ) → is_inherited uses.phyla X 0 ≡ false → length (attrs_of uses.phyla X) ≡ 1 → (a : ℕ) → IsAttr (rules_of uses) X a → is_inherited uses.phyla X a ≡ false
one_attr X h one zero m = h
one_attr X h one (suc a) m = absurd (omega (arith, one, m))

layers : (X : ℕ) → X < 6 → IsLayering (rules_of uses) X (layer X)
layers zero m = all_last 0 (one_attr 0 refl refl) (λ e. omega (arith, e))
layers (suc zero) m = all_last 1 (one_attr 1 refl refl) (λ e. omega (arith, e))
layers (suc (suc zero)) m = all_last 2 (one_attr 2 refl refl) (λ e. omega (arith, e))
layers (suc (suc (suc zero))) m = all_last 3 (λ a n. absurd (omega (arith, n))) (λ e. omega (arith, e))
layers (suc (suc (suc (suc zero)))) m = all_last 4 (one_attr 4 refl refl) (λ e. omega (arith, e))
layers (suc (suc (suc (suc (suc zero))))) m = five
layers (suc (suc (suc (suc (suc (suc X)))))) m = absurd (omega (arith, m))

visits : (X : ℕ) → X < 6 → AreVisits (rules_of uses) X (layer X) plans
visits zero m = record { layers = layers 0 m; row = refl }
visits (suc zero) m = record { layers = layers 1 m; row = refl }
visits (suc (suc zero)) m = record { layers = layers 2 m; row = refl }
visits (suc (suc (suc zero))) m = record { layers = layers 3 m; row = refl }
visits (suc (suc (suc (suc zero)))) m = record { layers = layers 4 m; row = refl }
visits (suc (suc (suc (suc (suc zero))))) m = record { layers = layers 5 m; row = refl }
visits (suc (suc (suc (suc (suc (suc X)))))) m = absurd (omega (arith, m))

early : (a b : ℕ) → a < 3 → b < 3 → layer 5 b < layer 5 a → (a < 2) × (b ≡ 2)
early zero zero m n r = absurd (omega (arith, r))
early zero (suc zero) m n r = absurd (omega (arith, r))
early zero (suc (suc zero)) m n r = (omega arith, refl)
early zero (suc (suc (suc b))) m n r = absurd (omega (arith, n))
early (suc zero) zero m n r = absurd (omega (arith, r))
early (suc zero) (suc zero) m n r = absurd (omega (arith, r))
early (suc zero) (suc (suc zero)) m n r = (omega arith, refl)
early (suc zero) (suc (suc (suc b))) m n r = absurd (omega (arith, n))
early (suc (suc zero)) zero m n r = absurd (omega (arith, r))
early (suc (suc zero)) (suc zero) m n r = absurd (omega (arith, r))
early (suc (suc zero)) (suc (suc zero)) m n r = absurd (omega (arith, r))
early (suc (suc zero)) (suc (suc (suc b))) m n r = absurd (omega (arith, n))
early (suc (suc (suc a))) b m n r = absurd (omega (arith, m))

layered_rises : (p k X a b : ℕ) → phylum_there uses.ops p k ≡ Some X → IsAttr (rules_of uses) X a → IsAttr (rules_of uses) X b → layer X b < layer X a → Rises p (occurrence k a) (occurrence k b)
layered_rises p k zero a b is m n r = absurd (omega (arith, r))
layered_rises p k (suc zero) a b is m n r = absurd (omega (arith, r))
layered_rises p k (suc (suc zero)) a b is m n r = absurd (omega (arith, r))
layered_rises p k (suc (suc (suc zero))) a b is m n r = absurd (omega (arith, r))
layered_rises p k (suc (suc (suc (suc zero)))) a b is m n r = absurd (omega (arith, r))
layered_rises p k (suc (suc (suc (suc (suc zero))))) a b is m n r = let j = early a b m n r in spread p k a b is j.0 j.1
layered_rises p k (suc (suc (suc (suc (suc (suc X)))))) a b is m n r = absurd (omega (arith, m))

agree : (p : ℕ) (u v : Occurrence) → Extended (rules_of uses) layer p u v → position_in (rules_of uses) plans p u < position_in (rules_of uses) plans p v
agree _ _ _ (within p u v d) = (rising p u v d).place
agree _ _ _ (layered p k X a b is m n r) = (layered_rises p k X a b is m n r).place

-- the row 0, 1, 2, .. has no number twice
apart4 : AllPairs {X = ℕ} ◌≢◌ (0 ∷ 1 ∷ 2 ∷ 3 ∷ [])
apart4 zero zero d l m = absurd (omega (arith, l))
apart4 zero (suc zero) d l m = λ e. omega (arith, e)
apart4 zero (suc (suc zero)) d l m = λ e. omega (arith, e)
apart4 zero (suc (suc (suc zero))) d l m = λ e. omega (arith, e)
apart4 zero (suc (suc (suc (suc j)))) d l m = absurd (omega (arith, m))
apart4 (suc zero) zero d l m = absurd (omega (arith, l))
apart4 (suc zero) (suc zero) d l m = absurd (omega (arith, l))
apart4 (suc zero) (suc (suc zero)) d l m = λ e. omega (arith, e)
apart4 (suc zero) (suc (suc (suc zero))) d l m = λ e. omega (arith, e)
apart4 (suc zero) (suc (suc (suc (suc j)))) d l m = absurd (omega (arith, m))
apart4 (suc (suc zero)) zero d l m = absurd (omega (arith, l))
apart4 (suc (suc zero)) (suc zero) d l m = absurd (omega (arith, l))
apart4 (suc (suc zero)) (suc (suc zero)) d l m = absurd (omega (arith, l))
apart4 (suc (suc zero)) (suc (suc (suc zero))) d l m = λ e. omega (arith, e)
apart4 (suc (suc zero)) (suc (suc (suc (suc j)))) d l m = absurd (omega (arith, m))
apart4 (suc (suc (suc zero))) zero d l m = absurd (omega (arith, l))
apart4 (suc (suc (suc zero))) (suc zero) d l m = absurd (omega (arith, l))
apart4 (suc (suc (suc zero))) (suc (suc zero)) d l m = absurd (omega (arith, l))
apart4 (suc (suc (suc zero))) (suc (suc (suc zero))) d l m = absurd (omega (arith, l))
apart4 (suc (suc (suc zero))) (suc (suc (suc (suc j)))) d l m = absurd (omega (arith, m))
apart4 (suc (suc (suc (suc i)))) j d l m = absurd (omega (arith, l, m))

apart3 : AllPairs {X = ℕ} ◌≢◌ (0 ∷ 1 ∷ 2 ∷ [])
apart3 zero zero d l m = absurd (omega (arith, l))
apart3 zero (suc zero) d l m = λ e. omega (arith, e)
apart3 zero (suc (suc zero)) d l m = λ e. omega (arith, e)
apart3 zero (suc (suc (suc j))) d l m = absurd (omega (arith, m))
apart3 (suc zero) zero d l m = absurd (omega (arith, l))
apart3 (suc zero) (suc zero) d l m = absurd (omega (arith, l))
apart3 (suc zero) (suc (suc zero)) d l m = λ e. omega (arith, e)
apart3 (suc zero) (suc (suc (suc j))) d l m = absurd (omega (arith, m))
apart3 (suc (suc zero)) zero d l m = absurd (omega (arith, l))
apart3 (suc (suc zero)) (suc zero) d l m = absurd (omega (arith, l))
apart3 (suc (suc zero)) (suc (suc zero)) d l m = absurd (omega (arith, l))
apart3 (suc (suc zero)) (suc (suc (suc j))) d l m = absurd (omega (arith, m))
apart3 (suc (suc (suc i))) j d l m = absurd (omega (arith, l, m))

apart1 : AllPairs {X = ℕ} ◌≢◌ (0 ∷ [])
apart1 zero zero d l m = absurd (omega (arith, l))
apart1 zero (suc j) d l m = absurd (omega (arith, m))
apart1 (suc i) j d l m = absurd (omega (arith, l, m))

positions : (p : ℕ) → p < 4 → ArePositions (rules_of uses) p layer plans
positions zero m = record { count = refl; different = apart4; agree = agree 0 }
positions (suc zero) m = record { count = refl; different = apart1; agree = agree 1 }
positions (suc (suc zero)) m = record { count = refl; different = apart1; agree = agree 2 }
positions (suc (suc (suc zero))) m = record { count = refl; different = apart3; agree = agree 3 }
positions (suc (suc (suc (suc p)))) m = absurd (omega (arith, m))

-- what the one visit of each operator does

prog_steps : List PlanStep
prog_steps = Visit 0 1 ∷ Eval 2 ∷ Eval 3 ∷ Visit 1 1 ∷ []

prog_from : (s : PlanStep) → Contains prog_steps s → (q : ℕ) × IsStepAt (rules_of uses) plans 0 s q × (belongs (rules_of uses) plans 0 q ≡ 1)
unfolding prog_steps
prog_from s (zero, l, e) = rw (← e) (0, (refl, omega arith, omega arith, refl), refl)
prog_from s (suc zero, l, e) = rw (← e) (1, (refl, refl), refl)
prog_from s (suc (suc zero), l, e) = rw (← e) (2, (refl, refl), refl)
prog_from s (suc (suc (suc zero)), l, e) = rw (← e) (3, (refl, omega arith, omega arith, refl), refl)
prog_from s (suc (suc (suc (suc k))), l, e) = absurd (omega (arith, l))

prog_to : (s : PlanStep) (q : ℕ) → IsStepAt (rules_of uses) plans 0 s q → Contains prog_steps s
unfolding prog_steps
prog_to (Eval zero) q h = absurd (omega (arith, h.0))
prog_to (Eval (suc zero)) q h = absurd (omega (arith, h.0))
prog_to (Eval (suc (suc zero))) q h = (1, omega arith, refl)
prog_to (Eval (suc (suc (suc zero)))) q h = (2, omega arith, refl)
prog_to (Eval (suc (suc (suc (suc zero))))) q h = absurd (omega (arith, h.0))
prog_to (Eval (suc (suc (suc (suc (suc r)))))) q h = elim h [ ]
prog_to (Visit zero zero) q h = absurd (omega (arith, h.1))
prog_to (Visit zero (suc zero)) q h = (0, omega arith, refl)
prog_to (Visit zero (suc (suc j))) q h = absurd (omega (arith, h.2))
prog_to (Visit (suc zero) zero) q h = absurd (omega (arith, h.1))
prog_to (Visit (suc zero) (suc zero)) q h = (3, omega arith, refl)
prog_to (Visit (suc zero) (suc (suc j))) q h = absurd (omega (arith, h.2))
prog_to (Visit (suc (suc k)) j) q h = elim h [ ]

abbrev ComesBefore : ℕ → PlanStep → PlanStep → Type 0
ComesBefore p s t = (q r : ℕ) → IsStepAt (rules_of uses) plans p s q → IsStepAt (rules_of uses) plans p t r → q < r

prog_rising : AllPairs (ComesBefore 0) prog_steps
unfolding prog_steps Each EachPair
prog_rising = pairs_of (ComesBefore 0) prog_steps (
  ((λ q r a b. omega (arith, a.3, b.1)), ((λ q r a b. omega (arith, a.3, b.1)), ((λ q r a b. omega (arith, a.3, b.3)), tt))),
  (
    ((λ q r a b. omega (arith, a.1, b.1)), ((λ q r a b. omega (arith, a.1, b.3)), tt)),
    (((λ q r a b. omega (arith, a.1, b.3)), tt), (tt, tt)),
  ),
)

-- an operator without arguments does its one equation
one_from : (p r : ℕ) → IsStepAt (rules_of uses) plans p (Eval r) 0 → (belongs (rules_of uses) plans p 0 ≡ 1) → (s : PlanStep) → Contains (Eval r ∷ []) s → (q : ℕ) × IsStepAt (rules_of uses) plans p s q × (belongs (rules_of uses) plans p q ≡ 1)
one_from p r is belongs s (zero, l, e) = rw (← e) (0, is, belongs)
one_from p r is belongs s (suc k, l, e) = absurd (omega (arith, l))

one_rising : (p r : ℕ) → AllPairs (ComesBefore p) (Eval r ∷ [])
one_rising p r i j d l m = absurd (omega (arith, l, m))

zero_to : (s : PlanStep) (q : ℕ) → IsStepAt (rules_of uses) plans 1 s q → Contains (Eval 0 ∷ []) s
zero_to (Eval zero) q h = (0, omega arith, refl)
zero_to (Eval (suc zero)) q h = absurd (omega (arith, h.0))
zero_to (Eval (suc (suc zero))) q h = absurd (omega (arith, h.0))
zero_to (Eval (suc (suc (suc zero)))) q h = absurd (omega (arith, h.0))
zero_to (Eval (suc (suc (suc (suc zero))))) q h = absurd (omega (arith, h.0))
zero_to (Eval (suc (suc (suc (suc (suc r)))))) q h = elim h [ ]
zero_to (Visit k j) q h = elim h [ ]

first_to : (s : PlanStep) (q : ℕ) → IsStepAt (rules_of uses) plans 2 s q → Contains (Eval 1 ∷ []) s
first_to (Eval zero) q h = absurd (omega (arith, h.0))
first_to (Eval (suc zero)) q h = (0, omega arith, refl)
first_to (Eval (suc (suc zero))) q h = absurd (omega (arith, h.0))
first_to (Eval (suc (suc (suc zero)))) q h = absurd (omega (arith, h.0))
first_to (Eval (suc (suc (suc (suc zero))))) q h = absurd (omega (arith, h.0))
first_to (Eval (suc (suc (suc (suc (suc r)))))) q h = elim h [ ]
first_to (Visit k j) q h = elim h [ ]

sum_to : (s : PlanStep) (q : ℕ) → IsStepAt (rules_of uses) plans 3 s q → Contains (Eval 4 ∷ []) s
sum_to (Eval zero) q h = absurd (omega (arith, h.0))
sum_to (Eval (suc zero)) q h = absurd (omega (arith, h.0))
sum_to (Eval (suc (suc zero))) q h = absurd (omega (arith, h.0))
sum_to (Eval (suc (suc (suc zero)))) q h = absurd (omega (arith, h.0))
sum_to (Eval (suc (suc (suc (suc zero))))) q h = (0, omega arith, refl)
sum_to (Eval (suc (suc (suc (suc (suc r)))))) q h = elim h [ ]
sum_to (Visit k j) q h = elim h [ ]

-- each operator has one visit
only_first : (p : ℕ) (steps : List (List PlanStep)) (first : List PlanStep) → steps ≡ first ∷ [] → AreStepsOf (rules_of uses) plans p 1 first → (j : ℕ) → j < length steps → AreStepsOf (rules_of uses) plans p (suc j) (row_at steps j)
only_first p steps first is are zero l = rw is are
only_first p steps first is are (suc j) l = absurd (let e : length steps ≡ 1 = rw is refl in omega (arith, l, e))

steps : (p : ℕ) → p < 4 → AreSteps (rules_of uses) p plans
unfolding prog_steps
steps zero m = record { count = refl; each = only_first 0 _ prog_steps refl (record { members = λ s. (prog_from s, λ h. prog_to s h.0 h.1); rising = prog_rising }) }
steps (suc zero) m = record { count = refl; each = only_first 1 _ (Eval 0 ∷ []) refl (record { members = λ s. (one_from 1 0 (refl, refl) refl s, λ h. zero_to s h.0 h.1); rising = one_rising 1 0 }) }
steps (suc (suc zero)) m = record { count = refl; each = only_first 2 _ (Eval 1 ∷ []) refl (record { members = λ s. (one_from 2 1 (refl, refl) refl s, λ h. first_to s h.0 h.1); rising = one_rising 2 1 }) }
steps (suc (suc (suc zero))) m = record { count = refl; each = only_first 3 _ (Eval 4 ∷ []) refl (record { members = λ s. (two_from s, λ h. sum_to s h.0 h.1); rising = one_rising 3 4 }) }
  where
    two_from : (s : PlanStep) → Contains (Eval 4 ∷ []) s → (q : ℕ) × IsStepAt (rules_of uses) plans 3 s q × (belongs (rules_of uses) plans 3 q ≡ 1)
    two_from s (zero, l, e) = rw (← e) (2, (refl, refl), refl)
    two_from s (suc k, l, e) = absurd (omega (arith, l))
steps (suc (suc (suc (suc p)))) m = absurd (omega (arith, m))

pub valid : AreValid (rules_of uses) plans
valid = record { rows = record { visits = refl; places = refl; steps = refl }; layer = layer; visits = visits; positions = positions; steps = steps }

-- the one visit of the use stands at its sum, and its vertices belong to it
seat_is : seat (rules_of uses) plans 0 1 1 ≡ 3
seat_is = refl

belongs_is : belongs (rules_of uses) plans 3 0 ≡ 1
belongs_is = refl

-- keys: the source, then what the use inherits, then its sum
term : Term
term = completing uses 3

key_source : key (rules_of uses) plans term (record { node = 0 ∷ []; rule = rule 1 (at 0 0) [] 0 }) ≡ 0 ∷ 0 ∷ []
unfolding term completing
key_source = refl

key_left : key (rules_of uses) plans term (record { node = []; rule = rule 0 (at 2 0) (at 1 0 ∷ []) 2 }) ≡ 1 ∷ []
unfolding term completing
key_left = refl

key_sum : key (rules_of uses) plans term (record { node = 1 ∷ []; rule = rule 3 (at 0 2) (at 0 0 ∷ at 0 1 ∷ []) 4 }) ≡ 3 ∷ 2 ∷ []
unfolding term completing
key_sum = refl

source_first : IsLess (0 ∷ 0 ∷ []) (1 ∷ [])
source_first = inl (omega arith)
