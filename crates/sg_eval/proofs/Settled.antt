-- The outcome of an expression, from the answer to its evaluation.
use Rattle.std.specs.Prelude.{◌≡◌, refl, ℕ, zero, suc, ◌+◌, ◌<◌, List, [], ◌∷◌, ◌++◌, length, map, take, Option, Some, None, slice_get, unwrap_or, All, IsTrue}
use Rattle.std.proofs.Common.{sym, ◌∙◌, ap, subst, arith, get_or}
use Rattle.std.proofs.lemmas.List.{map-append}
use Rattle.sg_kinds.specs.Values.{Value}
use Rattle.sg_kinds.specs.Expressions.{Expr}
use Rattle.sg_kinds.specs.declared.spec.Spec.{Spec}
use Rattle.sg_pool.specs.Pools.{value_at, StandsFor, IsGrown}
use Rattle.sg_kinds.specs.Evaluation.{untyped, clipped, outcome_in, value_within}
use Rattle.sg_kinds.specs.Outcome.{outcome_of}
use Rattle.sg_pool.specs.PoolView.{AreBelow}
use Rattle.sg_kinds.proofs.Kids.{take_more}
use Rattle.sg_pool.proofs.Grown.{map_stays}
use Rattle.sg_pool.proofs.Pooled.{below_all}
use Rattle.sg_eval.specs.Lives.{is_settled, bound_in}

-- a text or a tree of a pool stands at its number
pub stands_settled : (pool : List Value) (k : ℕ) → IsTrue (is_settled (value_at pool k)) → StandsFor pool k (value_at pool k)
stands_settled pool k h = by (slice_get pool k) refl
  where
    by : (o : Option Value) → slice_get pool k ≡ o → StandsFor pool k (value_at pool k)
    by (Some v) e = e ∙ ap (λ x. Some (unwrap_or x untyped)) (sym e)
    by None e = let none : IsTrue (is_settled untyped) = subst (λ x. IsTrue (is_settled (unwrap_or x untyped))) e h in cc

-- the arguments, at any larger pool
pub bound_args : (pool : List Value) (args : List ℕ) → bound_in pool args [] ≡ map (value_at pool) args
bound_args pool [] = refl
bound_args pool (k ∷ args) = ap (λ l. value_at pool k ∷ l) (bound_args pool args)

pub bound_later : (earlier later : List Value) (args : List ℕ) → IsGrown earlier later → All (λ k. k < length earlier) args → bound_in later args [] ≡ map (value_at earlier) args
bound_later earlier later args g h = bound_args later args ∙ map_stays earlier later args g (below_all (length earlier) args h)

-- the outcome of an expression that is there, and of one that is not
pub outcome_there : (spec : Spec) (e : ℕ) (x : Expr) (bound : List Value) → slice_get spec.exprs e ≡ Some x → outcome_of spec e bound ≡ outcome_in (value_within spec 2048 x bound 100000)
unfolding outcome_of
outcome_there spec e x bound h = rw h refl

pub outcome_nowhere : (spec : Spec) (e : ℕ) (bound : List Value) → slice_get spec.exprs e ≡ None → outcome_of spec e bound ≡ untyped
unfolding outcome_of
outcome_nowhere spec e bound h = rw h refl

-- numbers below a bound
below_at : (n : ℕ) (ks : List ℕ) (i d : ℕ) → AreBelow n ks → i < length ks → get_or ks i d < n
below_at n [] i d h l = absurd (omega arith)
below_at n (k ∷ ks) zero d h l = h.0
below_at n (k ∷ ks) (suc i) d h l = below_at n ks i d h.1 (omega (arith, l))

pub all_below : (n : ℕ) (ks : List ℕ) → AreBelow n ks → All (λ k. k < n) ks
all_below n ks h = λ i d l. below_at n ks i d h l

-- one value more
pub clipped_more : (vs : List Value) (i : ℕ) (v : Value) → i < length vs → v ≡ get_or vs i v → map clipped (take i vs) ++ clipped v ∷ [] ≡ map clipped (take (i + 1) vs)
clipped_more vs i v l e = sym (ap (map clipped) (take_more vs i v l e) ∙ map-append clipped (take i vs) (v ∷ []))

pub same_there : (pool : List Value) (k : ℕ) (v w : Value) → StandsFor pool k v → StandsFor pool k w → v ≡ w
same_there pool k v w h g = let e : Some v ≡ Some w = sym h ∙ g in cc
