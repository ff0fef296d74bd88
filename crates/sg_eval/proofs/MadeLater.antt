-- What is kept of made terms stays right.
use Rattle.std.specs.Prelude.{◌≡◌, ℕ, zero, suc, List, [], ◌∷◌, Option, Some, None, replicate, slice_get, slice_set, option_and_then}
use Rattle.std.proofs.Common.{sym, subst}
use Rattle.sg_kinds.specs.Values.{Value}
use Rattle.sg_kinds.specs.declared.spec.Spec.{Spec}
use Rattle.sg_kinds.specs.declared.marks.Made.{Made}
use Rattle.sg_kinds.specs.declared.marks.Made.TheVariants.{Completing, Placeholder}
use Rattle.sg_kinds.specs.Evaluation.{made_value}
use Rattle.sg_kinds.proofs.Elementary.{slice_get-before}
use Rattle.sg_pool.specs.Pools.{StandsFor, IsGrown}
use Rattle.sg_eval.specs.MadeTerms.{kept_at, with_kept, AreMade}
use Rattle.sg_eval.specs.declared.made.MadeTerms.{MadeTerms}

-- what stands in a pool stands in a larger one
pub stands_grown : (us vs : List Value) (k : ℕ) (v : Value) → IsGrown us vs → StandsFor us k v → StandsFor vs k v
stands_grown us vs k v g h = subst (λ l. slice_get l k ≡ Some v) (sym g.is) (slice_get-before us g.more k v h)

-- what is kept stays right in a larger pool
pub made_later : (spec : Spec) (m : MadeTerms) (us vs : List Value) → AreMade spec m us → IsGrown us vs → AreMade spec m vs
made_later spec m us vs h g = record { stands = λ kind p id e. stands_grown us vs id (made_value spec kind p) g (h.stands kind p id e) }

-- nothing is kept
nothing_at : (n p id : ℕ) → option_and_then (λ o. o) (slice_get (replicate n None) p) ≡ Some id → ⊥
nothing_at zero p id h = cc
nothing_at (suc n) zero id h = cc
nothing_at (suc n) (suc p) id h = nothing_at n p id h

pub made_nothing : (spec : Spec) (n : ℕ) (m : MadeTerms) (pool : List Value) → m ≡ (replicate n None, replicate n None) → AreMade spec m pool
made_nothing spec n m pool e = record { stands = by }
  where
    by : (kind : Made) (p id : ℕ) → kept_at m kind p ≡ Some id → StandsFor pool id (made_value spec kind p)
    by Completing p id h = absurd (nothing_at n p id (subst (λ l. kept_at l Completing p ≡ Some id) e h))
    by Placeholder p id h = absurd (nothing_at n p id (subst (λ l. kept_at l Placeholder p ≡ Some id) e h))

-- a number more is kept: it is that of its phylum, or an earlier one of another
kept_more : (os : List (Option ℕ)) (p q id old : ℕ) (P : ℕ → ℕ → Type 0) → P p id → ((i j : ℕ) → option_and_then (λ o. o) (slice_get os i) ≡ Some j → P i j)
    → option_and_then (λ o. o) (slice_get (slice_set os p (Some id)) q) ≡ Some old → P q old
kept_more [] p q id old P new h e = h q old e
kept_more (o ∷ os) zero zero id old P new h e = let same : id ≡ old = cc in subst (P 0) same new
kept_more (o ∷ os) zero (suc q) id old P new h e = h (suc q) old e
kept_more (o ∷ os) (suc p) zero id old P new h e = h 0 old e
kept_more (o ∷ os) (suc p) (suc q) id old P new h e = kept_more os p q id old (λ i. P (suc i)) new (λ i. h (suc i)) e

pub made_more : (spec : Spec) (m : MadeTerms) (kind : Made) (p id : ℕ) (pool : List Value) → AreMade spec m pool → StandsFor pool id (made_value spec kind p) → AreMade spec (with_kept m kind p id) pool
made_more spec m Completing p id pool h new = record { stands = by }
  where
    by : (kind : Made) (q old : ℕ) → kept_at (with_kept m Completing p id) kind q ≡ Some old → StandsFor pool old (made_value spec kind q)
    by Completing q old e = kept_more m.0 p q id old (λ i j. StandsFor pool j (made_value spec Completing i)) new (h.stands Completing) e
    by Placeholder q old e = h.stands Placeholder q old e
made_more spec m Placeholder p id pool h new = record { stands = by }
  where
    by : (kind : Made) (q old : ℕ) → kept_at (with_kept m Placeholder p id) kind q ≡ Some old → StandsFor pool old (made_value spec kind q)
    by Completing q old e = h.stands Completing q old e
    by Placeholder q old e = kept_more m.1 p q id old (λ i j. StandsFor pool j (made_value spec Placeholder i)) new (h.stands Placeholder) e
