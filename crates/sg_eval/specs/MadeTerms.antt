-- The pool numbers of made terms that are kept.
use Rattle.std.specs.Prelude.{◌≡◌, ℕ, List, Option, Some, slice_get, slice_set, option_and_then}
use Rattle.sg_kinds.specs.Values.{Value}
use Rattle.sg_kinds.specs.declared.spec.Spec.{Spec}
use Rattle.sg_kinds.specs.declared.marks.Made.{Made}
use Rattle.sg_kinds.specs.declared.marks.Made.TheVariants.{Completing, Placeholder}
use Rattle.sg_kinds.specs.Evaluation.{made_value}
use Rattle.sg_pool.specs.Pools.{StandsFor}
use Rattle.sg_eval.specs.declared.made.MadeTerms.{MadeTerms}

-- what is kept of completing terms, or of placeholders, by phylum
abbrev pub kept_of : MadeTerms → Made → List (Option ℕ)
kept_of m Completing = m.0
kept_of m Placeholder = m.1

-- the number that is kept for a phylum
abbrev pub kept_at : MadeTerms → Made → ℕ → Option ℕ
kept_at m kind p = option_and_then (λ o. o) (slice_get (kept_of m kind) p)

-- a number kept for a phylum of the lists
abbrev pub with_kept : MadeTerms → Made → ℕ → ℕ → MadeTerms
with_kept m Completing p id = (slice_set m.0 p (Some id), m.1)
with_kept m Placeholder p id = (m.0, slice_set m.1 p (Some id))

-- each number that is kept for a phylum stands in the pool for the value of its completing term, or of its placeholder
pub record AreMade (spec : Spec) (m : MadeTerms) (pool : List Value) : Type 0 where
  pub stands : (kind : Made) (p id : ℕ) → kept_at m kind p ≡ Some id → StandsFor pool id (made_value spec kind p)
