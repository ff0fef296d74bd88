-- What the transformations of a name give of a value.
use Rattle.std.specs.Prelude.{ℕ, ◌+◌, Bool, false, cond, ◌&&◌, nat_eq, bytes_eq, List, [], ◌∷◌, filter, is_some, slice_get}
use Rattle.std.specs.Option.{option_map_or}
use Rattle.sg_kinds.specs.Values.{Bytes, Value}
use Rattle.sg_kinds.specs.Evaluation.{bound_by}
use Rattle.sg_kinds.specs.Outcome.{outcome_of}
use Rattle.sg_kinds.specs.declared.spec.Spec.{Spec}
use Rattle.sg_kinds.specs.declared.spec.Transform.{Transform}

-- there is none, no pattern matches, or an outcome
pub data Given : Type 0 where
  Unknown : Given
  NoMatch : Given
  Gives : Value → Given

-- whether a transformation stands on the phylum and has the name
abbrev pub is_of_name : ℕ → Bytes → Transform → Bool
is_of_name p name x = nat_eq x.phylum p && bytes_eq x.name name

-- the outcome of the first whose pattern matches
abbrev pub first_outcome : Spec → Value → List Transform → Given
first_outcome spec v [] = NoMatch
first_outcome spec v (x ∷ xs) = option_map_or (λ bound. Gives (outcome_of spec x.expr bound))
    (bound_by spec x.pattern v) (first_outcome spec v xs)

-- what these transformations give
abbrev pub given_by : Spec → Value → List Transform → Given
given_by spec v [] = Unknown
given_by spec v (x ∷ xs) = first_outcome spec v (x ∷ xs)

-- what those of a name that stand on a phylum give, in source order
abbrev pub transformation : Spec → ℕ → Bytes → Value → Given
transformation spec p name v = given_by spec v (filter (is_of_name p name) spec.transforms)

-- whether it is such a transformation, and its pattern matches
abbrev pub applies : Spec → ℕ → Bytes → Value → Transform → Bool
applies spec p name v x = is_of_name p name x && is_some (bound_by spec x.pattern v)

-- whether a transformation stands on the phylum and its pattern matches; the same of the one with a number
abbrev pub suits : Spec → ℕ → Value → Transform → Bool
suits spec p v x = nat_eq x.phylum p && is_some (bound_by spec x.pattern v)

abbrev pub suits_at : Spec → ℕ → Value → ℕ → Bool
suits_at spec p v k = option_map_or (suits spec p v) (slice_get spec.transforms k) false

-- the numbers of the transformations of a name, in source order, where the first of these has number i
abbrev pub numbered : Bytes → ℕ → List Transform → List ℕ
numbered name i [] = []
numbered name i (x ∷ xs) = cond (bytes_eq x.name name) (i ∷ numbered name (i + 1) xs) (numbered name (i + 1) xs)

abbrev pub numbers_of : Spec → Bytes → List ℕ
numbers_of spec name = numbered name 0 spec.transforms
