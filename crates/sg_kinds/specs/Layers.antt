-- The layers of a phylum's attributes, numbered as they are taken: the layer that is evaluated last is 1.
use Rattle.std.specs.Prelude.{◌≡◌, ℕ, ◌%◌, ◌<◌, ◌≤◌, Bool, true, nat_eq, ◌⊎◌, Some}
use Rattle.sg_kinds.specs.Specification.{Rules, Occurrence, is_inherited}
use Rattle.sg_kinds.specs.Dependencies.{IsAttr, phylum_there, occurrence, InOperator, InPhylum}

-- an attribute is of the kind of layer m: synthesized in 1, 3, .., inherited in 2, 4, ..
abbrev pub IsOfKind : Rules → ℕ → ℕ → ℕ → Type 0
IsOfKind rules X m a = is_inherited rules.phyla X a ≡ nat_eq (m % 2) 0

-- a set of attributes that layer m may hold: of its kind, not taken before, and with all that depends on them in the
-- set or taken before
pub record MayBeTaken (rules : Rules) (X : ℕ) (layer : ℕ → ℕ) (m : ℕ) (taken : ℕ → Bool) : Type 0 where
  pub kind : (a : ℕ) → IsAttr rules X a → taken a ≡ true → IsOfKind rules X m a
  pub not_before : (a : ℕ) → IsAttr rules X a → taken a ≡ true → m ≤ layer a
  pub closed : (a b : ℕ) → IsAttr rules X a → taken a ≡ true → InPhylum rules X a b → (taken b ≡ true) ⊎ (layer b < m)

-- `layer` gives each attribute of X its layer: each layer is the largest set that it may hold
pub record IsLayering (rules : Rules) (X : ℕ) (layer : ℕ → ℕ) : Type 0 where
  pub positive : (a : ℕ) → IsAttr rules X a → 1 ≤ layer a
  pub allowed : (a : ℕ) → IsAttr rules X a → MayBeTaken rules X layer (layer a) (λ b. nat_eq (layer b) (layer a))
  pub largest : (m : ℕ) (taken : ℕ → Bool) → 1 ≤ m → MayBeTaken rules X layer m taken → (a : ℕ) → IsAttr rules X a
      → taken a ≡ true → layer a ≡ m

-- a comes in an earlier evaluated layer than b
abbrev pub IsEarlier : (ℕ → ℕ) → ℕ → ℕ → Type 0
IsEarlier layer a b = layer b < layer a

-- the dependencies of an operator with, at each occurrence, all pairs from an earlier evaluated layer to a later one
pub data Extended (rules : Rules) (layer : ℕ → ℕ → ℕ) : ℕ → Occurrence → Occurrence → Type 0 where
  within : (p : ℕ) (u v : Occurrence) → InOperator rules p u v → Extended rules layer p u v
  layered : (p k X a b : ℕ) → phylum_there rules.ops p k ≡ Some X → IsAttr rules X a → IsAttr rules X b
      → IsEarlier (layer X) a b → Extended rules layer p (occurrence k a) (occurrence k b)
