-- The dependencies among the attributes of an operator, and those induced among the attributes of a phylum.
use Rattle.std.specs.Prelude.{◌≡◌, ℕ, zero, suc, ◌<◌, Bool, false, length, List, Option, Some, slice_get, option_map, unwrap_or, Contains}
use Rattle.sg_kinds.specs.Specification.{Rules, Rule, Occurrence, Operator, attrs_of, args_of, phylum_of, is_inherited}

-- the phylum at an occurrence of an operator, if there is one
abbrev pub phylum_there : List Operator → ℕ → ℕ → Option ℕ
phylum_there ops p zero = phylum_of ops p
phylum_there ops p (suc k) = slice_get (args_of ops p) k

-- whether a slot of an occurrence is an inherited attribute
abbrev pub is_inherited_there : Rules → ℕ → ℕ → ℕ → Bool
is_inherited_there rules p k slot = unwrap_or (option_map (λ X. is_inherited rules.phyla X slot)
    (phylum_there rules.ops p k)) false

-- a is an attribute of X
abbrev pub IsAttr : Rules → ℕ → ℕ → Type 0
IsAttr rules X a = a < length (attrs_of rules.phyla X)

abbrev pub occurrence : ℕ → ℕ → Occurrence
occurrence k a = record { at = k; slot = a }

-- some equation of p names u and defines v
pub record Direct (rules : Rules) (p : ℕ) (u v : Occurrence) : Type 0 where
  pub rule : Rule
  pub stands : Contains rules.rules rule
  pub of_operator : rule.op ≡ p
  pub names : Contains rule.args u
  pub target : rule.target ≡ v

-- the least relations with two rules: an operator's holds the direct ones and its phyla's; a phylum's holds what a
-- chain in some operator joins
mutual
  pub data InOperator (rules : Rules) : ℕ → Occurrence → Occurrence → Type 0 where
    direct : (p : ℕ) (u v : Occurrence) → Direct rules p u v → InOperator rules p u v
    induced : (p k X a b : ℕ) → phylum_there rules.ops p k ≡ Some X → InPhylum rules X a b
        → InOperator rules p (occurrence k a) (occurrence k b)

  pub data Chain (rules : Rules) : ℕ → Occurrence → Occurrence → Type 0 where
    one : (p : ℕ) (u v : Occurrence) → InOperator rules p u v → Chain rules p u v
    more : (p : ℕ) (u v w : Occurrence) → InOperator rules p u v → Chain rules p v w → Chain rules p u w

  pub data InPhylum (rules : Rules) : ℕ → ℕ → ℕ → Type 0 where
    joined : (p k X a b : ℕ) → phylum_there rules.ops p k ≡ Some X → IsAttr rules X a → IsAttr rules X b
        → Chain rules p (occurrence k a) (occurrence k b) → InPhylum rules X a b
