-- At which operators the transformations of a name can apply.
use Rattle.std.specs.Prelude.{◌≡◌, ℕ, Bool, true, false, ◌&&◌, nat_eq, bytes_eq, List, Some, slice_get}
use Rattle.std.specs.List.{list_any}
use Rattle.sg_kinds.specs.Expressions.{Pattern, Applied}
use Rattle.sg_kinds.specs.Values.{Bytes}
use Rattle.sg_kinds.specs.declared.spec.Spec.{Spec}
use Rattle.sg_kinds.specs.declared.spec.Transform.{Transform}
use Rattle.sg_matching.specs.Transformation.{numbers_of}
use Rattle.sg_search.specs.declared.heads.Sought.{Sought}

-- whether a pattern can match a term of an operator
abbrev pub may_match : Pattern → ℕ → Bool
may_match (Applied o ps) op = nat_eq o op
may_match p op = true

-- whether a transformation of the name can apply to such a term
abbrev pub may_apply : Bytes → ℕ → Transform → Bool
may_apply name op x = bytes_eq x.name name && may_match x.pattern op

-- none of the name can apply to a term of an operator that is marked false
abbrev pub AreHeads : Spec → Bytes → List Bool → Type 0
AreHeads spec name heads = (op : ℕ) → slice_get heads op ≡ Some false → list_any (may_apply name op) spec.transforms ≡ false

-- the numbers of those of the name, and the marks of their operators
pub record IsSought (spec : Spec) (name : Bytes) (sought : Sought) : Type 0 where
  pub numbers : sought.numbers.items ≡ numbers_of spec name
  pub heads : AreHeads spec name sought.heads.items
