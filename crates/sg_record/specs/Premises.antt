-- What the laws of the record ask of the table.
use Rattle.std.specs.Prelude.{◌≡◌, ℕ, [], Some, All}
use Rattle.sg_kinds.specs.Values.{Bytes}
use Rattle.sg_kinds.specs.declared.spec.Operator.{Operator}
use Rattle.sg_names.specs.declared.table.Table.{Table}
use Rattle.sg_names.specs.Lookups.{phylum_named, nonterminal_named}

-- no operator has schemes yet
abbrev pub HasNoSchemes : Table → Type 0
HasNoSchemes t = All (λ (o : Operator). o.schemes ≡ []) t.ops

-- no nonterminal has the name of a phylum
abbrev pub AreApart : Table → Type 0
AreApart t = (n : Bytes) (k p : ℕ) → nonterminal_named t n ≡ Some k → phylum_named t n ≡ Some p → ⊥
