-- How many attributes stand at the nodes of operators.
use Rattle.std.specs.Prelude.{ℕ, ◌+◌, ◌*◌, length, sum_by}
use Rattle.sg_kinds.specs.Specification.{attrs_of}
use Rattle.sg_kinds.specs.declared.spec.Operator.{Operator}
use Rattle.sg_names.specs.declared.table.Table.{Table}

-- how many attributes an operator has at its left side and its arguments
abbrev pub width_of : Table → Operator → ℕ
width_of t o = length (attrs_of t.phyla o.phylum) + sum_by (λ p. length (attrs_of t.phyla p)) o.args

-- how many pairs of them there are, over all operators
abbrev pub pairs_in : Table → ℕ
pairs_in t = sum_by (λ o. width_of t o * width_of t o) t.ops
