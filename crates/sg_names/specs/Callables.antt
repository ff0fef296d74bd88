-- What stands before parentheses.
use Rattle.std.specs.Prelude.{ℕ, Option, Some, None}
use Rattle.sg_names.specs.declared.table.Callable.{Callable}
use Rattle.sg_names.specs.declared.table.Callable.TheVariants.{Operator}

-- the operator, if it is one
abbrev pub operator_in : Callable → Option ℕ
operator_in (Operator op) = Some op
operator_in c = None
