use Rattle.std.proofs.Common.{◌≡◌, ℕ, List, drop, bytes_eq, option_map}
use Rattle.std.specs.List.{position_from}
use Rattle.sg_ast.specs.FirstFault.{or_else}
use Rattle.sg_kinds.specs.declared.spec.Operator.{Operator}
use Rattle.sg_names.specs.Meaning.{meaning}
use Rattle.sg_names.specs.Names.{op_named}
use Rattle.sg_names.specs.declared.table.Callable.TheVariants as callable
use Rattle.sg_names.proofs.callables.by_operator.Given as goal

abbrev pub invariant-loop-place : goal.invariant-loop-place
invariant-loop-place l = (n : List ℕ) → or_else (meaning l.index n) (option_map callable.Operator (position_from (λ (o : Operator). bytes_eq n o.name) l.place (drop l.place l.ops))) ≡ option_map callable.Operator (op_named l.ops n)
