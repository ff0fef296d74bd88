use Rattle.std.proofs.Common.{◌≡◌, ℕ, List, drop, bytes_eq, option_map}
use Rattle.std.specs.List.{position_from}
use Rattle.sg_ast.specs.FirstFault.{or_else}
use Rattle.sg_names.specs.Meaning.{meaning}
use Rattle.sg_names.specs.Lookups.{function_named}
use Rattle.sg_names.specs.declared.table.Signature.{Signature}
use Rattle.sg_names.specs.declared.table.Callable.TheVariants as callable
use Rattle.sg_names.proofs.callables.add_functions.Given as goal

abbrev pub invariant-loop-place : goal.invariant-loop-place
invariant-loop-place l = (n : List ℕ) → or_else (meaning l.index n) (option_map callable.Function (position_from (λ (f : Signature). bytes_eq n f.name) l.place (drop l.place l.functions))) ≡ or_else (meaning l.fn.index n) (option_map callable.Function (function_named l.functions n))
