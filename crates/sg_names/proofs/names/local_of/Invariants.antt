use Rattle.std.proofs.Common.{◌≡◌, drop, bytes_eq, position}
use Rattle.std.specs.List.{position_from}
use Rattle.sg_kinds.specs.declared.spec.Local.{Local}
use Rattle.sg_names.proofs.names.local_of.Given as goal

abbrev pub invariant-loop-place : goal.invariant-loop-place
invariant-loop-place l = position_from (λ (a : Local). bytes_eq l.name a.name) l.place (drop l.place l.locals) ≡ position (λ (a : Local). bytes_eq l.name a.name) l.locals
