use Rattle.std.proofs.Common.{◌≡◌, map, fold, drop}
use Rattle.sg_kinds.specs.declared.spec.Local.{Local}
use Rattle.sg_names.specs.Uses as uses
use Rattle.sg_uses.proofs.walked.local_scope.Given as goal

abbrev pub invariant-loop-local : goal.invariant-loop-local
invariant-loop-local l = fold uses.with_variable l.scope (map (λ (x : Local). x.name) (drop l.local-index l.locals)) ≡ uses.local_scope l.fn.names l.fn.op
