use Rattle.std.proofs.Common.{◌≡◌, drop}
use Rattle.std.specs.List.{list_any}
use Rattle.sg_useless.specs.Uses.{view_schemes}
use Rattle.sg_useless.specs.Useless.{is_typed_in, is_typed_in_views}
use Rattle.sg_useless.proofs.finding.is_typed_in_views.Given as goal

abbrev pub invariant-loop-row : goal.invariant-loop-row
invariant-loop-row l = list_any (λ row. is_typed_in l.is_root (view_schemes l.op row)) (drop l.row-index l.spec.views.rows) ≡ is_typed_in_views l.spec l.is_root l.op
