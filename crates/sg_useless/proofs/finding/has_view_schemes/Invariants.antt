use Rattle.std.proofs.Common.{◌≡◌, drop}
use Rattle.std.specs.List.{list_any}
use Rattle.sg_useless.specs.Uses.{view_schemes}
use Rattle.sg_useless.specs.Useless.{is_some_scheme, has_view_schemes}
use Rattle.sg_useless.proofs.finding.has_view_schemes.Given as goal

abbrev pub invariant-loop-row : goal.invariant-loop-row
invariant-loop-row l = list_any (λ row. is_some_scheme (view_schemes l.op row)) (drop l.row-index l.spec.views.rows) ≡ has_view_schemes l.spec l.op
