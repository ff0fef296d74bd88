use Rattle.std.proofs.Common.{◌≡◌, ◌++◌, drop}
use Rattle.std.specs.Prelude.{flat_map}
use Rattle.sg_useless.specs.Uses.{scheme_uses, view_schemes}
use Rattle.sg_useless.proofs.schemes.add_all_schemes.Given as goal

abbrev pub invariant-loop-row : goal.invariant-loop-row
invariant-loop-row l = l.uses.items ++ flat_map (λ row. scheme_uses l.spec l.op l.operator l.seen (view_schemes l.op row)) (drop l.row-index l.spec.views.rows) ≡ l.initial.uses.items ++ flat_map (λ row. scheme_uses l.spec l.op l.operator l.seen (view_schemes l.op row)) l.spec.views.rows
