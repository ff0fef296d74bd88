use Rattle.std.proofs.Common.{◌≡◌, map}
use Rattle.sg_typing.specs.declared.bodies.TypedExpr.{TypedExpr}
use Rattle.sg_record.proofs.bodies.exprs.Given as goal

abbrev pub invariant-loop-each : goal.invariant-loop-each
invariant-loop-each l = l.exprs.items ≡ map (λ (x : TypedExpr). x.expr) l.yielded
