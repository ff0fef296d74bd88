use Rattle.std.proofs.Common.{◌≡◌, ℕ, ◌++◌, map, drop}
use Rattle.sg_names.specs.Names.{owned}
use Rattle.sg_names.specs.Rows.{row_at}
use Rattle.sg_views.specs.Schemes.{scheme_of}
use Rattle.sg_views.proofs.schemes.add_schemes.Given as goal

abbrev pub invariant-loop-each : goal.invariant-loop-each
invariant-loop-each l = (k : ℕ) →
    row_at l.found k ++ owned (map (λ s. (l.op, scheme_of l.names l.op s)) (drop l.each-index l.schemes)) k
    ≡ row_at l.fn.found k ++ owned (map (λ s. (l.op, scheme_of l.names l.op s)) l.schemes) k
