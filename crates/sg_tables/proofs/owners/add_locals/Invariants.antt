use Rattle.std.proofs.Common.{◌≡◌, ℕ, ◌++◌, map, drop}
use Rattle.sg_names.specs.Names.{owned, local}
use Rattle.sg_names.specs.Rows.{row_at}
use Rattle.sg_tables.proofs.owners.add_locals.Given as goal

abbrev pub invariant-loop-typed : goal.invariant-loop-typed
invariant-loop-typed l = (k : ℕ) → row_at l.found k ++ owned (map (local l.phyla l.op) (drop l.typed-index l.locals)) k ≡ row_at l.fn.found k ++ owned (map (local l.phyla l.op) l.locals) k
