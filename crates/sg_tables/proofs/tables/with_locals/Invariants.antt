use Rattle.std.proofs.Common.{◌≡◌, ℕ, ◌≤◌, ◌++◌, take, drop}
use Rattle.sg_names.specs.Names.{map_from, with_local}
use Rattle.sg_names.specs.Rows.{row_at}
use Rattle.sg_tables.proofs.tables.with_locals.Given as goal

abbrev pub invariant-loop-place : goal.invariant-loop-place
invariant-loop-place l = record {
  made : l.ops.items ≡ map_from (with_local (row_at l.fn.locals)) 0 (take l.place l.fn.ops.items) ++ drop l.place l.fn.ops.items;
  locals : (k : ℕ) → l.place ≤ k → row_at l.locals k ≡ row_at l.fn.locals k;
}
