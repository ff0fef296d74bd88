use Rattle.std.proofs.Common.{◌≡◌, ℕ, ◌≤◌, ◌++◌, take, drop}
use Rattle.sg_names.specs.Names.{map_from}
use Rattle.sg_names.specs.Rows.{row_at}
use Rattle.sg_record.specs.Record.{with_scheme}
use Rattle.sg_record.proofs.operators.with_schemes.Given as goal

abbrev pub invariant-loop-place : goal.invariant-loop-place
invariant-loop-place l = record {
  made : l.ops.items ≡ map_from (with_scheme (row_at l.fn.schemes)) 0 (take l.place l.fn.ops.items) ++ drop l.place l.fn.ops.items;
  schemes : (k : ℕ) → l.place ≤ k → row_at l.schemes k ≡ row_at l.fn.schemes k;
}
