use Rattle.std.proofs.Common.{◌≡◌, ℕ, ◌≤◌, ◌++◌, take, drop}
use Rattle.sg_names.specs.More.{and_attrs}
use Rattle.sg_names.specs.Names.{map_from}
use Rattle.sg_names.specs.Rows.{row_at}
use Rattle.sg_names.proofs.names.and_more.Given as goal

abbrev pub invariant-loop-place : goal.invariant-loop-place
invariant-loop-place l = record {
  made : l.phyla.items ≡ map_from (and_attrs (row_at l.fn.more)) 0 (take l.place l.fn.phyla.items) ++ drop l.place l.fn.phyla.items;
  rest : (k : ℕ) → l.place ≤ k → row_at l.more k ≡ row_at l.fn.more k;
}
