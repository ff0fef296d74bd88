use Rattle.std.proofs.Common.{◌≡◌, ℕ, ◌≤◌, ◌++◌, drop}
use Rattle.sg_names.specs.Names.{map_from, nonterminal}
use Rattle.sg_names.specs.Rows.{row_at}
use Rattle.sg_tables.proofs.tables.nonterminals.Given as goal

abbrev pub invariant-loop-place : goal.invariant-loop-place
invariant-loop-place l = record {
  made : l.nonterminals.items ++ map_from (nonterminal (row_at l.fn.attrs)) l.place (drop l.place l.heads) ≡ map_from (nonterminal (row_at l.fn.attrs)) 0 l.heads;
  attrs : (k : ℕ) → l.place ≤ k → row_at l.attrs k ≡ row_at l.fn.attrs k;
}
