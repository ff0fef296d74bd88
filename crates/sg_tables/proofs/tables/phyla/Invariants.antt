use Rattle.std.proofs.Common.{◌≡◌, ℕ, ◌≤◌, ◌++◌, drop}
use Rattle.sg_names.specs.Names.{map_from, phylum, lexemes_before}
use Rattle.sg_names.specs.Rows.{row_at}
use Rattle.sg_tables.proofs.tables.phyla.Given as goal

abbrev pub invariant-loop-place : goal.invariant-loop-place
invariant-loop-place l = record {
  made : l.phyla.items ++ map_from (phylum l.heads (row_at l.fn.listings) (row_at l.fn.ops) (row_at l.fn.attrs)) l.place (drop l.place l.heads) ≡ map_from (phylum l.heads (row_at l.fn.listings) (row_at l.fn.ops) (row_at l.fn.attrs)) 0 l.heads;
  lexemes : l.lexemes ≡ lexemes_before l.heads l.place;
  few : l.lexemes ≤ l.place;
  listings : (k : ℕ) → l.place ≤ k → row_at l.listings k ≡ row_at l.fn.listings k;
  ops : (k : ℕ) → l.place ≤ k → row_at l.ops k ≡ row_at l.fn.ops k;
  attrs : (k : ℕ) → l.place ≤ k → row_at l.attrs k ≡ row_at l.fn.attrs k;
}
