use Rattle.std.proofs.Common.{◌≡◌, ℕ, ◌++◌, drop}
use Rattle.sg_kinds.specs.declared.spec.Operator.{Operator}
use Rattle.sg_names.specs.Names.{owned, map_from, owners}
use Rattle.sg_names.specs.Rows.{row_at}
use Rattle.sg_tables.proofs.owners.operators.Given as goal

abbrev pub invariant-loop-place : goal.invariant-loop-place
invariant-loop-place l = (k : ℕ) → row_at l.found k ++ owned (map_from (λ op (o : Operator). (o.phylum, op)) l.place (drop l.place l.ops)) k ≡ owned (owners l.ops) k
