use Rattle.std.proofs.Common.{◌≡◌, length, map, take}
use Rattle.sg_patterns.specs.Lexemes.{IsTable}
use Rattle.sg_patterns.proofs.lexemes.table_of.Given as goal

abbrev pub invariant-loop-place : goal.invariant-loop-place
invariant-loop-place l = (length l.table.items ≡ 256) × IsTable (take l.place l.texts) (map (λ v. v.items) l.table.items)
