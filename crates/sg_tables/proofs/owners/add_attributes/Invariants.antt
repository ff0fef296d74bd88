use Rattle.std.proofs.Common.{◌≡◌, ℕ, ◌++◌, map, drop}
use Rattle.sg_names.specs.Names.{owned, attribute}
use Rattle.sg_names.specs.Rows.{row_at}
use Rattle.sg_tables.proofs.owners.add_attributes.Given as goal

abbrev pub invariant-loop-decl : goal.invariant-loop-decl
invariant-loop-decl l = (k : ℕ) → row_at l.found k ++ owned (map (attribute l.phyla l.owner) (drop l.decl-index l.attrs)) k ≡ row_at l.fn.found k ++ owned (map (attribute l.phyla l.owner) l.attrs) k
