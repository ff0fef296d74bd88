use Rattle.std.proofs.Common.{◌≡◌, ℕ, ◌++◌, map, flat_map, drop}
use Rattle.sg_ast.specs.View.{tree_of, trees_of}
use Rattle.sg_names.specs.Names.{owned, attributes_at, attributes_of}
use Rattle.sg_names.specs.Rows.{row_at}
use Rattle.sg_tables.proofs.owners.attributes.Given as goal

abbrev pub invariant-loop-decl : goal.invariant-loop-decl
invariant-loop-decl l = (k : ℕ) → row_at l.found k ++ owned (flat_map (attributes_at l.owners l.phyla) (map tree_of (drop l.decl-index l.decls))) k ≡ attributes_of l.owners l.phyla (trees_of l.decls) k
