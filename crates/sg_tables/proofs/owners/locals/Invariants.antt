use Rattle.std.proofs.Common.{◌≡◌, ℕ, ◌++◌, map, flat_map, drop}
use Rattle.sg_ast.specs.View.{tree_of, trees_of}
use Rattle.sg_names.specs.Names.{owned, locals_at, locals_of}
use Rattle.sg_names.specs.Rows.{row_at}
use Rattle.sg_tables.proofs.owners.locals.Given as goal

abbrev pub invariant-loop-decl : goal.invariant-loop-decl
invariant-loop-decl l = (k : ℕ) → row_at l.found k ++ owned (flat_map (locals_at l.phyla l.ops) (map tree_of (drop l.decl-index l.decls))) k ≡ locals_of l.phyla l.ops (trees_of l.decls) k
