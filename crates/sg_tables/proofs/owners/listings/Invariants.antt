use Rattle.std.proofs.Common.{◌≡◌, ℕ, ◌++◌, map, flat_map, drop}
use Rattle.sg_ast.specs.View.{tree_of, trees_of}
use Rattle.sg_names.specs.Names.{owned, listing_at, listings_of}
use Rattle.sg_names.specs.Rows.{row_at}
use Rattle.sg_tables.proofs.owners.listings.Given as goal

abbrev pub invariant-loop-decl : goal.invariant-loop-decl
invariant-loop-decl l = (k : ℕ) → row_at l.found k ++ owned (flat_map (listing_at l.phyla) (map tree_of (drop l.decl-index l.decls))) k ≡ listings_of l.phyla (trees_of l.decls) k
