use Rattle.std.proofs.Common.{◌≡◌, ℕ, ◌++◌, map, flat_map, drop}
use Rattle.std.specs.Prelude.{option_copied}
use Rattle.sg_ast.specs.View.{tree_of, trees_of}
use Rattle.sg_names.specs.Names.{owned}
use Rattle.sg_names.specs.Rows.{row_at}
use Rattle.sg_views.specs.Schemes.{schemes_at, schemes_of}
use Rattle.sg_views.proofs.schemes.schemes.Given as goal

abbrev pub invariant-loop-decl : goal.invariant-loop-decl
invariant-loop-decl l = (k : ℕ) →
    row_at l.found k ++ owned (flat_map (schemes_at l.names (option_copied l.view)) (map tree_of (drop l.decl-index l.decls))) k
    ≡ schemes_of l.names (option_copied l.view) (trees_of l.decls) k
