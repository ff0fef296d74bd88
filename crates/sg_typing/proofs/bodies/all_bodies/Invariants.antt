use Rattle.std.proofs.Common.{◌≡◌, ◌++◌, drop, map}
use Rattle.std.specs.Prelude.{flat_map}
use Rattle.sg_ast.specs.FirstFault.{first}
use Rattle.sg_ast.specs.View.{tree_of}
use Rattle.sg_typing.specs.Bodies.{mismatch_at_decl, exprs_at, patterns_at}
use Rattle.sg_typing.proofs.bodies.all_bodies.Given as goal

abbrev pub invariant-loop-decl : goal.invariant-loop-decl
invariant-loop-decl l = record {
  mismatch : first (mismatch_at_decl l.names) (map tree_of (drop l.decl-index l.decls)) ≡ first (mismatch_at_decl l.names) (map tree_of l.decls);
  exprs : l.bodies.exprs.items ++ flat_map (exprs_at l.names) (map tree_of (drop l.decl-index l.decls)) ≡ flat_map (exprs_at l.names) (map tree_of l.decls);
  patterns : l.bodies.patterns.items ++ flat_map (patterns_at l.names) (map tree_of (drop l.decl-index l.decls)) ≡ flat_map (patterns_at l.names) (map tree_of l.decls);
}
