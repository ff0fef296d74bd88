use Rattle.std.proofs.Common.{◌≡◌, ℕ, List, drop}
use Rattle.std.specs.Prelude.{flat_map}
use Rattle.sg_ast.specs.FirstFault.{or_else}
use Rattle.sg_ast.specs.View.{trees_of}
use Rattle.sg_names.specs.Meaning.{meaning}
use Rattle.sg_notes.specs.Declared.{declared, declared_at, place_in}
use Rattle.sg_notes.proofs.places.places.Given as goal

abbrev pub invariant-loop-decl : goal.invariant-loop-decl
invariant-loop-decl l = (n : List ℕ) → or_else (meaning l.places n) (place_in (flat_map declared (trees_of (drop l.decl-index l.decls))) n) ≡ declared_at (trees_of l.decls) n
