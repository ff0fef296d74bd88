use Rattle.std.proofs.Common.{◌≡◌, ℕ, List, drop, map}
use Rattle.sg_ast.specs.FirstFault.{or_else}
use Rattle.sg_names.specs.Meaning.{meaning}
use Rattle.sg_notes.specs.Declared.{declared_local, place_in}
use Rattle.sg_notes.proofs.places.put_locals.Given as goal

abbrev pub invariant-loop-local : goal.invariant-loop-local
invariant-loop-local l = (n : List ℕ) → or_else (meaning l.places n) (place_in (map (declared_local l.owner) (drop l.local-index l.locals)) n) ≡ or_else (meaning l.initial.places n) (place_in (map (declared_local l.owner) l.locals) n)
