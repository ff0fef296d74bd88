use Rattle.std.proofs.Common.{◌≡◌, ℕ, List, drop, map}
use Rattle.sg_ast.specs.FirstFault.{or_else}
use Rattle.sg_names.specs.Meaning.{meaning}
use Rattle.sg_notes.specs.Declared.{declared_literal, place_in}
use Rattle.sg_notes.proofs.places.put_literals.Given as goal

abbrev pub invariant-loop-literal : goal.invariant-loop-literal
invariant-loop-literal l = (n : List ℕ) → or_else (meaning l.places n) (place_in (map declared_literal (drop l.literal-index l.literals)) n) ≡ or_else (meaning l.initial.places n) (place_in (map declared_literal l.literals) n)
