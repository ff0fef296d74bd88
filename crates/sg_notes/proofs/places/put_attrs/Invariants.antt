use Rattle.std.proofs.Common.{◌≡◌, ℕ, List, drop, map}
use Rattle.sg_ast.specs.FirstFault.{or_else}
use Rattle.sg_names.specs.Meaning.{meaning}
use Rattle.sg_notes.specs.Declared.{declared_attr, place_in}
use Rattle.sg_notes.proofs.places.put_attrs.Given as goal

abbrev pub invariant-loop-attr : goal.invariant-loop-attr
invariant-loop-attr l = (n : List ℕ) → or_else (meaning l.places n) (place_in (map (declared_attr l.owner) (drop l.attr-index l.attrs)) n) ≡ or_else (meaning l.initial.places n) (place_in (map (declared_attr l.owner) l.attrs) n)
