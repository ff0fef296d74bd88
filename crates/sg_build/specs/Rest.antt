-- How deep a term is beside one of its subterms.
use Rattle.std.specs.Prelude.{ℕ}
use Rattle.sg_kinds.specs.Evaluation.{untyped}
use Rattle.sg_kinds.specs.Terms.{Term, Leaf, height_of}
use Rattle.sg_kinds.specs.Places.{Place, put}

-- how deep it is with a leaf in that place
abbrev pub rest_height : Term → Place → ℕ
rest_height t u = height_of (put t u (Leaf 0 untyped))
