-- Matching on worked examples.
use Rattle.std.specs.Prelude.{refl, false, [], ◌∷◌}
use Rattle.sg_kinds.specs.Lexemes.{Class, Then, Several, Many}
use Rattle.sg_kinds.specs.Matches.{Matches, none, more}

-- [a-z][a-z0-9]* matches a1, and [0-9]+ does not match the empty text
a1 : Matches (Then (Class false ((97, 122) ∷ [])) (Many (Class false ((97, 122) ∷ (48, 57) ∷ [])))) (97 ∷ 49 ∷ [])
a1 = (1, (refl, refl), more 1 2 2 (refl, refl) (none 2))

not_empty : Matches (Several (Class false ((48, 57) ∷ []))) [] → ⊥
not_empty m = elim m.1.1 [ ]
