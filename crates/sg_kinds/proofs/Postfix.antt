-- Patterns from their steps: a letter and then letters or digits; `a|b`, and then `.`; steps that lack what they join.
use Rattle.std.specs.Prelude.{◌≡◌, refl, false, [], ◌∷◌}
use Rattle.sg_kinds.specs.Lexemes as plain
use Rattle.sg_kinds.specs.LexemeView.{lexeme_of}
use Rattle.sg_kinds.specs.declared.lexeme.LexemeStep.TheVariants.{Byte, Dot, Class, Then, Either, Many}

name : lexeme_of (Class false ((97, 122) ∷ []) ∷ Class false ((97, 122) ∷ (48, 57) ∷ []) ∷ Many ∷ Then ∷ [])
    ≡ plain.Then (plain.Class false ((97, 122) ∷ [])) (plain.Many (plain.Class false ((97, 122) ∷ (48, 57) ∷ [])))
name = refl

in_order : lexeme_of (Byte 97 ∷ Byte 98 ∷ Either ∷ Dot ∷ Then ∷ []) ≡ plain.Then (plain.Either (plain.Byte 97) (plain.Byte 98)) plain.Dot
in_order = refl

lacking : lexeme_of (Then ∷ Many ∷ Byte 97 ∷ Either ∷ []) ≡ plain.Byte 97
lacking = refl

none : lexeme_of [] ≡ plain.Nothing
none = refl
