-- What a string stands for.
use Rattle.std.specs.Prelude.{ℕ, Bool, true, false, ◌==◌, if◌then◌else◌, List, [], ◌∷◌}
use Rattle.sg_text.specs.Bytes.{backslash, newline, letter_n}

-- the byte that a letter stands for after a backslash
abbrev pub escape_value : ℕ → ℕ
escape_value b = if b == letter_n then newline else b

-- the bytes with each escape as what it stands for; `escaped` says that a backslash stands before them
abbrev pub unescaped_after : (escaped : Bool) → List ℕ → List ℕ
unescaped_after escaped [] = []
unescaped_after true (b ∷ bs) = escape_value b ∷ unescaped_after false bs
unescaped_after false (b ∷ bs) =
    let rest = unescaped_after (b == backslash) bs in if b == backslash then rest else b ∷ rest

-- the bytes between the quotes of a string with each escape as what it stands for
abbrev pub unescaped : List ℕ → List ℕ
unescaped bs = unescaped_after false bs
