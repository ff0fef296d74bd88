-- Which tokens spell which trees.
use Rattle.std.specs.Prelude.{ℕ, ◌+◌, List, [], ◌∷◌, length, ⊤}
use Rattle.sg_text.specs.declared.tokens.Token.{Token}
use Rattle.sg_text.specs.Lexemes.{lexeme_of}
use Rattle.sg_text.specs.Cut.{cut}
use Rattle.sg_ast.specs.Declarations.{Decl}
use Rattle.sg_ast.specs.Grouped.{IsTree}
use Rattle.sg_ast.specs.Spelling.{Mark, Takes, spell}

-- the tree is one of the grammar, and the marks fit its spelling: each token's lexeme is as spelled, and each place
-- that the tree keeps is that of its token
pub record Spells (ms : List Mark) (d : Decl) : Type 0 where
  pub tree : IsTree d
  pub fits : Takes (spell d) ms []

-- each tree is spelled by the declaration at its place
abbrev pub EachSpells : List (List Mark) → List Decl → Type 0
EachSpells [] [] = ⊤
EachSpells (ms ∷ mss) (d ∷ ds) = Spells ms d × EachSpells mss ds
EachSpells _ _ = ⊥

-- a token of the text as its lexeme, with its number in the text and its line
abbrev pub mark_of : List ℕ → ℕ → Token → Mark
mark_of bytes number t = (lexeme_of bytes t, record { token = number; line = t.line })

-- tokens of the text, of which the first has this number
abbrev pub marks_from : List ℕ → ℕ → List Token → List Mark
marks_from bytes number [] = []
marks_from bytes number (t ∷ ts) = mark_of bytes number t ∷ marks_from bytes (number + 1) ts

-- declarations of the text, of which the first begins with the token of this number
abbrev pub marked_from : List ℕ → ℕ → List (List Token) → List (List Mark)
marked_from bytes number [] = []
marked_from bytes number (d ∷ ds) = marks_from bytes number d ∷ marked_from bytes (number + length d) ds

-- the declarations of a text with these tokens
abbrev pub declarations : List ℕ → List Token → List (List Mark)
declarations bytes tokens = marked_from bytes 0 (cut tokens)
