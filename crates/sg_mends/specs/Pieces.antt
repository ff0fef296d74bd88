-- The tokens that are tried in a text.
use Rattle.std.specs.Prelude.{List, [], ◌∷◌, codes}
use Rattle.sg_kinds.specs.Values.{Bytes}
use Rattle.sg_text.specs.Symbols.{symbol_bytes}
use Rattle.sg_text.specs.Words.{keyword_bytes}
use Rattle.sg_text.specs.declared.symbols.Symbol.TheVariants.{ColonColonEquals, ColonColon, Colon, Dot, DollarDollar, Dollar, Bar, EqualsEquals, Equals, Less, Greater, Plus, Comma, Semicolon, LeftParenthesis, RightParenthesis, LeftBracket, RightBracket, LeftBrace, RightBrace, At, Tilde}
use Rattle.sg_text.specs.declared.words.Keyword.TheVariants as keyword
use Rattle.sg_mends.specs.declared.piece.Piece.{Piece}
use Rattle.sg_mends.specs.declared.piece.Piece.TheVariants.{Sign, Word, Name, Number, Text, Literal}

-- the bytes with which a piece is tried
abbrev pub piece_bytes : Piece → Bytes
piece_bytes (Sign s) = symbol_bytes s
piece_bytes (Word k) = keyword_bytes k
piece_bytes Name = codes "x"
piece_bytes Number = codes "0"
piece_bytes Text = 34 ∷ 34 ∷ []
piece_bytes Literal = codes "'x'"

-- those that are tried, in the order in which they are told
abbrev pub pieces : List Piece
pieces =
    Sign Semicolon ∷ Sign RightParenthesis ∷ Sign RightBrace ∷ Sign LeftParenthesis ∷ Sign LeftBrace
    ∷ Sign RightBracket ∷ Sign LeftBracket ∷ Sign Colon ∷ Sign Equals ∷ Sign Comma ∷ Sign Dot ∷ Sign Bar
    ∷ Sign ColonColonEquals ∷ Sign DollarDollar ∷ Sign Dollar ∷ Sign Plus ∷ Sign ColonColon ∷ Sign Tilde ∷ Sign At
    ∷ Sign Less ∷ Sign Greater ∷ Sign EqualsEquals ∷ Word keyword.In ∷ Word keyword.On ∷ Name ∷ Number ∷ Text
    ∷ Literal ∷ []
