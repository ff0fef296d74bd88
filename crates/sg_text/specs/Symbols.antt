-- The symbols and their spellings.
use Rattle.std.specs.Prelude.{ℕ, Bool, true, false, ◌&&◌, ◌==◌, List, [], ◌∷◌, Option, None, option_map, find, codes}
use Rattle.std.specs.Option.{option_or}
use Rattle.sg_text.specs.declared.symbols.Symbol.{Symbol}
use Rattle.sg_text.specs.declared.symbols.Symbol.TheVariants.{ColonColonEquals, ColonColon, Colon, DotDot, Dot, DollarDollar, Dollar, AmpersandAmpersand, BarBar, Bar, EqualsEquals, Equals, BangEquals, Bang, LessEquals, Less, GreaterEquals, Greater, Plus, Minus, Star, Slash, Percent, Hash, Question, Comma, Semicolon, LeftParenthesis, RightParenthesis, LeftBracket, RightBracket, LeftBrace, RightBrace, At, Caret, Tilde}

-- the bytes of a symbol
abbrev pub symbol_bytes : Symbol → List ℕ
symbol_bytes ColonColonEquals = codes "::="
symbol_bytes ColonColon = codes "::"
symbol_bytes Colon = codes ":"
symbol_bytes DotDot = codes ".."
symbol_bytes Dot = codes "."
symbol_bytes DollarDollar = codes "$$"
symbol_bytes Dollar = codes "$"
symbol_bytes AmpersandAmpersand = codes "&&"
symbol_bytes BarBar = codes "||"
symbol_bytes Bar = codes "|"
symbol_bytes EqualsEquals = codes "=="
symbol_bytes Equals = codes "="
symbol_bytes BangEquals = codes "!="
symbol_bytes Bang = codes "!"
symbol_bytes LessEquals = codes "<="
symbol_bytes Less = codes "<"
symbol_bytes GreaterEquals = codes ">="
symbol_bytes Greater = codes ">"
symbol_bytes Plus = codes "+"
symbol_bytes Minus = codes "-"
symbol_bytes Star = codes "*"
symbol_bytes Slash = codes "/"
symbol_bytes Percent = codes "%"
symbol_bytes Hash = codes "#"
symbol_bytes Question = codes "?"
symbol_bytes Comma = codes ","
symbol_bytes Semicolon = codes ";"
symbol_bytes LeftParenthesis = codes "("
symbol_bytes RightParenthesis = codes ")"
symbol_bytes LeftBracket = codes "["
symbol_bytes RightBracket = codes "]"
symbol_bytes LeftBrace = codes "{"
symbol_bytes RightBrace = codes "}"
symbol_bytes At = codes "@"
symbol_bytes Caret = codes "^"
symbol_bytes Tilde = codes "~"

-- all symbols
abbrev pub symbols : List Symbol
symbols =
    ColonColonEquals ∷ ColonColon ∷ Colon ∷ DotDot ∷ Dot ∷ DollarDollar ∷ Dollar ∷ AmpersandAmpersand ∷ BarBar ∷ Bar
    ∷ EqualsEquals ∷ Equals ∷ BangEquals ∷ Bang ∷ LessEquals ∷ Less ∷ GreaterEquals ∷ Greater ∷ Plus ∷ Minus ∷ Star
    ∷ Slash ∷ Percent ∷ Hash ∷ Question ∷ Comma ∷ Semicolon ∷ LeftParenthesis ∷ RightParenthesis ∷ LeftBracket
    ∷ RightBracket ∷ LeftBrace ∷ RightBrace ∷ At ∷ Caret ∷ Tilde ∷ []

-- whether two texts are the same, their lengths compared first
abbrev pub is_same : List ℕ → List ℕ → Bool
is_same [] [] = true
is_same [] (b ∷ bs) = false
is_same (a ∷ xs) [] = false
is_same (a ∷ xs) (b ∷ bs) = is_same xs bs && a == b

-- the symbol of these bytes
abbrev pub symbol_of : List ℕ → Option Symbol
symbol_of w = find (λ s. is_same (symbol_bytes s) w) symbols

-- a symbol beside its length
abbrev pub sized : ℕ → Option Symbol → Option (Symbol × ℕ)
sized n o = option_map (λ s. (s, n)) o

-- the longest symbol that begins a text, and its length
abbrev pub longest_symbol : List ℕ → Option (Symbol × ℕ)
longest_symbol [] = None
longest_symbol (a ∷ []) = sized 1 (symbol_of (a ∷ []))
longest_symbol (a ∷ b ∷ []) = option_or (sized 2 (symbol_of (a ∷ b ∷ []))) (sized 1 (symbol_of (a ∷ [])))
longest_symbol (a ∷ b ∷ c ∷ bs) =
    option_or (sized 3 (symbol_of (a ∷ b ∷ c ∷ [])))
    (option_or (sized 2 (symbol_of (a ∷ b ∷ []))) (sized 1 (symbol_of (a ∷ []))))
