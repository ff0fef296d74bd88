-- What tokens say, without their places.
use Rattle.std.specs.Prelude.{ℕ, List, nat_abs, slice_range}
use Rattle.std.specs.Option.{option_map_or}
use Rattle.sg_text.specs.declared.tokens.Kind.TheVariants.{Name, Number, Text, Quoted, Symbol}
use Rattle.sg_text.specs.declared.tokens.Kind.{Kind}
use Rattle.sg_text.specs.declared.tokens.Token.{Token}
use Rattle.sg_text.specs.declared.symbols.Symbol as declared
use Rattle.sg_text.specs.declared.words.Keyword.{Keyword}
use Rattle.sg_text.specs.Forms.{inner}
use Rattle.sg_text.specs.Words.{keyword_of}
use Rattle.sg_text.specs.Strings.{unescaped}

-- a token's meaning: a name, a reserved word, a number, what a string or a literal stands for, or a symbol
pub data Lexeme : Type 0 where
  Word : List ℕ → Lexeme
  Reserved : Keyword → Lexeme
  Numeral : ℕ → Lexeme
  String : List ℕ → Lexeme
  Literal : List ℕ → Lexeme
  Sign : declared.Symbol → Lexeme

-- a text of the form of names is a reserved word or a name
abbrev pub word_of : List ℕ → Lexeme
word_of w = option_map_or Reserved (keyword_of w) (Word w)

-- the meaning of a text that has this form
abbrev pub meaning_of : Kind → List ℕ → Lexeme
meaning_of Name w = word_of w
meaning_of (Number v) w = Numeral (nat_abs v)
meaning_of Text w = String (unescaped (inner w))
meaning_of Quoted w = Literal (inner w)
meaning_of (Symbol s) w = Sign s

-- the bytes of a token
abbrev pub token_bytes : List ℕ → Token → List ℕ
token_bytes bytes t = slice_range bytes t.from t.to

-- the meaning of a token of the text
abbrev pub lexeme_of : List ℕ → Token → Lexeme
lexeme_of bytes t = meaning_of t.kind (token_bytes bytes t)
