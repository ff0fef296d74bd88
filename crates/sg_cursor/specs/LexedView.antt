-- What the code keeps of a token, as its lexeme.
use Rattle.std.specs.Prelude.{nat_abs}
use Rattle.sg_text.specs.Lexemes as plain
use Rattle.sg_text.specs.Lexemes.{Lexeme}
use Rattle.sg_text.specs.Strings.{unescaped}
use Rattle.sg_cursor.specs.declared.lexed.Lexed.{Lexed}
use Rattle.sg_cursor.specs.declared.lexed.Lexed.TheVariants.{Word, Reserved, Numeral, String, Literal, Sign}

abbrev pub lexeme_in : Lexed → Lexeme
lexeme_in (Word w) = plain.Word w.now
lexeme_in (Reserved k) = plain.Reserved k
lexeme_in (Numeral v) = plain.Numeral (nat_abs v)
lexeme_in (String s) = plain.String (unescaped s.now)
lexeme_in (Literal s) = plain.Literal s.now
lexeme_in (Sign s) = plain.Sign s
