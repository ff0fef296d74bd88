-- Patterns of lexemes.
use Rattle.std.specs.Prelude.{ℕ, Bool, List}

-- nothing, a byte, `.`, a class of ranges or what it leaves out, one after another, one or the other, `*`, `+`, `?`
pub data Lexeme : Type 0 where
  Nothing : Lexeme
  Byte : ℕ → Lexeme
  Dot : Lexeme
  Class : Bool → List (ℕ × ℕ) → Lexeme
  Then : Lexeme → Lexeme → Lexeme
  Either : Lexeme → Lexeme → Lexeme
  Many : Lexeme → Lexeme
  Several : Lexeme → Lexeme
  Maybe : Lexeme → Lexeme
