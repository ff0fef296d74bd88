-- The sets of bytes that the forms of tokens are made of.
use Rattle.std.specs.Prelude.{ℕ, Bool, not, ◌&&◌, ◌||◌, ◌==◌, nat_le}
use Rattle.std.specs.Char.{is_ascii_alphabetic, is_ascii_digit}

abbrev pub tab : ℕ
tab = 9

abbrev pub newline : ℕ
newline = 10

abbrev pub carriage_return : ℕ
carriage_return = 13

abbrev pub space : ℕ
space = 32

abbrev pub double_quote : ℕ
double_quote = 34

abbrev pub single_quote : ℕ
single_quote = 39

abbrev pub star : ℕ
star = 42

abbrev pub slash : ℕ
slash = 47

abbrev pub backslash : ℕ
backslash = 92

abbrev pub underscore : ℕ
underscore = 95

abbrev pub letter_n : ℕ
letter_n = 110

-- the bytes that part tokens
abbrev pub is_blank : ℕ → Bool
is_blank b = b == tab || b == newline || b == carriage_return || b == space

-- the bytes that begin a name
abbrev pub is_letter : ℕ → Bool
is_letter b = is_ascii_alphabetic b || b == underscore

-- the bytes that go on in a name
abbrev pub is_name_byte : ℕ → Bool
is_name_byte b = is_letter b || is_ascii_digit b

-- the bytes that may stand in a string
abbrev pub is_string_byte : ℕ → Bool
is_string_byte b = nat_le 32 b && nat_le b 126

-- the bytes that may stand after a backslash
abbrev pub is_escape : ℕ → Bool
is_escape b = b == double_quote || b == backslash || b == letter_n

-- the bytes that may stand in a quoted literal
abbrev pub is_quoted_byte : ℕ → Bool
is_quoted_byte b = nat_le 33 b && nat_le b 126 && not (b == single_quote)

-- a byte that begins no name, number, string or literal
abbrev pub is_sign : ℕ → Bool
is_sign b = not (is_name_byte b || b == double_quote || b == single_quote)
