-- The forms of words: names of buffers, of views and of files, lines and columns.
use Rattle.std.specs.Prelude.{ℕ, Bool, false, not, ◌&&◌, ◌||◌, ◌==◌, nat_le, if◌then◌else◌, List, [], ◌∷◌, length, Option, Some, None}
use Rattle.std.specs.List.{list_all}
use Rattle.std.specs.Char.{is_ascii_digit}
use Rattle.sg_text.specs.Bytes as text
use Rattle.sg_text.specs.Forms as token
use Rattle.sg_text.specs.Forms.{value_of}

-- a name has 1 to 64 bytes
abbrev pub has_length : List ℕ → Bool
has_length bytes = nat_le 1 (length bytes) && nat_le (length bytes) 64

-- the name of a buffer: letters, digits, _ and -
abbrev pub is_name_byte : ℕ → Bool
is_name_byte b = text.is_name_byte b || b == 45

abbrev pub is_name : List ℕ → Bool
is_name bytes = has_length bytes && list_all is_name_byte bytes

abbrev pub name_of : List ℕ → Option (List ℕ)
name_of bytes = if is_name bytes then Some bytes else None

-- the name of a view: a name as in a specification, of 1 to 64 bytes
abbrev pub is_view_name : List ℕ → Bool
is_view_name bytes = has_length bytes && token.is_name bytes

abbrev pub view_name_of : List ℕ → Option (List ℕ)
view_name_of bytes = if is_view_name bytes then Some bytes else None

-- the name of a file: bytes from 33 to 126
abbrev pub is_graphic : ℕ → Bool
is_graphic b = nat_le 33 b && nat_le b 126

abbrev pub is_file_name : List ℕ → Bool
is_file_name bytes = has_length bytes && list_all is_graphic bytes

abbrev pub file_name_of : List ℕ → Option (List ℕ)
file_name_of bytes = if is_file_name bytes then Some bytes else None

-- a line or a column: 1 to 9 digits, of which the first is no 0
abbrev pub is_count : List ℕ → Bool
is_count [] = false
is_count (d ∷ ds) = not (d == 48) && nat_le (length ds) 8 && list_all is_ascii_digit (d ∷ ds)

abbrev pub count_of : List ℕ → Option ℕ
count_of bytes = if is_count bytes then Some (value_of bytes) else None
