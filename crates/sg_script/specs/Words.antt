-- The words of a line.
use Rattle.std.specs.Prelude.{ℕ, suc, Bool, true, false, not, ◌||◌, ◌==◌, if◌then◌else◌, List, [], ◌∷◌, take, drop, Option, Some, None, option_map, option_and_then}
use Rattle.std.specs.List.{list_all, prefix_len}
use Rattle.sg_text.specs.Bytes.{newline, carriage_return, space, double_quote, backslash, is_escape}

-- a word, or what stands between the quotes of a string, and what follows it on the line
abbrev pub Cut : Type 0
Cut = List ℕ × List ℕ

abbrev pub is_space : ℕ → Bool
is_space b = b == space

-- how many bytes stand up to the next space, and how many spaces stand in front
abbrev pub word_len : List ℕ → ℕ
word_len bytes = prefix_len (λ b. not (is_space b)) bytes

abbrev pub spaces_at : List ℕ → ℕ
spaces_at bytes = prefix_len is_space bytes

-- what stands up to the next space
abbrev pub word_at : List ℕ → Cut
word_at bytes = (take (word_len bytes) bytes, drop (word_len bytes) bytes)

-- what follows one or more spaces
abbrev pub behind_spaces : List ℕ → Option (List ℕ)
behind_spaces rest = if spaces_at rest == 0 then None else Some (drop (spaces_at rest) rest)

-- the next word
abbrev pub next_word : List ℕ → Option Cut
next_word rest = option_map word_at (behind_spaces rest)

-- the place of the quote that closes a string; `escaped` says that a backslash stands before these bytes
abbrev pub closing : (escaped : Bool) → List ℕ → Option ℕ
closing escaped [] = None
closing true (b ∷ bytes) = if is_escape b then option_map suc (closing false bytes) else None
closing false (b ∷ bytes) =
    if b == double_quote then Some 0
    else (if b == newline || b == carriage_return then None else option_map suc (closing (b == backslash) bytes))

-- a string behind its quote: what stands up to the closing one, and what follows that
abbrev pub string_in : List ℕ → Option Cut
string_in inner = option_map (λ n. (take n inner, drop (suc n) inner)) (closing false inner)

-- a string that begins with its quote
abbrev pub string_at : List ℕ → Option Cut
string_at [] = None
string_at (b ∷ bytes) = if b == double_quote then string_in bytes else None

-- the next string
abbrev pub next_string : List ℕ → Option Cut
next_string rest = option_and_then string_at (behind_spaces rest)

-- whether the line has nothing more than spaces
abbrev pub is_end : List ℕ → Bool
is_end rest = list_all is_space rest

-- a word behind which the line ends
abbrev pub last_of : Option Cut → Option (List ℕ)
last_of o = option_and_then (λ c. if is_end c.1 then Some c.0 else None) o

abbrev pub last_word : List ℕ → Option (List ℕ)
last_word rest = last_of (next_word rest)

abbrev pub last_string : List ℕ → Option (List ℕ)
last_string rest = last_of (next_string rest)
