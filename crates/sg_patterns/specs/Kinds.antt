-- What a byte means in a pattern.
use Rattle.std.specs.Prelude.{ℕ, Bool, true, false, ◌==◌, if◌then◌else◌}
use Rattle.sg_kinds.specs.Values.{is_text_byte}
use Rattle.sg_patterns.specs.declared.kinds.Kind.{Kind}
use Rattle.sg_patterns.specs.declared.kinds.Kind.TheVariants.{Bar, Star, Plus, Query, LeftParenthesis, RightParenthesis, LeftBracket, RightBracket, Stop, Backslash, Caret, Dash, Plain, Other}

-- the codes of | * + ? ( ) [ ] . \ ^ -
abbrev pub bar : ℕ
bar = 124

abbrev pub star : ℕ
star = 42

abbrev pub plus : ℕ
plus = 43

abbrev pub query : ℕ
query = 63

abbrev pub left_parenthesis : ℕ
left_parenthesis = 40

abbrev pub right_parenthesis : ℕ
right_parenthesis = 41

abbrev pub left_bracket : ℕ
left_bracket = 91

abbrev pub right_bracket : ℕ
right_bracket = 93

abbrev pub full_stop : ℕ
full_stop = 46

abbrev pub backslash : ℕ
backslash = 92

abbrev pub caret : ℕ
caret = 94

abbrev pub dash : ℕ
dash = 45

-- the kind of a byte
abbrev pub kind_of : ℕ → Kind
kind_of b =
    if b == bar then Bar else (if b == star then Star else (if b == plus then Plus else (if b == query then Query
    else (if b == left_parenthesis then LeftParenthesis else (if b == right_parenthesis then RightParenthesis
    else (if b == left_bracket then LeftBracket else (if b == right_bracket then RightBracket
    else (if b == full_stop then Stop else (if b == backslash then Backslash else (if b == caret then Caret
    else (if b == dash then Dash else (if is_text_byte b then Plain else Other))))))))))))

-- the kinds of the bytes that stand for themselves only after a backslash
abbrev pub is_special : Kind → Bool
is_special Plain = false
is_special Other = false
is_special k = true

-- the kinds of the bytes that stand for themselves outside brackets
abbrev pub is_plain : Kind → Bool
is_plain Plain = true
is_plain Caret = true
is_plain Dash = true
is_plain k = false

-- and in brackets
abbrev pub is_plain_inside : Kind → Bool
is_plain_inside Plain = true
is_plain_inside k = false
