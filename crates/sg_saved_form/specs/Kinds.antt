-- What a byte means in a saved file.
use Rattle.std.specs.Prelude.{ℕ, ◌==◌, if◌then◌else◌}
use Rattle.std.specs.Char.{is_ascii_digit}
use Rattle.sg_kinds.specs.Values.{is_text_byte}
use Rattle.sg_text.specs.Bytes.{is_letter, newline, double_quote, backslash}
use Rattle.sg_saved_form.specs.Files.{left_parenthesis, right_parenthesis, comma, dash}
use Rattle.sg_saved_form.specs.declared.kinds.Kind.{Kind}
use Rattle.sg_saved_form.specs.declared.kinds.Kind.TheVariants.{Letter, Zero, Digit, LeftParenthesis, RightParenthesis, Comma, Newline, DoubleQuote, Backslash, Dash, Plain, Other}

-- the code of 0
abbrev pub zero_digit : ℕ
zero_digit = 48

-- the kind of a byte
abbrev pub kind_of : ℕ → Kind
kind_of b =
    if is_letter b then Letter else (if b == zero_digit then Zero else (if is_ascii_digit b then Digit
    else (if b == left_parenthesis then LeftParenthesis else (if b == right_parenthesis then RightParenthesis
    else (if b == comma then Comma else (if b == newline then Newline else (if b == double_quote then DoubleQuote
    else (if b == backslash then Backslash else (if b == dash then Dash
    else (if is_text_byte b then Plain else Other))))))))))
