-- How a command is spelled, and a script of such lines.
use Rattle.std.specs.Prelude.{ℕ, Bool, true, not, ◌&&◌, ◌||◌, ◌==◌, nat_le, nat_lt, if◌then◌else◌, List, [], ◌∷◌, ◌++◌, length, Some, None, map, codes}
use Rattle.std.specs.List.{list_all, join_with_byte}
use Rattle.std.specs.Fmt.{decimal}
use Rattle.sg_text.specs.Bytes.{newline, carriage_return, space, double_quote, backslash, letter_n}
use Rattle.sg_script.specs.declared.command.Command.{Command}
use Rattle.sg_script.specs.declared.command.Command.TheVariants.{New, Load, Switch, Show, Next, Prev, Up, First, Sibling, Goto, Extend, Shrink, Find, Do, ReplaceAll, Delete, Remove, InsertBefore, InsertAfter, Cut as CutOut, Copy, Paste, Text, TypeIn, Erase, Enter, Abandon, Alternate, Elide, Undo, Redo, View, Save, SaveText}
use Rattle.sg_script.specs.Forms.{is_name, is_view_name, is_file_name}

-- a text between quotes, with the escapes
abbrev pub escaped : List ℕ → List ℕ
escaped [] = []
escaped (b ∷ text) =
    if b == newline then backslash ∷ letter_n ∷ escaped text
    else (if b == double_quote || b == backslash then backslash ∷ b ∷ escaped text else b ∷ escaped text)

abbrev pub string_of : List ℕ → List ℕ
string_of text = double_quote ∷ escaped text ++ double_quote ∷ []

-- the line that spells a command
abbrev pub line_of : Command → List ℕ
line_of (New buffer) = codes "new " ++ buffer
line_of (Load buffer file) = codes "load " ++ buffer ++ space ∷ file
line_of (Switch buffer) = codes "switch " ++ buffer
line_of Show = codes "show"
line_of Next = codes "next"
line_of Prev = codes "prev"
line_of Up = codes "up"
line_of First = codes "first"
line_of Sibling = codes "sibling"
line_of (Goto line column) = codes "goto " ++ decimal line ++ space ∷ decimal column
line_of Extend = codes "extend"
line_of Shrink = codes "shrink"
line_of (Find text) = codes "find " ++ string_of text
line_of (Do text) = codes "do " ++ string_of text
line_of (ReplaceAll text) = codes "replace-all " ++ string_of text
line_of Delete = codes "delete"
line_of Remove = codes "remove"
line_of InsertBefore = codes "insert-before"
line_of InsertAfter = codes "insert-after"
line_of CutOut = codes "cut"
line_of Copy = codes "copy"
line_of Paste = codes "paste"
line_of (Text text) = codes "text " ++ string_of text
line_of (TypeIn text) = codes "type " ++ string_of text
line_of Erase = codes "erase"
line_of Enter = codes "enter"
line_of Abandon = codes "abandon"
line_of Alternate = codes "alternate"
line_of Elide = codes "elide"
line_of Undo = codes "undo"
line_of Redo = codes "redo"
line_of (View None) = codes "view"
line_of (View (Some view)) = codes "view " ++ view
line_of (Save file) = codes "save " ++ file
line_of (SaveText file) = codes "save-text " ++ file

-- whether its words have their forms: a line and a column are from 1 on and have at most nine digits, and a string
-- holds no carriage return
abbrev pub is_position : ℕ → Bool
is_position n = nat_lt 0 n && nat_lt n 1000000000

abbrev pub is_text : List ℕ → Bool
is_text text = list_all (λ b. not (b == carriage_return)) text

abbrev pub has_forms : Command → Bool
has_forms (New buffer) = is_name buffer
has_forms (Load buffer file) = is_name buffer && is_file_name file
has_forms (Switch buffer) = is_name buffer
has_forms (Goto line column) = is_position line && is_position column
has_forms (Find text) = is_text text
has_forms (Do text) = is_text text
has_forms (ReplaceAll text) = is_text text
has_forms (Text text) = is_text text
has_forms (TypeIn text) = is_text text
has_forms (View (Some view)) = is_view_name view
has_forms (Save file) = is_file_name file
has_forms (SaveText file) = is_file_name file
has_forms _ = true

-- the lines that spell commands, joined by newlines
abbrev pub text_of : List Command → List ℕ
text_of commands = join_with_byte newline (map line_of commands)

-- whether they are a script: their words have their forms, and they are within the limits
abbrev pub is_script : List Command → Bool
is_script commands =
    list_all has_forms commands && nat_le (length commands) 10000 && nat_le (length (text_of commands)) 1048576
