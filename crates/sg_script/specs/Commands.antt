-- The commands by their words.
use Rattle.std.specs.Prelude.{ℕ, Bool, List, [], ◌∷◌, Option, Some, None, option_map, option_and_then, codes, bytes_eq, if◌then◌else◌}
use Rattle.std.specs.Map.{lookup}
use Rattle.sg_text.specs.Strings.{unescaped}
use Rattle.sg_script.specs.declared.command.Command.{Command}
use Rattle.sg_script.specs.declared.command.Command.TheVariants as command
use Rattle.sg_script.specs.Words.{word_at, next_word, is_end, last_word, last_string}
use Rattle.sg_script.specs.Forms.{name_of, view_name_of, file_name_of, count_of}

-- the one word or the one string that stands behind the command's own
abbrev pub one_name : List ℕ → Option (List ℕ)
one_name rest = option_and_then name_of (last_word rest)

abbrev pub one_view : List ℕ → Option (List ℕ)
one_view rest = option_and_then view_name_of (last_word rest)

abbrev pub one_file : List ℕ → Option (List ℕ)
one_file rest = option_and_then file_name_of (last_word rest)

abbrev pub one_count : List ℕ → Option ℕ
one_count rest = option_and_then count_of (last_word rest)

abbrev pub one_string : List ℕ → Option (List ℕ)
one_string rest = option_map unescaped (last_string rest)

-- how the rest of a line is read: nothing more; the name of a buffer; that of a file; a string
abbrev pub alone : Command → List ℕ → Option Command
alone c rest = if is_end rest then Some c else None

abbrev pub named : (List ℕ → Command) → List ℕ → Option Command
named make rest = option_map make (one_name rest)

abbrev pub filed : (List ℕ → Command) → List ℕ → Option Command
filed make rest = option_map make (one_file rest)

abbrev pub quoted : (List ℕ → Command) → List ℕ → Option Command
quoted make rest = option_map make (one_string rest)

-- the name of a buffer, then that of a file
abbrev pub loaded : List ℕ → Option Command
loaded rest =
    option_and_then (λ c. option_and_then (λ name. option_map (command.Load name) (one_file c.1)) (name_of c.0))
    (next_word rest)

-- a line, then a column
abbrev pub placed : List ℕ → Option Command
placed rest =
    option_and_then (λ c. option_and_then (λ line. option_map (command.Goto line) (one_count c.1)) (count_of c.0))
    (next_word rest)

-- nothing more, or the name of a view
abbrev pub viewed : List ℕ → Option Command
viewed rest =
    if is_end rest then Some (command.View None) else option_map (λ name. command.View (Some name)) (one_view rest)

-- a row of the table of commands: the word of one, and how the rest of its line is read
abbrev pub Row : Type 0
Row = List ℕ × (List ℕ → Option Command)

-- the table: texts, the way back, views and files; before them what an edit is; before these buffers and moves
unfoldable pub text_rows : List Row
text_rows =
    (codes "text", quoted command.Text)
    ∷ (codes "type", quoted command.TypeIn)
    ∷ (codes "erase", alone command.Erase)
    ∷ (codes "enter", alone command.Enter)
    ∷ (codes "abandon", alone command.Abandon)
    ∷ (codes "alternate", alone command.Alternate)
    ∷ (codes "elide", alone command.Elide)
    ∷ (codes "undo", alone command.Undo)
    ∷ (codes "redo", alone command.Redo)
    ∷ (codes "view", viewed)
    ∷ (codes "save", filed command.Save)
    ∷ (codes "save-text", filed command.SaveText)
    ∷ []

unfoldable pub edit_rows : List Row
edit_rows =
    (codes "extend", alone command.Extend)
    ∷ (codes "shrink", alone command.Shrink)
    ∷ (codes "find", quoted command.Find)
    ∷ (codes "do", quoted command.Do)
    ∷ (codes "replace-all", quoted command.ReplaceAll)
    ∷ (codes "delete", alone command.Delete)
    ∷ (codes "remove", alone command.Remove)
    ∷ (codes "insert-before", alone command.InsertBefore)
    ∷ (codes "insert-after", alone command.InsertAfter)
    ∷ (codes "cut", alone command.Cut)
    ∷ (codes "copy", alone command.Copy)
    ∷ (codes "paste", alone command.Paste)
    ∷ text_rows

unfoldable pub rows : List Row
rows =
    (codes "new", named command.New)
    ∷ (codes "load", loaded)
    ∷ (codes "switch", named command.Switch)
    ∷ (codes "show", alone command.Show)
    ∷ (codes "next", alone command.Next)
    ∷ (codes "prev", alone command.Prev)
    ∷ (codes "up", alone command.Up)
    ∷ (codes "first", alone command.First)
    ∷ (codes "sibling", alone command.Sibling)
    ∷ (codes "goto", placed)
    ∷ edit_rows

-- whether a row's word is this one
unfoldable pub is_word : List ℕ → List ℕ → Bool
is_word name word = bytes_eq name word

-- how the row of a word reads the rest of a line
abbrev pub read_by : List Row → List ℕ → List ℕ → Option Command
read_by rows word rest =
    option_and_then (λ (read : List ℕ → Option Command). read rest) (lookup (λ name. is_word name word) rows)

-- the command of a line
unfoldable pub command_of : List ℕ → Option Command
command_of line = read_by rows (word_at line).0 (word_at line).1
