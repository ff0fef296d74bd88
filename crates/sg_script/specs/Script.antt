-- The commands of a script, or why it is none.
use Rattle.std.specs.Prelude.{ℕ, ◌+◌, nat_lt, Bool, true, false, ◌==◌, if◌then◌else◌, List, [], ◌∷◌, length, flat_map, Option, Some, None, option_map, Result, Ok, Err}
use Rattle.std.specs.Option.{option_map_or}
use Rattle.std.specs.Str.Lines.{lines}
use Rattle.sg_script.specs.declared.command.Command as declared
use Rattle.sg_script.specs.declared.fault.ScriptFault.{ScriptFault}
use Rattle.sg_script.specs.declared.fault.ScriptFault.TheVariants.{Long, Line, Many}
use Rattle.sg_script.specs.declared.lines.Said.{Said}
use Rattle.sg_script.specs.declared.lines.Said.TheVariants.{Nothing, Command, Unknown}
use Rattle.sg_script.specs.Commands.{command_of}

-- a text without a newline is one line, or none where it is empty
abbrev pub last_line : List ℕ → List (List ℕ)
last_line bytes = if length bytes == 0 then [] else bytes ∷ []

-- a line says nothing where it is empty, and where it begins with #
abbrev pub says_nothing : List ℕ → Bool
says_nothing [] = true
says_nothing (b ∷ line) = b == 35

-- what a line says: nothing, a command, or what is no command
unfoldable pub meaning_of : List ℕ → Said
meaning_of line = if says_nothing line then Nothing else option_map_or Command (command_of line) Unknown

-- the commands of lines
abbrev pub commands_said : Said → List declared.Command
commands_said (Command c) = c ∷ []
commands_said _ = []

abbrev pub commands_in : List (List ℕ) → List declared.Command
commands_in lines = flat_map (λ line. commands_said (meaning_of line)) lines

-- the number of the first line that is no command, where the first of these lines has the number n
abbrev pub is_unknown : Said → Bool
is_unknown Unknown = true
is_unknown _ = false

abbrev pub bad_line : ℕ → List (List ℕ) → Option ℕ
bad_line n [] = None
bad_line n (line ∷ lines) = if is_unknown (meaning_of line) then Some n else bad_line (n + 1) lines

abbrev pub fault_in : List (List ℕ) → Option ScriptFault
fault_in lines = option_map Line (bad_line 1 lines)

-- at most 10,000 commands, where no line is bad
abbrev pub verdict : Option ScriptFault → List declared.Command → Result (List declared.Command) ScriptFault
verdict (Some fault) commands = Err fault
verdict None commands = if nat_lt 10000 (length commands) then Err (Many (length commands)) else Ok commands

-- a script has at most 1,048,576 bytes. Its lines end with a newline, or with a carriage return and a newline
unfoldable pub script_of : List ℕ → Result (List declared.Command) ScriptFault
script_of bytes =
    if nat_lt 1048576 (length bytes) then Err Long else verdict (fault_in (lines bytes)) (commands_in (lines bytes))
