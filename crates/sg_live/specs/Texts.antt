-- What is written besides blocks
use Rattle.std.specs.Prelude.{ℕ, Bool, ◌||◌, List, [], ◌∷◌, ◌++◌, flat_map, bytes_eq, codes}
use Rattle.sg_text.specs.Bytes.{newline, carriage_return, space}
use Rattle.sg_script.specs.Spelled.{string_of}

-- where the words are no job; where the input cannot be read
abbrev pub usage_text : List ℕ
usage_text = codes "usage: ssled_live SPEC [W H]" ++ newline ∷ []

abbrev pub read_fault_input_text : List ℕ
read_fault_input_text = codes "read fault input" ++ newline ∷ []

-- the answers to a line: it is no command; it is too long; memory was wanting to read it or to do it; memory was wanting
-- for its block
abbrev pub no_command_text : List ℕ
no_command_text = codes "! no command" ++ newline ∷ []

abbrev pub long_line_text : List ℕ
long_line_text = codes "! long line" ++ newline ∷ []

abbrev pub no_memory_text : List ℕ
no_memory_text = codes "! no memory" ++ newline ∷ []

abbrev pub not_shown_text : List ℕ
not_shown_text = codes "! not shown" ++ newline ∷ []

-- whether a line asks which transformations apply
abbrev pub question : List ℕ
question = codes "?do"

abbrev pub is_question : List ℕ → Bool
is_question line = bytes_eq line question || bytes_eq line (question ++ newline ∷ [])
    || bytes_eq line (question ++ carriage_return ∷ newline ∷ [])

-- the answer: their names, each as `do` wants it
abbrev pub offers_text : List (List ℕ) → List ℕ
offers_text names = codes "! do" ++ flat_map (λ name. space ∷ string_of name) names ++ newline ∷ []
