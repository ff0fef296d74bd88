-- The declarations of lexeme phyla.
use Rattle.std.specs.Prelude.{ℕ, List, length, flat_map}
use Rattle.sg_ast.specs.Declarations.{Decl}
use Rattle.sg_ast.specs.Parts.{lexeme_text}

-- how many lexeme phyla are declared
abbrev pub lexeme_count : List Decl → ℕ
lexeme_count ds = length (flat_map lexeme_text ds)
