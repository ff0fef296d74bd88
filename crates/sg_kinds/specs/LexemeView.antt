-- The lexeme patterns of the code, as those of the definitions.
use Rattle.std.specs.Prelude.{List, [], map}
use Rattle.sg_kinds.specs.Lexemes.{Lexeme}
use Rattle.sg_kinds.specs.LexemeCode.{Instruction, nothing, byte, dot, class, then, either, many, several, maybe, acts, first_of}
use Rattle.sg_kinds.specs.declared.lexeme.LexemeStep.{LexemeStep}
use Rattle.sg_kinds.specs.declared.lexeme.LexemeStep.TheVariants.{Nothing, Byte, Dot, Class, Then, Either, Many, Several, Maybe}

abbrev pub instruction_of : LexemeStep → Instruction
instruction_of Nothing = nothing
instruction_of (Byte b) = byte b
instruction_of Dot = dot
instruction_of (Class negated ranges) = class negated ranges
instruction_of Then = then
instruction_of Either = either
instruction_of Many = many
instruction_of Several = several
instruction_of Maybe = maybe

-- the pattern that the steps make
abbrev pub lexeme_of : List LexemeStep → Lexeme
lexeme_of steps = first_of (acts (map instruction_of steps) [])
