-- The trees of a text's declarations, or the fault that leaves it without trees.
use Rattle.std.specs.Prelude.{ℕ, if◌then◌else◌, nat_lt, List, length, Result, Ok, Err}
use Rattle.sg_text.specs.declared.tokens.Token.{Token}
use Rattle.sg_text.specs.declared.tokens.LexFault.{LexFault}
use Rattle.sg_text.specs.declared.tokens.LexFault.TheVariants as token
use Rattle.sg_text.specs.Lines.{line_at}
use Rattle.sg_text.specs.Tokens.{tokens_of}
use Rattle.sg_kinds.specs.Values.{Bytes}
use Rattle.sg_kinds.specs.declared.fault.SpecFault.{SpecFault}
use Rattle.sg_kinds.specs.declared.fault.SpecFault.TheVariants.{TooLong, Byte, Unclosed, LongNumber, LongName, Syntax, NoMemory}
use Rattle.sg_ast.specs.Declarations.{Decl}
use Rattle.sg_ast.specs.Spells.{declarations}
use Rattle.sg_reader.specs.EachRead.{read_from}

-- the fault of the first place where no token stands, by its line
abbrev pub token_fault : Bytes → LexFault → SpecFault
token_fault bytes (token.Byte place) = Byte (line_at bytes place)
token_fault bytes (token.Unclosed place) = Unclosed (line_at bytes place)
token_fault bytes (token.LongNumber place) = LongNumber (line_at bytes place)
token_fault bytes (token.LongName place) = LongName (line_at bytes place)
token_fault bytes token.NoMemory = NoMemory

-- the trees, or the fault of the first declaration that no tree spells, by the line of its first token
abbrev pub read_trees : Result (List Decl) (ℕ × ℕ) → Result (List Decl) SpecFault
read_trees (Ok ds) = Ok ds
read_trees (Err e) = Err (Syntax e.1)

abbrev pub trees_with : Bytes → Result (List Token) LexFault → Result (List Decl) SpecFault
trees_with bytes (Ok tokens) = read_trees (read_from 0 (declarations bytes tokens))
trees_with bytes (Err fault) = Err (token_fault bytes fault)

unfoldable pub trees_in : Bytes → Result (List Decl) SpecFault
trees_in bytes = if nat_lt 1048576 (length bytes) then Err TooLong else trees_with bytes (tokens_of bytes)
