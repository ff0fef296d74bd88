-- What the scanner hands to the parser.
use Rattle.sg_kinds.specs.Values.{Bytes}
use Rattle.sg_kinds.specs.Specification.{Symbol}

-- a literal or a lexeme of the text
pub record InputPiece : Type 0 where
  pub terminal : Symbol
  pub text : Bytes
