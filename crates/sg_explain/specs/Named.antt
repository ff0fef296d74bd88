-- What is told of the names of a text with declarations.
use Rattle.std.specs.Prelude.{◌≡◌, ℕ, List, [], ◌++◌, Option, Some, None, Result, Ok, Err}
use Rattle.sg_kinds.specs.Values.{Bytes}
use Rattle.sg_kinds.specs.declared.fault.Position.{Position}
use Rattle.sg_kinds.specs.declared.fault.SpecFault.{SpecFault}
use Rattle.sg_ast.specs.Declarations.{Decl}
use Rattle.sg_known.specs.Known.{first_lines, meaning_lines}
use Rattle.sg_known.specs.Signatures.{signature_lines}
use Rattle.sg_load.specs.Trees.{trees_in}
use Rattle.sg_nearby.specs.Nearby.{near_text}
use Rattle.sg_unenclosed.specs.Unenclosed.{TellsBare}

-- of an unknown name that begins at a byte what is declared under it, and which near names are known there
abbrev pub unknown_in : Bytes → Option ℕ → Position → Bytes → Result (List Decl) SpecFault → Bytes
unknown_in bytes (Some at) place name (Ok ds) = meaning_lines ds name ++ near_text bytes at place.token name
unknown_in bytes at place name trees = []

-- of a second definition the first one
abbrev pub first_in : Position → Result (List Decl) SpecFault → Bytes
first_in place (Ok ds) = first_lines ds place
first_in place (Err f) = []

-- the operators and functions of a name
abbrev pub signatures_in : Bytes → Result (List Decl) SpecFault → Bytes
signatures_in name (Ok ds) = signature_lines ds name
signatures_in name (Err f) = []

-- of a reference to enclosing nodes a chain of operators without them
pub record TellsBareIn (bytes : Bytes) (place : Position) (text : Bytes) : Type 0 where
  pub trees : List Decl
  pub read : trees_in bytes ≡ Ok trees
  pub told : TellsBare trees place text
