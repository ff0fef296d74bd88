-- The first string of a scheme in which `%` stands before another byte than `n`, `t`, `b`, `%`, or at its end.
use Rattle.std.specs.Prelude.{List, if◌then◌else◌, Option, Some, None, is_some}
use Rattle.sg_kinds.specs.Pieces.{pieces_of}
use Rattle.sg_kinds.specs.declared.fault.SpecFault.{SpecFault}
use Rattle.sg_kinds.specs.declared.fault.SpecFault.TheVariants as fault
use Rattle.sg_ast.specs.declared.name.Quoted.{Quoted}
use Rattle.sg_ast.specs.declared.decl.Item.{Item}
use Rattle.sg_ast.specs.declared.decl.Item.TheVariants.{Writes, Separates}
use Rattle.sg_ast.specs.declared.decl.SchemeDecl.{SchemeDecl}
use Rattle.sg_ast.specs.Declarations.{Decl, Schemes}
use Rattle.sg_ast.specs.FirstFault.{first}

-- the fault of a string: it has no pieces
abbrev pub string_fault : Quoted → Option SpecFault
string_fault s = if is_some (pieces_of s.text) then None else Some (fault.SchemeText s.place)

-- the first fault of a scheme's strings, those of separators too
abbrev pub item_fault : Item → Option SpecFault
item_fault (Writes s) = string_fault s
item_fault (Separates strings) = first string_fault strings
item_fault item = None

abbrev pub scheme_fault : SchemeDecl → Option SpecFault
scheme_fault s = first item_fault s.items

abbrev pub decl_fault : Decl → Option SpecFault
decl_fault (Schemes p op view schemes) = first scheme_fault schemes
decl_fault d = None

-- the first of all
abbrev pub scheme_text : List Decl → Option SpecFault
scheme_text ds = first decl_fault ds
