-- Which equation of the same stands first.
use Rattle.std.specs.Prelude.{Bool, List, [], ◌∷◌, ◌++◌, filter, nat_eq, Result, Ok, Err, codes}
use Rattle.sg_kinds.specs.Values.{Bytes}
use Rattle.sg_kinds.specs.declared.fault.Position.{Position}
use Rattle.sg_kinds.specs.declared.fault.SpecFault.{SpecFault}
use Rattle.sg_ast.specs.Declarations.{Decl}
use Rattle.sg_names.specs.Names.{names_of}
use Rattle.sg_equations.specs.Complete.{is_same_target}
use Rattle.sg_equations.specs.Targets.{defined_in}
use Rattle.sg_equations.specs.declared.targets.Defined.{Defined}
use Rattle.sg_faults.specs.FaultLine.{line_text}

-- the line of the first of some equations
abbrev pub head_text : List Defined → Bytes
head_text [] = []
head_text (d ∷ ds) = codes "  the first equation of it," ++ (line_text d.place.line ++ 10 ∷ [])

-- that of the first which defines what the first of these does
abbrev pub first_text : List Defined → List Defined → Bytes
first_text defs [] = []
first_text defs (d ∷ there) = head_text (filter (is_same_target d) defs)

abbrev pub is_there : Position → Defined → Bool
is_there place d = nat_eq d.place.token place.token

-- that of the first which defines what the one at a place does
abbrev pub firsts : Position → List Defined → Bytes
firsts place defs = first_text defs (filter (is_there place) defs)

-- the same of the declarations of a text
abbrev pub text_first : Position → Result (List Decl) SpecFault → Bytes
text_first place (Ok ds) = firsts place (defined_in (names_of ds) ds)
text_first place (Err f) = []
