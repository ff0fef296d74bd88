-- The operators and functions of a name, as they are told.
use Rattle.std.specs.Prelude.{ℕ, if◌then◌else◌, bytes_eq, List, [], ◌∷◌, ◌++◌, flat_map, codes}
use Rattle.std.specs.Fmt.{decimal}
use Rattle.sg_kinds.specs.Values.{Bytes}
use Rattle.sg_ast.specs.declared.name.Name.{Name}
use Rattle.sg_ast.specs.declared.name.Typed.{Typed}
use Rattle.sg_ast.specs.declared.decl.Alt.{Alt}
use Rattle.sg_ast.specs.Declarations as decl
use Rattle.sg_ast.specs.Declarations.{Decl}
use Rattle.sg_ast.specs.Expressions.{Expr}

-- the type of a part
abbrev pub arg_text : Name → Bytes
arg_text of = of.text ++ 32 ∷ []

abbrev pub param_text : Typed → Bytes
param_text p = arg_text p.of

-- a line begins with a name, and ends with its type and the line of the name
abbrev pub signature_begin : Bytes → Bytes
signature_begin name = codes "  " ++ (name ++ codes " : ")

abbrev pub signature_end : Name → ℕ → Bytes
signature_end of line = codes "-> " ++ (of.text ++ (codes ", line " ++ (decimal line ++ 10 ∷ [])))

-- an operator of a phylum, or a function, if it has this name
abbrev pub alt_text : Bytes → Name → Alt → Bytes
alt_text name p a = if bytes_eq name a.name.text
    then signature_begin name ++ (flat_map arg_text a.args ++ signature_end p a.name.place.line) else []

abbrev pub function_text : Bytes → Name → Name → List Typed → Bytes
function_text name t n params = if bytes_eq name n.text
    then signature_begin name ++ (flat_map param_text params ++ signature_end t n.place.line) else []

abbrev pub signature_of : Bytes → Decl → Bytes
signature_of name (decl.Operators p alts) = flat_map (alt_text name p) alts
signature_of name (decl.Function t n params e) = function_text name t n params
signature_of name d = []

-- a builtin stands in no text
abbrev pub builtin_text : Bytes → Bytes
builtin_text name =
    if bytes_eq name (codes "STRtoINT") then codes "  STRtoINT : STR -> INT" ++ 10 ∷ []
    else if bytes_eq name (codes "INTtoSTR") then codes "  INTtoSTR : INT -> STR" ++ 10 ∷ []
    else if bytes_eq name (codes "STRlen") then codes "  STRlen : STR -> INT" ++ 10 ∷ []
    else []

-- all of this name
abbrev pub signature_lines : List Decl → Bytes → Bytes
signature_lines ds name = builtin_text name ++ flat_map (signature_of name) ds
