-- Parts of declarations, and where they stand.
use Rattle.std.specs.Prelude.{bytes_eq, if◌then◌else◌, List, [], ◌∷◌, map, Option, Some, None, unwrap_or}
use Rattle.sg_kinds.specs.Values.{Bytes}
use Rattle.sg_kinds.specs.declared.fault.Position.{Position}
use Rattle.sg_ast.specs.declared.name.Quoted.{Quoted}
use Rattle.sg_ast.specs.declared.decl.Alt.{Alt}
use Rattle.sg_ast.specs.declared.decl.Target.{Target}
use Rattle.sg_ast.specs.declared.decl.Target.TheVariants as target
use Rattle.sg_ast.specs.Chains.{occurrence_place}
use Rattle.sg_ast.specs.Declarations.{Decl, Operators, LexemeOf, Productions}
use Rattle.sg_ast.specs.FirstFault.{first}

-- the text of a lexeme phylum's pattern
abbrev pub lexeme_text : Decl → List Quoted
lexeme_text (LexemeOf n s) = s ∷ []
lexeme_text d = []

-- each operator at its name
abbrev pub op_places_at : Decl → List Position
op_places_at (Operators n alts) = map (λ (a : Alt). a.name.place) alts
op_places_at d = []

-- the first token of what an equation defines or a scheme shows
abbrev pub target_place : Target → Position
target_place (target.Attribute r) = occurrence_place r.of
target_place (target.Local n) = n.place

-- where what is not there stands
abbrev pub nowhere : Position
nowhere = record { token = 0; line = 0 }

-- the first declaration of productions of a nonterminal, at the nonterminal
abbrev pub head_at : Bytes → Decl → Option Position
head_at name (Productions n rights) = if bytes_eq n.text name then Some n.place else None
head_at name d = None

abbrev pub head_place : Bytes → List Decl → Position
head_place name ds = unwrap_or (first (head_at name) ds) nowhere
