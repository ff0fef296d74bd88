-- Where the patterns of lexeme phyla stand, and the first of them in the text.
use Rattle.std.specs.Prelude.{◌≡◌, ◌≤◌, ℕ, List, map, flat_map, Some, slice_get}
use Rattle.sg_kinds.specs.declared.fault.Position.{Position}
use Rattle.sg_ast.specs.declared.name.Name.{Name}
use Rattle.sg_ast.specs.declared.name.Quoted.{Quoted}
use Rattle.sg_ast.specs.Declarations.{Decl, LexemeOf}
use Rattle.sg_ast.specs.Parts.{lexeme_text}

abbrev pub pattern_places : List Decl → List Position
pattern_places ds = map (λ (s : Quoted). s.place) (flat_map lexeme_text ds)

-- no pattern that is at fault stands before this place
abbrev pub IsFirstPattern : (Decl → Type 0) → List Decl → Position → Type 0
IsFirstPattern IsAtFault ds p = (k : ℕ) (n : Name) (s : Quoted)
    → slice_get ds k ≡ Some (LexemeOf n s) → IsAtFault (LexemeOf n s) → p.token ≤ s.place.token
