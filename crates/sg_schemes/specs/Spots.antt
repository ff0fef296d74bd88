-- What the rows of schemes go along, spot by spot in the order of the text, and the first of them there.
use Rattle.std.specs.Prelude.{◌≡◌, ℕ, ◌≤◌, List, [], ◌∷◌, map, flat_map, Option, Some, None, slice_get}
use Rattle.std.specs.List.{AllByRecursion}
use Rattle.sg_kinds.specs.declared.spec.Operator.{Operator}
use Rattle.sg_kinds.specs.declared.fault.Position.{Position}
use Rattle.sg_kinds.specs.declared.fault.SpecFault.{SpecFault}
use Rattle.sg_kinds.specs.declared.fault.SpecFault.TheVariants.{NoScheme, SchemeKids, SchemeText}
use Rattle.sg_ast.specs.declared.name.Quoted.{Quoted}
use Rattle.sg_ast.specs.declared.decl.Item.{Item}
use Rattle.sg_ast.specs.declared.decl.Item.TheVariants.{Writes, Separates}
use Rattle.sg_ast.specs.declared.decl.SchemeDecl.{SchemeDecl}
use Rattle.sg_ast.specs.Declarations.{Decl, Schemes}
use Rattle.sg_names.specs.declared.table.Table.{Table}
use Rattle.sg_schemes.specs.NoScheme.{LacksScheme}

-- each scheme as a declaration of its own
abbrev pub each_scheme : Decl → List Decl
each_scheme (Schemes p op view schemes) = map (λ s. Schemes p op view (s ∷ [])) schemes
each_scheme d = []

-- the schemes of a declaration, each at its first token
abbrev pub scheme_places : Decl → List Position
scheme_places (Schemes p op view schemes) = map (λ (s : SchemeDecl). s.place) schemes
scheme_places d = []

-- the strings of schemes, those of separators too
abbrev pub item_strings : Item → List Quoted
item_strings (Writes s) = s ∷ []
item_strings (Separates strings) = strings
item_strings item = []

abbrev pub scheme_strings : SchemeDecl → List Quoted
scheme_strings s = flat_map item_strings s.items

abbrev pub strings_at : Decl → List Quoted
strings_at (Schemes p op view schemes) = flat_map scheme_strings schemes
strings_at d = []

-- where the fault of a spot stands
abbrev pub fault_place : Option SpecFault → Option Position
fault_place (Some (NoScheme place n)) = Some place
fault_place (Some (SchemeKids place n)) = Some place
fault_place (Some (SchemeText place)) = Some place
fault_place f = None

-- no spot has a fault before this place
abbrev pub IsFirst : {X : Type 0} → (X → Option Position) → List X → Position → Type 0
IsFirst at xs p = AllByRecursion (λ x. (q : Position) → at x ≡ Some q → p.token ≤ q.token) xs

-- no operator that lacks a scheme stands before this place
abbrev pub IsFirstWithout : Table → List Decl → Position → Type 0
IsFirstWithout t ds p = (k : ℕ) (o : Operator) (q : Position)
    → LacksScheme t ds k o → slice_get t.op_places k ≡ Some q → p.token ≤ q.token
