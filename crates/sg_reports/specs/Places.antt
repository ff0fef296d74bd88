-- The places that faults of tables and of ordering print.
use Rattle.std.specs.Prelude.{ℕ, List, [], ◌∷◌, ◌++◌, map, flat_map, slice_index_or}
use Rattle.sg_kinds.specs.declared.fault.Position.{Position}
use Rattle.sg_kinds.specs.declared.spec.Spec.{Spec}
use Rattle.sg_kinds.specs.Instances.{below}
use Rattle.sg_prec.specs.Levels.{named_over, lines_of}
use Rattle.sg_ast.specs.Declarations.{Decl, Right, Precedence, Productions, Entry}
use Rattle.sg_ast.specs.Parts.{nowhere, op_places_at}

-- the place at a number
abbrev pub place_in : List Position → ℕ → Position
place_in places k = slice_index_or places k nowhere

-- each production at its `(`
abbrev pub rights_at : Decl → List Position
rights_at (Productions n rights) = map (λ (r : Right). r.place) rights
rights_at d = []

-- an entry at the name of its phylum
abbrev pub entries_at : Decl → List Position
entries_at (Entry p n a) = p.place ∷ []
entries_at d = []

-- the operators in their order
abbrev pub operator_places : List Decl → List Position
operator_places ds = flat_map op_places_at ds

-- a precedence line at its first word
abbrev pub line_at : Decl → List Position
line_at (Precedence g literals p) = p ∷ []
line_at d = []

abbrev pub line_places : List Decl → List Position
line_places ds = flat_map line_at ds

-- the lines of the steps from level to level, in the order of the steps
abbrev pub chain_lines : Spec → List ℕ
chain_lines spec = flat_map (lines_of spec.levels spec.productions) (below (named_over spec.productions))

-- the productions of the spread grammar in their order, a step at its line, and behind them the start productions
abbrev pub production_places : Spec → List Decl → List Position
production_places spec ds = flat_map rights_at ds
    ++ (map (place_in (line_places ds)) (chain_lines spec) ++ flat_map entries_at ds)
