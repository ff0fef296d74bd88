-- The counts of a specification that are over their limits.
use Rattle.std.specs.Prelude.{◌≡◌, ℕ, Bool, true, false, not, ◌&&◌, List, [], ◌∷◌, map, length, filter, flat_map, count_by, bytes_eq, Option, Some, option_map}
use Rattle.std.specs.List.{list_any}
use Rattle.sg_kinds.specs.Values.{Bytes}
use Rattle.sg_kinds.specs.Sound.{base_names}
use Rattle.sg_kinds.specs.declared.fault.Counted.{Counted}
use Rattle.sg_kinds.specs.declared.fault.Counted.TheVariants as counted
use Rattle.sg_kinds.specs.declared.fault.SpecFault.{SpecFault}
use Rattle.sg_kinds.specs.declared.fault.SpecFault.TheVariants as fault
use Rattle.sg_kinds.specs.declared.fault.Position.{Position}
use Rattle.sg_ast.specs.declared.name.Typed.{Typed}
use Rattle.sg_ast.specs.declared.decl.Alt.{Alt}
use Rattle.sg_ast.specs.declared.decl.AttrDecl.{AttrDecl}
use Rattle.sg_ast.specs.Declarations.{Decl, Right, Operators, LexemeOf, Attributes, Equations, Schemes, Function, Transform, Productions}
use Rattle.sg_ast.specs.FirstFault.{first, over}
use Rattle.sg_ast.specs.Rising.{places_of, SomeOf}
use Rattle.sg_counts.specs.Crowds.{different, crowd}

-- the phylum that a declaration defines, if it is no base phylum
abbrev pub is_base : Bytes → Bool
is_base n = list_any (bytes_eq n) base_names

abbrev pub phyla_of : Decl → List Bytes
phyla_of (Operators p alts) = filter (λ n. not (is_base n)) (p.text ∷ [])
phyla_of (LexemeOf p s) = filter (λ n. not (is_base n)) (p.text ∷ [])
phyla_of d = []

-- how many arguments each of its operators has
abbrev pub arities_of : Decl → List ℕ
arities_of (Operators p alts) = map (λ (a : Alt). length a.args) alts
arities_of d = []

-- the owner of each of its attributes: a phylum or nonterminal
abbrev pub attributes_of : Decl → List Bytes
attributes_of (Attributes p attrs) = map (λ _. p.text) attrs
attributes_of d = []

-- the owner of each of its locals: an operator of a phylum
abbrev pub locals_of : Decl → List (Bytes × Bytes)
locals_of (Equations p op locals equations) = map (λ _. (p.text, op.text)) locals
locals_of d = []

-- how many parameters the function has, how many schemes stand in it, and how many symbols each production has
abbrev pub parameters_of : Decl → List ℕ
parameters_of (Function t n params e) = length params ∷ []
parameters_of d = []

abbrev pub schemes_of : Decl → List ℕ
schemes_of (Schemes p op view schemes) = length schemes ∷ []
schemes_of d = []

abbrev pub symbols_of : Decl → List ℕ
symbols_of (Productions n rights) = map (λ (r : Right). length r.parts) rights
symbols_of d = []

-- the view that it names
abbrev pub views_in : Decl → List Bytes
views_in (Schemes p op (Some v) schemes) = v.text ∷ []
views_in d = []

abbrev pub is_transform : Decl → Bool
is_transform (Transform p title q e) = true
is_transform d = false

-- two operators are one where their phyla and their names are
abbrev pub is_same_operator : Bytes × Bytes → Bytes × Bytes → Bool
is_same_operator a b = bytes_eq a.0 b.0 && bytes_eq a.1 b.1

-- the counts over their limits, in the order in which they are tested. Repeated names count, but for phyla and views.
-- Attributes and locals add up over the declarations of their owner; the owner that is first over the limit counts
-- whole
abbrev pub counts_over : List Decl → List (Counted × Option ℕ)
counts_over ds =
    (counted.Phyla, over 512 (length (different bytes_eq (flat_map phyla_of ds))))
    ∷ (counted.Operators, over 2048 (length (flat_map arities_of ds)))
    ∷ (counted.Arity, first (over 16) (flat_map arities_of ds))
    ∷ (counted.Attributes, crowd bytes_eq 32 (flat_map attributes_of ds))
    ∷ (counted.Locals, crowd is_same_operator 32 (flat_map locals_of ds))
    ∷ (counted.Functions, over 1024 (length (flat_map parameters_of ds)))
    ∷ (counted.Parameters, first (over 16) (flat_map parameters_of ds))
    ∷ (counted.Transforms, over 1024 (count_by is_transform ds))
    ∷ (counted.Schemes, first (over 16) (flat_map schemes_of ds))
    ∷ (counted.Productions, over 1024 (length (flat_map symbols_of ds)))
    ∷ (counted.Symbols, first (over 16) (flat_map symbols_of ds))
    ∷ (counted.Views, over 16 (length (different bytes_eq (flat_map views_in ds))))
    ∷ []

-- where the things stand that counts go along: attributes, locals, the names of functions, the operators of schemes,
-- productions, the names of views
abbrev pub attribute_places : Decl → List Position
attribute_places (Attributes p attrs) = map (λ (a : AttrDecl). a.name.place) attrs
attribute_places d = []

abbrev pub local_places : Decl → List Position
local_places (Equations p op locals equations) = map (λ (l : Typed). l.name.place) locals
local_places d = []

abbrev pub parameter_places : Decl → List Position
parameter_places (Function t n params e) = n.place ∷ []
parameter_places d = []

abbrev pub scheme_places : Decl → List Position
scheme_places (Schemes p op view schemes) = op.place ∷ []
scheme_places d = []

abbrev pub symbol_places : Decl → List Position
symbol_places (Productions n rights) = map (λ (r : Right). r.place) rights
symbol_places d = []

abbrev pub view_places : Decl → List Position
view_places (Schemes p op (Some v) schemes) = v.place ∷ []
view_places d = []

-- a count goes along things one at each place, in the order of the text
pub record GoesAlong {X : Type 0} (things : Decl → List X) (places : Decl → List Position) : Type 0 where
  pub one_each : (d : Decl) → length (things d) ≡ length (places d)
  pub in_order : (ds : List Decl) → SomeOf (flat_map places ds) (flat_map places_of ds)

abbrev pub limit_fault : Counted × Option ℕ → Option SpecFault
limit_fault c = option_map (fault.Limit c.0) c.1

-- the first count over its limit
abbrev pub limit : List Decl → Option SpecFault
limit ds = first limit_fault (counts_over ds)
