-- Where uses stand, and the first of what a row tells.
use Rattle.std.specs.Prelude.{◌≡◌, ◌≤◌, List, [], ◌∷◌, flat_map, Option, Some, None}
use Rattle.std.specs.List.{AllByRecursion}
use Rattle.sg_kinds.specs.declared.fault.Position.{Position}
use Rattle.sg_kinds.specs.declared.fault.SpecFault.{SpecFault}
use Rattle.sg_kinds.specs.declared.fault.SpecFault.TheVariants.{UnknownName, TwiceBound, Arity}
use Rattle.sg_ast.specs.Chains.{occurrence_place}
use Rattle.sg_names.specs.Uses.{Use, UsesPhylum, HasOperators, HasAttributes, UsesOperator, UsesSymbol, UsesResult, Refers, Encloses, UsesVariable, Binds, Calls, Matches}

-- the tokens of a use at which a fault of it can stand, in their order
abbrev pub use_places : Use → List Position
use_places (UsesPhylum n) = n.place ∷ []
use_places (HasOperators n) = n.place ∷ []
use_places (HasAttributes n) = n.place ∷ []
use_places (UsesOperator n op) = n.place ∷ op.place ∷ []
use_places (UsesSymbol n) = n.place ∷ []
use_places (UsesResult n a) = n.place ∷ a.place ∷ []
use_places (Refers site r) = occurrence_place r.of ∷ r.attr.place ∷ []
use_places (Encloses site q) = q.phylum.place ∷ q.attr.place ∷ []
use_places (UsesVariable scope n) = n.place ∷ []
use_places (Binds scope n) = n.place ∷ []
use_places (Calls n parts) = n.place ∷ []
use_places (Matches n parts) = n.place ∷ []

-- the places of uses, in the order of the walk
abbrev pub walked_places : List Use → List Position
walked_places us = flat_map use_places us

-- where the fault of a use stands
abbrev pub fault_place : Option SpecFault → Option Position
fault_place (Some (UnknownName place n)) = Some place
fault_place (Some (TwiceBound place n)) = Some place
fault_place (Some (Arity place n)) = Some place
fault_place f = None

-- no fault that a row tells of these uses stands before this place
abbrev pub IsFirst : (Use → Option SpecFault) → List Use → Position → Type 0
IsFirst test us p = AllByRecursion (λ u. (q : Position) → fault_place (test u) ≡ Some q → p.token ≤ q.token) us
