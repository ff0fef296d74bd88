-- Where equations and operators stand that the rows of equations go along, and the first of them in the text.
use Rattle.std.specs.Prelude.{◌≡◌, ◌≤◌, ℕ, Bool, true, not, List, map, Some, slice_get}
use Rattle.std.specs.List.{AllByRecursion}
use Rattle.sg_kinds.specs.declared.fault.Position.{Position}
use Rattle.sg_names.specs.declared.table.Table.{Table}
use Rattle.sg_equations.specs.declared.targets.Defined.{Defined}
use Rattle.sg_equations.specs.Owed.{owes}
use Rattle.sg_equations.specs.Complete.{lacks}

-- each equation at the first token of its target
abbrev pub defined_places : List Defined → List Position
defined_places defs = map (λ (d : Defined). d.place) defs

-- an equation that defines what its operator does not owe
abbrev pub is_not_owed : Table → Defined → Bool
is_not_owed t d = not (owes t d.op d.target)

-- none of these equations stands before this place
abbrev pub IsFirst : List Defined → Position → Type 0
IsFirst defs p = AllByRecursion (λ (d : Defined). p.token ≤ d.place.token) defs

-- no operator that lacks an equation stands before this place
abbrev pub IsFirstLacking : Table → List Defined → Position → Type 0
IsFirstLacking t defs p = (op : ℕ) (q : Position)
    → lacks t defs op ≡ true → slice_get t.op_places op ≡ Some q → p.token ≤ q.token
