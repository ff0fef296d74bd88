-- Each operator's equations define what it owes, and each of it once.
use Rattle.std.specs.Prelude.{ℕ, suc, Bool, not, ◌&&◌, if◌then◌else◌, List, [], ◌∷◌, length, nat_eq, Option, Some, None, slice_get, option_map, option_and_then}
use Rattle.std.specs.List.{list_any}
use Rattle.sg_kinds.specs.declared.spec.Occurrence.{Occurrence}
use Rattle.sg_kinds.specs.declared.spec.Operator.{Operator}
use Rattle.sg_kinds.specs.declared.fault.SpecFault.{SpecFault}
use Rattle.sg_kinds.specs.declared.fault.SpecFault.TheVariants as fault
use Rattle.sg_kinds.specs.Dependencies.{occurrence}
use Rattle.sg_kinds.specs.Instances.{below}
use Rattle.sg_kinds.specs.Specification.{args_of}
use Rattle.sg_kinds.specs.Typing.{slots_there}
use Rattle.sg_ast.specs.Declarations.{Decl}
use Rattle.sg_ast.specs.FirstFault.{first, first_of, first_repeat}
use Rattle.sg_names.specs.declared.table.Table.{Table}
use Rattle.sg_equations.specs.declared.targets.Defined.{Defined}
use Rattle.sg_equations.specs.Targets.{defined_in}
use Rattle.sg_names.specs.Drafted.{drafted}
use Rattle.sg_equations.specs.Owed.{owes}

-- an equation that defines what its operator does not owe
abbrev pub not_owed : Table → Defined → Option SpecFault
not_owed t d = if owes t d.op d.target then None else Some (fault.NotDefinedHere d.place)

abbrev pub not_defined_here : Table → List Defined → Option SpecFault
not_defined_here t defs = first (not_owed t) defs

-- a second equation of one instance
abbrev pub is_same_target : Defined → Defined → Bool
is_same_target a b = nat_eq a.op b.op && (nat_eq a.target.at b.target.at && nat_eq a.target.slot b.target.slot)

abbrev pub twice_at : List Defined → Option ℕ → Option SpecFault
twice_at defs None = None
twice_at defs (Some k) = option_map (λ (d : Defined). fault.Twice d.place) (slice_get defs k)

abbrev pub twice : List Defined → Option SpecFault
twice defs = twice_at defs (first_repeat is_same_target defs)

-- an operator that owes what no equation defines
abbrev pub is_defined : List Defined → ℕ → Occurrence → Bool
is_defined defs op o = list_any (λ (d : Defined). nat_eq d.op op
    && (nat_eq d.target.at o.at && nat_eq d.target.slot o.slot)) defs

abbrev pub lacks_slot : Table → List Defined → ℕ → ℕ → ℕ → Bool
lacks_slot t defs op k slot = let o = occurrence k slot in owes t op o && not (is_defined defs op o)

abbrev pub lacks_at : Table → List Defined → ℕ → ℕ → Bool
lacks_at t defs op k = list_any (lacks_slot t defs op k) (below (length (slots_there (drafted t) op k)))

abbrev pub lacks : Table → List Defined → ℕ → Bool
lacks t defs op = list_any (lacks_at t defs op) (below (suc (length (args_of t.ops op))))

abbrev pub lacking : Table → List Defined → ℕ → Option ℕ
lacking t defs op = if lacks t defs op then Some op else None

abbrev pub first_lacking : Table → List Defined → Option ℕ
first_lacking t defs = first (lacking t defs) (below (length t.ops))

abbrev pub missing_at : Table → ℕ → Option SpecFault
missing_at t op = option_and_then (λ place. option_map (λ (o : Operator). fault.Missing place o.name)
    (slice_get t.ops op)) (slice_get t.op_places op)

abbrev pub missing : Table → List Defined → Option SpecFault
missing t defs = option_and_then (missing_at t) (first_lacking t defs)

-- the first fault of the equations of declarations
abbrev pub incomplete : Table → List Decl → Option SpecFault
incomplete t ds =
    let defs = defined_in t ds in
    first_of (not_defined_here t defs ∷ twice defs ∷ missing t defs ∷ [])
