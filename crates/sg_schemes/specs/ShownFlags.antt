-- The first operator of a shown phylum that has no scheme, as it is computed: passes over the operators put up the
-- flags of the shown phyla, and declarations those of the operators that have schemes.
use Rattle.std.specs.Prelude.{ℕ, zero, suc, max, Bool, true, false, not, ◌&&◌, if◌then◌else◌, List, [], ◌∷◌, length, replicate, slice_set, slice_index_or, Option, Some, None, slice_get, option_map}
use Rattle.sg_kinds.specs.declared.spec.Operator.{Operator}
use Rattle.sg_kinds.specs.declared.fault.SpecFault.{SpecFault}
use Rattle.sg_kinds.specs.declared.fault.SpecFault.TheVariants as fault
use Rattle.sg_ast.specs.Declarations.{Decl, Schemes}
use Rattle.sg_names.specs.declared.table.Table.{Table}
use Rattle.sg_names.specs.Lookups.{operator_at}

-- flags of phyla or operators, by their numbers
abbrev pub flag : List Bool → ℕ → Bool
flag flags k = slice_index_or flags k false

-- a shown phylum shows the arguments of its operators
abbrev pub show_all : List Bool → List ℕ → List Bool
show_all flags [] = flags
show_all flags (p ∷ ps) = show_all (slice_set flags p true) ps

abbrev pub show_below : List Bool → Operator → List Bool
show_below flags o = if flag flags o.phylum then show_all flags o.args else flags

abbrev pub pass : List Bool → List Operator → List Bool
pass flags [] = flags
pass flags (o ∷ ops) = pass (show_below flags o) ops

unfoldable pub passes : ℕ → List Operator → List Bool → List Bool
passes zero ops flags = flags
passes (suc n) ops flags = passes n ops (pass flags ops)

-- the shown phyla among so many: first the root, then what as many passes show as there are flags, which is all
abbrev pub shown_among : ℕ → List Operator → ℕ → List Bool
shown_among count ops root = passes count ops (slice_set (replicate count false) root true)

-- one more than the greatest number of the root and of arguments, so that each of these has a flag
abbrev pub past : List ℕ → ℕ
past [] = 0
past (p ∷ ps) = max (suc p) (past ps)

abbrev pub past_all : List Operator → ℕ
past_all [] = 0
past_all (o ∷ ops) = max (past o.args) (past_all ops)

abbrev pub width : Table → ℕ
width t = max (suc t.root) (past_all t.ops)

abbrev pub shown : Table → List Bool
shown t = shown_among (width t) t.ops t.root

-- the operators that have schemes in the ordinary view
abbrev pub give_to : List Bool → Option ℕ → List Bool
give_to flags None = flags
give_to flags (Some op) = slice_set flags op true

abbrev pub give : Table → List Bool → Decl → List Bool
give t flags (Schemes p op None schemes) = give_to flags (operator_at t p op)
give t flags d = flags

abbrev pub give_all : Table → List Bool → List Decl → List Bool
give_all t flags [] = flags
give_all t flags (d ∷ ds) = give_all t (give t flags d) ds

abbrev pub given : Table → List Decl → List Bool
given t ds = give_all t (replicate (length t.ops) false) ds

-- the first operator from a number on whose phylum is shown and that has no scheme, at its name in its alternative
abbrev pub fault_at : Table → ℕ → Operator → Option SpecFault
fault_at t k o = option_map (λ place. fault.NoScheme place o.name) (slice_get t.op_places k)

abbrev pub is_missing : List Bool → List Bool → ℕ → Operator → Bool
is_missing shown given k o = flag shown o.phylum && not (flag given k)

abbrev pub missing_from : Table → List Bool → List Bool → ℕ → List Operator → Option SpecFault
missing_from t shown given k [] = None
missing_from t shown given k (o ∷ ops) =
    let rest = missing_from t shown given (suc k) ops in
    if is_missing shown given k o then fault_at t k o else rest

abbrev pub no_scheme : Table → List Decl → Option SpecFault
no_scheme t ds = missing_from t (shown t) (given t ds) 0 t.ops
