-- When types fit. An expression whose names mean nothing has no type, and is accepted nowhere.
use Rattle.std.specs.Prelude.{ℕ, Bool, false, if◌then◌else◌, Option, Some, None, slice_get, option_map, option_and_then}
use Rattle.sg_kinds.specs.declared.spec.Phylum.{Phylum}
use Rattle.sg_kinds.specs.Specification.{args_of, has_shape, is_list_shape}
use Rattle.sg_kinds.specs.Typing.{agree, is_found}
use Rattle.sg_kinds.specs.declared.fault.Position.{Position}
use Rattle.sg_names.specs.declared.table.Table.{Table}
use Rattle.sg_names.specs.Drafted.{drafted}

-- the place, where a fact does not hold
abbrev pub unless : Bool → Position → Option Position
unless b place = if b then None else Some place

-- the place, where there is no type
abbrev pub untyped : Option ℕ → Position → Option Position
untyped None place = Some place
untyped (Some p) place = None

-- whether a type is accepted where another is wanted
abbrev pub fits_where : Table → Option ℕ → Option ℕ → Bool
fits_where t None found = false
fits_where t (Some wanted) found = is_found (drafted t) wanted found

-- whether the types of two operands of `==` agree
abbrev pub do_agree : Table → Option ℕ → Option ℕ → Bool
do_agree t None q = false
do_agree t (Some p) None = false
do_agree t (Some p) (Some q) = agree (drafted t) p q

-- the binary operator of a list phylum, and the phylum of its elements
abbrev pub pair_of : Table → Phylum → Option (ℕ × ℕ)
pair_of t x = option_and_then (λ op. option_map (λ e. (op, e)) (slice_get (args_of t.ops op) 0)) (slice_get x.ops 1)

abbrev pub list_at : Table → ℕ → Option (ℕ × ℕ)
list_at t l = if has_shape t.phyla is_list_shape l then option_and_then (pair_of t) (slice_get t.phyla l) else None

abbrev pub list_of : Table → Option ℕ → Option (ℕ × ℕ)
list_of t l = option_and_then (list_at t) l
