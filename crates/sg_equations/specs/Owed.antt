-- What the equations of an operator are to define.
use Rattle.std.specs.Prelude.{ℕ, Bool, false, not, ◌&&◌, slice_get, option_map, unwrap_or}
use Rattle.sg_kinds.specs.declared.spec.Occurrence.{Occurrence}
use Rattle.sg_kinds.specs.Dependencies.{phylum_there}
use Rattle.sg_kinds.specs.Far.{is_far}
use Rattle.sg_kinds.specs.Sound.{is_owed}
use Rattle.sg_kinds.specs.Specification.{attrs_of}
use Rattle.sg_names.specs.Drafted.{drafted}
use Rattle.sg_names.specs.declared.table.Table.{Table}

-- whether a slot is a far attribute: of a phylum; of an occurrence of an operator
abbrev pub is_far_slot : Table → ℕ → ℕ → Bool
is_far_slot t p slot = unwrap_or (option_map is_far (slice_get (attrs_of t.phyla p) slot)) false

abbrev pub is_far_there : Table → ℕ → Occurrence → Bool
is_far_there t op o = unwrap_or (option_map (λ p. is_far_slot t p o.slot) (phylum_there t.ops op o.at)) false

-- a synthesized attribute or local of the left side, or an inherited attribute of an argument; but no far attribute,
-- which is handed down by an equation that nobody writes
abbrev pub owes : Table → ℕ → Occurrence → Bool
owes t op o = is_owed (drafted t) op o.at o.slot && not (is_far_there t op o)
