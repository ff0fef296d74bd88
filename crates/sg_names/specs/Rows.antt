-- What groups hold of an owner.
use Rattle.std.specs.Prelude.{ℕ, List, [], Vec, slice_get, option_map, unwrap_or}
use Rattle.sg_names.specs.declared.groups.Groups.{Groups}

abbrev pub row_in : {T A : Type 0} → List (Vec T A) → ℕ → List T
row_in rows k = unwrap_or (option_map (λ v. v.items) (slice_get rows k)) []

abbrev pub row_at : {T : Type 0} → Groups T → ℕ → List T
row_at groups k = row_in groups.rows.items k
