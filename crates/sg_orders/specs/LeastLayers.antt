-- The layers of attributes as low as a relation allows.
use Rattle.std.specs.Prelude.{◌≡◌, ℕ, ◌*◌, ◌%◌, ◌<◌, ◌≤◌, Bool, false, nat_eq, List, length, slice_get, slice_index, option_map, unwrap_or}
use Rattle.sg_sets.specs.Rows.{Holds}
use Rattle.sg_kinds.specs.declared.spec.Attr.{Attr}
use Rattle.sg_kinds.specs.Specification.{is_way_inherited}

abbrev pub is_inherited_in : List Attr → ℕ → Bool
is_inherited_in attrs a = unwrap_or (option_map (λ (x : Attr). is_way_inherited x.way) (slice_get attrs a)) false

-- m is of the attribute's kind and no lower than the layer of what depends on the attribute
pub record IsAllowed (attrs : List Attr) (rows : List (List Bool)) (layer : ℕ → ℕ) (a m : ℕ) : Type 0 where
  pub positive : 1 ≤ m
  pub kind : is_inherited_in attrs a ≡ nat_eq (m % 2) 0
  pub after : (b : ℕ) → Holds rows a b → layer b ≤ m

pub record IsLeastLayer (attrs : List Attr) (rows : List (List Bool)) (layer : ℕ → ℕ) (a : ℕ) : Type 0 where
  pub allowed : IsAllowed attrs rows layer a (layer a)
  pub least : (m : ℕ) → IsAllowed attrs rows layer a m → layer a ≤ m

-- each attribute has its least layer, and there are at most two layers an attribute
pub record AreLeastLayers (attrs : List Attr) (rows : List (List Bool)) (layers : List ℕ) : Type 0 where
  pub count : length layers ≡ length attrs
  pub each : (a : ℕ) → a < length attrs → IsLeastLayer attrs rows (slice_index layers) a
  pub low : (a : ℕ) → a < length attrs → slice_index layers a ≤ 2 * length attrs
