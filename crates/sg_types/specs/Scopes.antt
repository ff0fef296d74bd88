-- The variables that are visible, as a list from the outermost on.
use Rattle.std.specs.Prelude.{◌≡◌, ℕ, List, Vec, bytes_eq, Option, slice_get, option_map, option_and_then}
use Rattle.std.specs.List.{position}
use Rattle.std.specs.BTreeMap.{BTreeMap, get_by}
use Rattle.std.specs.Cmp.Lexicographic.{slice_cmp}
use Rattle.std.specs.Ordering.{nat_cmp}
use Rattle.sg_kinds.specs.Values.{Bytes}
use Rattle.sg_types.specs.declared.scope.Variable.{Variable}

-- the place of the first variable of a name, and its type
abbrev pub place_of : List Variable → Bytes → Option ℕ
place_of vs n = position (λ (v : Variable). bytes_eq n v.name) vs

abbrev pub found : List Variable → Bytes → Option (ℕ × Option ℕ)
found vs n = option_and_then (λ k. option_map (λ (v : Variable). (k, v.of)) (slice_get vs k)) (place_of vs n)

-- an ordered map tells the first place of each name
abbrev pub place_in : {A : Type 0} → BTreeMap (Vec ℕ A) ℕ → Bytes → Option ℕ
place_in places n = get_by (λ k. slice_cmp nat_cmp n k.items) places

abbrev pub AreFirst : {A : Type 0} → List Variable → BTreeMap (Vec ℕ A) ℕ → Type 0
AreFirst vs places = (n : Bytes) → place_in places n ≡ place_of vs n
