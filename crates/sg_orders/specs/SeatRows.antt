-- Seats and visits of positions, by the rows of attributes, visits and positions.
use Rattle.std.specs.Prelude.{ℕ, suc, ◌+◌, ◌&&◌, Bool, not, List, length, map, filter, find, nat_eq, nat_le, slice_index, unwrap_or, is_some}
use Rattle.sg_kinds.specs.declared.spec.Attr.{Attr}
use Rattle.sg_kinds.specs.Instances.{below}
use Rattle.sg_kinds.specs.Visits.{least}
use Rattle.sg_orders.specs.LeastLayers.{is_inherited_in}

-- whether an attribute is synthesized and of visit j
abbrev pub is_given : List Attr → List ℕ → ℕ → ℕ → Bool
is_given attrs visits j a = not (is_inherited_in attrs a) && nat_eq (slice_index visits a) j

abbrev pub given_by : List Attr → List ℕ → ℕ → List ℕ
given_by attrs visits j = filter (is_given attrs visits j) (below (length attrs))

-- the least position of those attributes, or the place behind all
abbrev pub seat_in : List Attr → List ℕ → List ℕ → ℕ → ℕ → ℕ → ℕ
seat_in attrs visits places first behind j = unwrap_or
    (least (map (λ a. slice_index places (first + a)) (given_by attrs visits j))) behind

-- whether one of those attributes stands at q or later
abbrev pub gives_in : List Attr → List ℕ → List ℕ → ℕ → ℕ → Bool
gives_in attrs visits places q j = is_some (find (λ a. nat_le q (slice_index places a)) (given_by attrs visits j))

-- the first visit of which one does, else the last
abbrev pub belongs_in : List Attr → List ℕ → List ℕ → ℕ → ℕ → ℕ
belongs_in attrs visits places count q = unwrap_or (find (gives_in attrs visits places q) (map suc (below count))) count
