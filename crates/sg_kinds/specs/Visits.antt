-- The visits of phyla, and the visits to which the vertices and arguments of an operator belong.
use Rattle.std.specs.Prelude.{ℕ, zero, suc, ◌+◌, ◌-◌, max, min, Bool, cond, not, ◌&&◌, List, [], ◌∷◌, map, filter, find, length, nat_eq, nat_le, Option, Some, None, slice_get, slice_index, unwrap_or, is_some}
pub use Rattle.sg_kinds.specs.declared.plans.Plans.{Plans}
use Rattle.sg_kinds.specs.Specification.{Rules, Occurrence, attrs_of, args_of, phylum_of, is_inherited}
use Rattle.sg_kinds.specs.Instances.{below, attr_count}
use Rattle.sg_kinds.specs.Dependencies.{phylum_there, occurrence}

abbrev pub row_at : {A : Type 0} → List (List A) → ℕ → List A
row_at rows k = unwrap_or (slice_get rows k) []

abbrev pub greatest : List ℕ → ℕ
greatest [] = 0
greatest (n ∷ ns) = max n (greatest ns)

-- the number of a vertex: by occurrence from left to right, by attribute in declaration order, then the locals
abbrev pub attrs_before : Rules → ℕ → ℕ → ℕ
attrs_before rules p zero = 0
attrs_before rules p (suc k) = attrs_before rules p k + attr_count rules (phylum_there rules.ops p k)

abbrev pub attrs_here : Rules → ℕ → ℕ
attrs_here rules p = attrs_before rules p 1

abbrev pub vertex : Rules → ℕ → Occurrence → ℕ
vertex rules p o = cond (nat_eq o.at 0 && nat_le (attrs_here rules p) o.slot)
    (attrs_before rules p (suc (length (args_of rules.ops p))) + (o.slot - attrs_here rules p))
    (attrs_before rules p o.at + o.slot)

abbrev pub position_in : Rules → Plans → ℕ → Occurrence → ℕ
position_in rules plans p o = slice_index (row_at plans.places p) (vertex rules p o)

-- how many visits a phylum has: at least one
abbrev pub visit_count : Plans → ℕ → ℕ
visit_count plans X = max 1 (greatest (row_at plans.visits X))

-- the synthesized attributes of X in its visit j
abbrev pub given_in : Rules → Plans → ℕ → ℕ → List ℕ
given_in rules plans X j = filter (λ a. not (is_inherited rules.phyla X a)
    && nat_eq (slice_index (row_at plans.visits X) a) j) (below (length (attrs_of rules.phyla X)))

-- whether a visit of the left side has a synthesized attribute at a position or later
abbrev pub gives_from : Rules → Plans → ℕ → ℕ → ℕ → ℕ → Bool
gives_from rules plans p X q j = is_some (find (λ a. nat_le q (position_in rules plans p (occurrence 0 a)))
    (given_in rules plans X j))

-- the visit of the left side to which a position belongs: the first with a synthesized attribute there or later, else
-- the last
abbrev pub belongs_by : Rules → Plans → ℕ → ℕ → Option ℕ → ℕ
belongs_by rules plans p q None = 1
belongs_by rules plans p q (Some X) = unwrap_or (find (gives_from rules plans p X q)
    (map suc (below (visit_count plans X)))) (visit_count plans X)

abbrev pub belongs : Rules → Plans → ℕ → ℕ → ℕ
belongs rules plans p q = belongs_by rules plans p q (phylum_of rules.ops p)

-- the position of visit j of argument k: that of its first synthesized attribute, else after all vertices
abbrev pub least : List ℕ → Option ℕ
least [] = None
least (n ∷ ns) = Some (min n (unwrap_or (least ns) n))

abbrev pub after_all : Plans → ℕ → ℕ
after_all plans p = suc (greatest (row_at plans.places p))

abbrev pub seat_by : Rules → Plans → ℕ → ℕ → ℕ → Option ℕ → ℕ
seat_by rules plans p k j None = after_all plans p + k
seat_by rules plans p k j (Some X) = unwrap_or (least (map (λ a. position_in rules plans p (occurrence (suc k) a))
    (given_in rules plans X j))) (after_all plans p + k)

abbrev pub seat : Rules → Plans → ℕ → ℕ → ℕ → ℕ
seat rules plans p k j = seat_by rules plans p k j (slice_get (args_of rules.ops p) k)
