-- Where a selection may stand, and where the moves lead. A resting place is the root, or a node that can be reached, whose
-- scheme and whose place in the scheme above it begin with `@` and are `@`, and which is not the rest of a list.
use Rattle.std.specs.Prelude.{ℕ, Bool, true, false, not, ◌&&◌, nat_eq, bytes_eq, if◌then◌else◌, List, [], ◌∷◌, filter, Option, Some, None, slice_get, option_map, option_and_then, unwrap_or}
use Rattle.std.specs.List.{find, last_or}
use Rattle.sg_kinds.specs.Terms.{Term, Leaf, Node}
use Rattle.sg_kinds.specs.Places.{Place, sub, places_in}
use Rattle.sg_kinds.specs.Sound.{is_pair}
use Rattle.sg_kinds.specs.declared.spec.Spec.{Spec}
use Rattle.sg_kinds.specs.declared.spec.Scheme.{Scheme}
use Rattle.sg_kinds.specs.declared.marks.ChildPlace.{ChildPlace}
use Rattle.sg_kinds.specs.declared.marks.ChildPlace.TheVariants.{Resting, Hidden}
use Rattle.sg_groves.specs.Evaluated.{is_at_or_below}
use Rattle.sg_terms.specs.Labels.{elided_of}
use Rattle.sg_unparse.specs.Printing.{scheme_of}
use Rattle.sg_unparse.specs.Cells.{items_of}
use Rattle.sg_unparse.specs.Unparsed.{child_places}

-- the place of a child in the current scheme of a node; `..` where it has none there
abbrev pub child_place : Spec → Term → ℕ → ChildPlace
child_place spec (Leaf p v) k = Hidden
child_place spec (Node op n elided ts) k = unwrap_or (slice_get (child_places (items_of spec op n)) k) Hidden

abbrev pub is_resting : ChildPlace → Bool
is_resting Resting = true
is_resting place = false

abbrev pub is_shown : ChildPlace → Bool
is_shown Hidden = false
is_shown place = true

-- whether the current scheme begins with `@`; a leaf counts so
abbrev pub begins_resting : Spec → Term → Bool
begins_resting spec (Leaf p v) = true
begins_resting spec (Node op n elided ts) = unwrap_or (option_map (λ (s : Scheme). s.rests) (scheme_of spec op n)) false

-- whether a child is the rest of a list: the second child of its binary operator
abbrev pub is_rest : Spec → Term → ℕ → Bool
is_rest spec (Leaf p v) k = false
is_rest spec (Node op n elided ts) k = nat_eq k 1 && is_pair spec op

-- whether a selection may go from a node on to a child, and stand there
abbrev pub leads_on : Spec → Term → ℕ → Bool
leads_on spec x k = not (elided_of x) && is_shown (child_place spec x k)

abbrev pub rests_under : Spec → Term → ℕ → Term → Bool
rests_under spec x k y = is_resting (child_place spec x k) && (not (is_rest spec x k) && begins_resting spec y)

-- no ancestor is elided, and neither the node nor an ancestor stands at a place `..`
abbrev pub is_open : Spec → Term → Place → Bool
is_open spec t [] = true
is_open spec t (k ∷ u) = is_open spec t u && unwrap_or (option_map (λ x. leads_on spec x k) (sub t u)) false

-- whether a place of a term is a resting place
abbrev pub stands_resting : Spec → Term → ℕ → Place → Bool
stands_resting spec t k u =
    unwrap_or (option_and_then (λ x. option_map (rests_under spec x k) (sub t (k ∷ u))) (sub t u)) false

abbrev pub rests : Spec → Term → Place → Bool
rests spec t [] = true
rests spec t (k ∷ u) = is_open spec t (k ∷ u) && stands_resting spec t k u

-- all of them, a node before its children
abbrev pub resting : Spec → Term → List Place
resting spec t = filter (rests spec t) (places_in t)

-- what stands in a list behind a place, and before it
abbrev pub behind : Place → List Place → List Place
behind u [] = []
behind u (v ∷ vs) = if bytes_eq v u then vs else behind u vs

abbrev pub ahead : Place → List Place → List Place
ahead u [] = []
ahead u (v ∷ vs) = if bytes_eq v u then [] else v ∷ ahead u vs

-- the places above a place, the nearest first
abbrev pub above : Place → List Place
above [] = []
above (k ∷ u) = u ∷ above u

abbrev pub is_below : Place → Place → Bool
is_below v u = is_at_or_below v u && not (bytes_eq v u)

-- the moves: the neighbours, the nearest ancestor, the first inside, and the next one behind all that stands inside that has
-- the same nearest ancestor
abbrev pub next_from : Spec → Term → Place → Option Place
next_from spec t u = slice_get (behind u (resting spec t)) 0

abbrev pub prev_from : Spec → Term → Place → Option Place
prev_from spec t u = last_or None (ahead u (resting spec t))

abbrev pub up_from : Spec → Term → Place → Option Place
up_from spec t u = find (rests spec t) (above u)

abbrev pub first_from : Spec → Term → Place → Option Place
first_from spec t u = find (λ v. is_below v u) (resting spec t)

abbrev pub is_same_place : Option Place → Option Place → Bool
is_same_place None None = true
is_same_place (Some u) (Some v) = bytes_eq u v
is_same_place a b = false

abbrev pub sibling_from : Spec → Term → Place → Option Place
sibling_from spec t u =
    find (λ v. not (is_at_or_below v u) && is_same_place (up_from spec t v) (up_from spec t u)) (behind u (resting spec t))

-- the nearest resting place at or above a place; also of places that the term has not
abbrev pub settled : Spec → Term → Place → Place
settled spec t u = unwrap_or (find (rests spec t) (u ∷ above u)) []
