-- What is seen of a term in a view: its page, and a selection in a window.
use Rattle.std.specs.Prelude.{ℕ, ◌+◌, Bool, not, ◌&&◌, nat_lt, bytes_eq, if◌then◌else◌, List, Option, None, Some}
use Rattle.std.specs.Option.{option_map_or}
use Rattle.sg_kinds.specs.Values.{Bytes}
use Rattle.sg_kinds.specs.Terms.{Term}
use Rattle.sg_kinds.specs.Places.{Place}
use Rattle.sg_kinds.specs.FromScratch.{value_in}
use Rattle.sg_kinds.specs.InView.{in_view}
use Rattle.sg_kinds.specs.declared.spec.Spec.{Spec}
use Rattle.sg_changes.specs.Top.{topped}
use Rattle.sg_changes.specs.declared.spot.Selection.{Selection}
use Rattle.sg_changes.specs.declared.spot.Spot.{Spot}
use Rattle.sg_unparse.specs.Cells.{Mark, marks_of}
use Rattle.sg_unparse.specs.Page.{region_of}
use Rattle.sg_states.specs.Selections.{place_in, is_selection, settled_selection}

-- nothing is typed, or a text in the place of one node
abbrev pub nothing_typed : Place → Option Bytes
nothing_typed u = None

abbrev pub typed_at : Place → Bytes → Place → Option Bytes
typed_at u text v = if bytes_eq v u then Some text else None

module _ (spec : Spec) where
  -- what a term writes in a view, with its from-scratch values
  abbrev pub marks_seen : ℕ → Term → (Place → Option Bytes) → List Mark
  marks_seen v t typed = marks_of (in_view spec v) (value_in spec t) typed t

  -- the line in which a node begins where nothing is typed; 1 for a node that is not shown
  unfoldable pub first_line : ℕ → Term → Place → ℕ
  first_line v t u = option_map_or (λ r. r.first.line) (region_of (marks_seen v t nothing_typed) u) 1

  module _ (height : ℕ) where
    -- a selection in a window, whose top is moved so that its first line is seen
    abbrev pub seen : ℕ → Term → Selection → ℕ → Spot
    seen v t s top = record { selection = s; top = topped height (first_line v t (place_in s)) top; view = v }

    -- whether the first line of a place is seen in a window with this top
    abbrev pub is_seen : ℕ → Term → Place → ℕ → Bool
    is_seen v t u top = not (nat_lt (first_line v t u) top) && nat_lt (first_line v t u) (top + height)

    -- whether a spot is a selection of the term in its view, in a window in which its first line is seen
    abbrev pub is_spot : Term → Spot → Bool
    is_spot t s =
        is_selection spec s.view t (place_in s.selection) s.selection.count
        && is_seen s.view t (place_in s.selection) s.top

    -- what is to be selected, settled in a view, in a window with this top before
    abbrev pub settled_spot : ℕ → Term → Selection → ℕ → Spot
    settled_spot v t s top = seen v t (settled_selection spec v t s) top

    -- and a spot so
    abbrev pub respotted : ℕ → Term → Spot → Spot
    respotted v t s = settled_spot v t s.selection s.top
