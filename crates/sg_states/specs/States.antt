-- The state of a buffer, and what each call does to it.
use Rattle.std.specs.Prelude.{ℕ, ◌+◌, ◌-◌, List, [], ◌∷◌, take, Option, Some, None, option_map, unwrap_or, nat_lt, if◌then◌else◌}
use Rattle.std.specs.Option.{is_some}
use Rattle.sg_kinds.specs.Values.{Bytes}
use Rattle.sg_kinds.specs.Terms.{Term}
use Rattle.sg_kinds.specs.Places.{Place, put}
use Rattle.sg_kinds.specs.InView.{in_view}
use Rattle.sg_kinds.specs.declared.spec.Spec.{Spec}
use Rattle.sg_changes.specs.Captured.{Captured, captured, put_in, taken_out}
use Rattle.sg_changes.specs.Changes.{Change, Put, Mark as Marking, chosen, part_of, marks_of, marked as marked_term, spot_along, term_along}
use Rattle.sg_changes.specs.declared.direction.Direction.{Direction}
use Rattle.sg_changes.specs.declared.direction.Direction.TheVariants.{Back, Forth}
use Rattle.sg_changes.specs.declared.spot.Selection.{Selection}
use Rattle.sg_changes.specs.declared.spot.Spot.{Spot}
use Rattle.sg_changes.specs.declared.step.Marks.{Marks}
use Rattle.sg_select.specs.RestingPlaces.{settled, next_from, prev_from, up_from, first_from, sibling_from}
use Rattle.sg_unparse.specs.Page.{cells_of, owner_at}
use Rattle.sg_select.specs.Paths.{spine_from}
use Rattle.sg_states.specs.Selections.{alone, place_in, elements_at}
use Rattle.sg_states.specs.Seen.{nothing_typed, marks_seen, respotted, seen, settled_spot}
use Rattle.sg_states.specs.Turned.{turned_in}
use Rattle.sg_states.specs.declared.marks.Extended.{Extended}
use Rattle.sg_states.specs.declared.marks.Extended.TheVariants.{Done, NotInList, NoPlace}
use Rattle.sg_states.specs.declared.marks.Mark.{Mark}
use Rattle.sg_states.specs.declared.marks.Move.{Move}
use Rattle.sg_states.specs.declared.marks.Move.TheVariants.{Next, Prev, Up, First, Sibling}

-- a term, what is selected and seen of it, the changes that can be undone, the newest first, those that can be done
-- again, the next one first, and the text that is being typed at the selection
pub record State : Type 0 where
  pub term : Term
  pub spot : Spot
  pub past : List Change
  pub future : List Change
  pub capture : Option Captured

-- the selected place, that of a run's first element
abbrev pub selected_place : State → Place
selected_place st = place_in st.spot.selection

-- the state of a new buffer, whose root is selected, in the ordinary view
abbrev pub begun : Term → State
begun t = record {
  term = t;
  spot = record { selection = alone []; top = 1; view = 0 };
  past = [];
  future = [];
  capture = None;
}

-- the specification as it is seen in the view of a state
abbrev pub shown_spec : Spec → State → Spec
shown_spec spec st = in_view spec st.spot.view

-- the resting place to which a move leads
abbrev pub target : Move → Spec → Term → Place → Option Place
target Next = next_from
target Prev = prev_from
target Up = up_from
target First = first_from
target Sibling = sibling_from

-- the changes that lie that way, the nearest first
abbrev pub ahead : Direction → State → List Change
ahead d st = chosen d st.past st.future

module _ (spec : Spec) (height : ℕ) where
  -- a change makes a term, in which this is selected then, and is the newest of the past, which keeps 256
  abbrev pub changed : Term → (Spot → Change) → Selection → State → State
  changed t change select st =
      let spot = settled_spot spec height st.spot.view t select st.spot.top in
      record { term = t; spot = spot; past = take 256 (change spot ∷ st.past); future = []; capture = None }

  -- another subterm at a place
  abbrev pub replaced : Place → Term → Selection → State → State
  replaced u s select st = changed (put st.term u s) (Put u (part_of st.term u) s st.spot) select st

  -- other marks of the selected node
  abbrev pub remarked : Marks → Marks → State → State
  remarked was new st =
      let u = selected_place st in
      changed (marked_term st.term u new) (Marking u was new st.spot) (alone u) st

  -- the selected node with a mark turned; None where there is nothing to turn
  abbrev pub marked : Mark → State → Option State
  marked mark st =
      let x = part_of st.term (selected_place st) in
      option_map (λ new. remarked (unwrap_or (marks_of x) new) new st) (turned_in (shown_spec spec st) mark x)

  -- a resting place selected
  abbrev pub selected : Place → State → State
  selected u st = record st { spot = seen spec height st.spot.view st.term (alone u) st.spot.top }

  -- where a move leads, or the cell of a line and a column; None where it leads to no place
  abbrev pub moved : Move → State → Option State
  moved move st = option_map (λ u. selected u st) (target move (shown_spec spec st) st.term (selected_place st))

  abbrev pub picked : ℕ → ℕ → State → Option State
  picked line column st = option_map (λ u. selected (settled (shown_spec spec st) st.term u) st)
      (owner_at (cells_of (marks_seen spec st.spot.view st.term nothing_typed)) line column)

  -- the same state in another view: the selection is settled there, and the top follows it
  abbrev pub viewed : ℕ → State → State
  viewed v st = record st { spot = respotted spec height v st.term st.spot }

  -- the first of some changes gone along, with what was selected and seen there, settled in the present view; it is the
  -- nearest one behind then
  abbrev pub gone_by : Direction → List Change → State → State
  gone_by d [] st = st
  gone_by d (c ∷ cs) st = record st {
    term = term_along d st.term c;
    spot = respotted spec height st.spot.view (term_along d st.term c) (spot_along d c);
    past = chosen d cs (c ∷ st.past);
    future = chosen d (c ∷ st.future) cs;
  }

  -- one change along that way
  abbrev pub gone : Direction → State → State
  gone d st = gone_by d (ahead d st) st

  -- the newest change undone, and the next one done again
  abbrev pub undone : State → State
  undone = gone Back

  abbrev pub redone : State → State
  redone = gone Forth

-- a state as it was before a change that led to another one and was taken back: the newest 255 changes before it are
-- kept, it comes next, and nothing is being typed
abbrev pub taken_back : State → State → State
taken_back next st = record st { past = take 255 st.past; future = take 1 next.past; capture = None }

-- a selection with another count: one more element of the list, or one less
abbrev pub recounted : ℕ → State → State
recounted n st =
    record st { spot = record st.spot { selection = record st.spot.selection { count = n } } }

abbrev pub extended : State → State
extended st = recounted (st.spot.selection.count + 1) st

abbrev pub shrunk : State → State
shrunk st = recounted (st.spot.selection.count - 1) st

-- what becomes of a selection that is to have one more element: it is no element, or has the list's last, or not yet
abbrev pub extension : Spec → State → Extended
extension spec st =
    let u = selected_place st in
    if is_some (spine_from spec st.term u)
    then (if nat_lt st.spot.selection.count (elements_at spec st.term u) then Done else NoPlace)
    else NotInList

-- bytes typed at the point, of an empty text where none is being typed; the byte before the point taken away; the point
-- moved; the typing ended
abbrev pub capture_of : State → Captured
capture_of st = unwrap_or st.capture (captured [] 0)

abbrev pub typed : Bytes → State → State
typed bytes st = record st { capture = Some (put_in (capture_of st) bytes) }

abbrev pub erased : State → State
erased st = record st { capture = option_map taken_out st.capture }

abbrev pub pointed : ℕ → State → State
pointed k st = record st { capture = option_map (λ (c : Captured). record c { point = k }) st.capture }

abbrev pub ended : State → State
ended st = record st { capture = None }
