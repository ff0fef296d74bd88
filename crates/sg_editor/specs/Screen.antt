-- What is printed after a command.
use Rattle.std.specs.Prelude.{◌≡◌, ℕ, zero, suc, List, [], ◌∷◌, Option, Some, None, slice_get, unwrap_or}
use Rattle.std.specs.Option.{option_map_or}
use Rattle.sg_kinds.specs.Places.{Place}
use Rattle.sg_kinds.specs.Values.{Bytes}
use Rattle.sg_kinds.specs.Specification.{phylum_name}
use Rattle.sg_kinds.specs.declared.spec.Spec.{Spec}
use Rattle.sg_forest.specs.declared.node_id.NodeId.{NodeId}
use Rattle.sg_forest.specs.Trees.{Climbs}
use Rattle.sg_groves.specs.Grove.{Grove, nodes}
use Rattle.sg_unparse.specs.Cells.{Mark}
use Rattle.sg_unparse.specs.Page.{Region, cells_of, lines_of, region_of}
use Rattle.sg_unparse.specs.Sheet.{Sheet, region_on}
use Rattle.sg_script.specs.declared.message.Message.{Message}
use Rattle.sg_screen.specs.Block.{Head, block, bare}
use Rattle.sg_states.specs.Seen.{marks_seen}
use Rattle.sg_states.specs.States.{State, selected_place}
use Rattle.sg_buffer.specs.Held.{typed_by}
use Rattle.sg_edits.specs.Edits.{phylum_in}
use Rattle.sg_commands.specs.Turns.{selected_term}
use Rattle.sg_editor.specs.Session.{Session, current_of}

-- the first position of a page
abbrev pub page_begin : Region
page_begin = record { first = record { line = 1; column = 1 }; last = record { line = 1; column = 1 } }

-- a page tells of the nodes of a tree the regions that these marks have at their places
abbrev pub TellsRegions : Grove → NodeId → Sheet → List Mark → Type 0
TellsRegions g root page marks =
    (u : Place) (n : NodeId) → Climbs (nodes g) u n root → region_on page n ≡ region_of marks u

-- the places of elements of a list from one on: each next one is the first child of the next list's node
abbrev pub next_element : Place → Place
next_element [] = []
next_element (k ∷ p) = k ∷ 1 ∷ p

abbrev pub run_from : ℕ → Place → List Place
run_from zero u = []
run_from (suc n) u = u ∷ run_from n (next_element u)

-- the region of the last of some places that has one
abbrev pub last_region : List Mark → List Place → Option Region
last_region marks [] = None
last_region marks (u ∷ us) = option_map_or Some (last_region marks us) (region_of marks u)

-- the region of so many elements from a place on: from the first position of the first one to the last position of the
-- last one that has a region
abbrev pub region_of_run : List Mark → Place → ℕ → Region
region_of_run marks u n = record {
  first = (unwrap_or (region_of marks u) page_begin).first;
  last = (unwrap_or (last_region marks (run_from n u)) page_begin).last;
}

-- the name of a view, None of the ordinary one
abbrev pub view_shown : Spec → ℕ → Option Bytes
view_shown spec zero = None
view_shown spec (suc v) = slice_get spec.views.names v

module _ (spec : Spec) where
  -- what a buffer shows in its view, with the text that is typed at the selected node
  abbrev pub shown_in : State → List Mark
  shown_in st = marks_seen spec st.spot.view st.term (typed_by st.capture (selected_place st))

  -- what the header of a buffer tells
  abbrev pub header_of : Message → ℕ → Bytes → State → Head
  header_of m n name st = record {
    name = name;
    view = view_shown spec st.spot.view;
    region = region_of_run (shown_in st) (selected_place st) st.spot.selection.count;
    phylum = phylum_name spec.phyla (phylum_in spec (selected_term st));
    count = st.spot.selection.count;
    top = st.spot.top;
    ev = n;
    message = m;
  }

module _ (spec : Spec) (width height : ℕ) where
  -- the block of a buffer, or the line where none is current
  abbrev pub printed : Message → ℕ → Option (Bytes × State) → Bytes
  printed m n None = bare m
  printed m n (Some b) = block (header_of spec m n b.0 b.1) (lines_of (cells_of (shown_in spec b.1))) width height

  unfoldable pub screen : Session → Message → ℕ → Bytes
  screen s m n = printed m n (current_of s)
