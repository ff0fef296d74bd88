-- A buffer after a move, with another count, and with another text that is being typed.
use Rattle.std.specs.Prelude.{◌≡◌, ℕ, ◌+◌, ◌≤◌, true, length, Option, None, Some, IfSome, MatchOption, ⊤}
use Rattle.std.proofs.Common.{sym, ap, ◌∙◌, subst}
use Rattle.sg_kinds.specs.Terms.{nodes_of}
use Rattle.sg_kinds.specs.Places.{Place}
use Rattle.sg_forest.specs.declared.node_id.NodeId.{NodeId}
use Rattle.sg_forest.specs.Trees.{Climbs}
use Rattle.sg_groves.specs.Grove.{nodes}
use Rattle.sg_changes.specs.Captured.{Captured}
use Rattle.sg_changes.specs.Top.{topped}
use Rattle.sg_select.specs.RestingPlaces.{rests}
use Rattle.sg_unparse.specs.Sheet.{Sheet}
use Rattle.sg_buffer.specs.declared.standing.Standing.{Standing}
use Rattle.sg_states.specs.Beginnings.{Begins}
use Rattle.sg_states.specs.Selections.{alone, path_to, place_in, is_selection}
use Rattle.sg_states.specs.Seen.{first_line, nothing_typed}
use Rattle.sg_states.specs.States as states
use Rattle.sg_states.specs.States.{State, shown_spec}
use Rattle.sg_states.specs.Paged.{page_seen}
use Rattle.sg_states.proofs.Selecting.{path_there}
use Rattle.sg_buffer.specs.Held.{Held, page_by, shown, state_of, typed_by}
use Rattle.sg_buffer.specs.Buffers.{StandsFor, IsBuffer, Keeps, IsStanding}
use Rattle.sg_buffer.proofs.Stands.{capturing, captured_stands, counted, is_buffer, recounted_stands, selected_stands, stands_told, stood}

-- it is a buffer again, and stands for another state
pub record Closes (b : Held) (st : State) (count room : ℕ) (page : Option Sheet) (standing : Standing) : Type 0 where
  pub is : IsBuffer b count room page standing
  pub told : state_of b ≡ st

pub closes : (b : Held) (st : State) (count room : ℕ) (page : Option Sheet) (standing : Standing) → StandsFor b st → count ≡ nodes_of st.term → room ≡ 256 → length b.past + length b.future ≤ 256 → Keeps page (page_by b st) → IsStanding standing b.grove.spec st → Closes b st count room page standing
closes b st count room page standing s counted room_is few page_is standing_is = record { is = is_buffer b st count room page standing s counted room_is few page_is standing_is; told = stands_told b st s }

module _ (b : Held) (count room : ℕ) (page : Option Sheet) (standing : Standing) (is : IsBuffer b count room page standing) where
  abbrev pub now : State
  now = state_of b

  -- where nothing is typed the page is the term's, at every selection
  pub plain_page : (p : Sheet) → b.capture ≡ None → p ≡ shown b → p ≡ page_seen b.grove b.root now.term nothing_typed
  plain_page p none seen = seen ∙ ap (λ o. page_seen b.grove b.root now.term (typed_by o (place_in now.spot.selection))) none

  pub stood_closes : (p : Sheet) → p ≡ shown b → (o : Standing) (u : Place) (n : NodeId) (top : ℕ) → o.way ≡ path_to u → IfSome o.begins (Begins b.grove.spec now.spot.view now.term u) → b.capture ≡ None → Climbs (nodes b.grove) u n b.root → rests (shown_spec b.grove.spec now) now.term u ≡ true → top ≡ topped b.height (first_line b.grove.spec now.spot.view now.term u) b.top
      → Closes (stood b n top) (states.selected b.grove.spec b.height u now) count room (Some p) o
  stood_closes p seen o u n top path begun none way rest top_is =
      closes (stood b n top) (states.selected b.grove.spec b.height u now) count room (Some p) o (selected_stands b now u n top is.stands none way rest top_is) is.counted is.room_is is.few
      (plain_page p none seen ∙ sym (ap (λ o. page_seen b.grove b.root now.term (typed_by o (place_in (alone u)))) none))
      (path, subst (λ z. IfSome o.begins (Begins b.grove.spec now.spot.view now.term z)) (sym (path_there u)) begun)

  pub counted_closes : (n : ℕ) → b.capture ≡ None → is_selection b.grove.spec now.spot.view now.term (place_in now.spot.selection) n ≡ true → Closes (counted b n) (states.recounted n now) count room page standing
  counted_closes n none selected = closes (counted b n) (states.recounted n now) count room page standing (recounted_stands b now n is.stands none selected) is.counted is.room_is is.few is.page_is is.standing_is

  pub captured_closes : (c : Option Captured) (p : Option Sheet) → MatchOption c ⊤ (λ _. b.count ≡ 1) → Keeps p (page_seen b.grove b.root now.term (typed_by c (place_in now.spot.selection)))
      → Closes (capturing b c) (record now { capture = c }) count room p standing
  captured_closes c p one seen = closes (capturing b c) (record now { capture = c }) count room p standing (captured_stands b now c is.stands one) is.counted is.room_is is.few seen is.standing_is

  pub captured_now : now.capture ≡ b.capture
  captured_now = sym is.stands.capture
