-- When a buffer is one.
use Rattle.std.specs.Prelude.{◌≡◌, ℕ, ◌+◌, ◌<◌, ◌≤◌, true, ◌∷◌, length, Option, MatchOption, ⊤}
use Rattle.sg_kinds.specs.Terms.{nodes_of}
use Rattle.sg_kinds.specs.Fits.{Fits}
use Rattle.sg_kinds.specs.Sound.{IsSmall}
use Rattle.sg_kinds.specs.declared.spec.Spec.{Spec}
use Rattle.sg_forest.specs.Trees.{Climbs}
use Rattle.sg_groves.specs.Grove.{nodes, IsGrove}
use Rattle.sg_groves.specs.TermAt.{term_at}
use Rattle.sg_changes.specs.Chain.{AllUndo, AllRedo, Passes}
use Rattle.sg_changes.specs.StepChanges.{told_past, told_future, tops}
use Rattle.sg_unparse.specs.Sheet.{Sheet}
use Rattle.sg_buffer.specs.declared.standing.Standing.{Standing}
use Rattle.sg_states.specs.Beginnings.{Begins}
use Rattle.sg_states.specs.Selections.{place_in}
use Rattle.sg_states.specs.Seen.{is_spot}
use Rattle.sg_states.specs.States.{State}
use Rattle.sg_states.specs.Paged.{IsWhole}
use Rattle.sg_buffer.specs.Held.{Held, shown, state_of}
use Rattle.sg_exchanges.specs.Roots.{AreTheRoots}

-- what is held stands for a state: a right tree holds its term, which fits the root's phylum and is in the limits; a
-- selection of the term is selected, in the view in which it is shown, and its first line is seen; the past changes can
-- be undone and the future ones done again, one after another; each root of the forest is the term's or hangs for one
-- step; and a run is no capture's
pub record StandsFor (b : Held) (st : State) : Type 0 where
  pub grove : IsGrove b.grove
  pub whole : IsWhole b.grove b.root st.term
  pub fits : Fits b.grove.spec st.term b.grove.spec.root
  pub small : IsSmall st.term
  pub tall : 0 < b.height
  pub selected : Climbs (nodes b.grove) (place_in st.spot.selection) b.selected b.root
  pub count : b.count ≡ st.spot.selection.count
  pub top : b.top ≡ st.spot.top
  pub view : b.grove.view ≡ st.spot.view
  pub spot : is_spot b.grove.spec b.height st.term st.spot ≡ true
  pub past : told_past (term_at b.grove) st.term b.past ≡ st.past
  pub future : told_future (term_at b.grove) st.term b.future ≡ st.future
  pub undoes : AllUndo b.grove.spec (Passes (is_spot b.grove.spec b.height)) st.term st.past
  pub redoes : AllRedo b.grove.spec (Passes (is_spot b.grove.spec b.height)) st.term st.future
  pub roots : AreTheRoots b.grove (b.root ∷ tops b.past b.future)
  pub capture : b.capture ≡ st.capture
  pub alone : MatchOption b.capture ⊤ (λ _. b.count ≡ 1)

-- a page that is kept is this one
abbrev pub Keeps : Option Sheet → Sheet → Type 0
Keeps page s = MatchOption page ⊤ (λ p. p ≡ s)

-- the path of the selected node, and where it begins, where that is kept
abbrev pub IsStanding : Standing → Spec → State → Type 0
IsStanding s spec st =
    (s.way ≡ st.spot.selection.path)
    × MatchOption s.begins ⊤ (Begins spec st.spot.view st.term (place_in st.spot.selection))

-- a buffer besides knows how many nodes its term has, and the selected node's path; a page that it keeps shows the term
-- and what is being typed, and a beginning that it keeps is that of the selected node; its history has room for 256 steps
pub record IsBuffer (b : Held) (count room : ℕ) (page : Option Sheet) (standing : Standing) : Type 0 where
  pub stands : StandsFor b (state_of b)
  pub counted : count ≡ nodes_of (state_of b).term
  pub room_is : room ≡ 256
  pub few : length b.past + length b.future ≤ 256
  pub page_is : Keeps page (shown b)
  pub standing_is : IsStanding standing b.grove.spec (state_of b)
