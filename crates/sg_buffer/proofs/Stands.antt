-- What stands for a state stands for one state; and what moves, counts and captures do to it.
use Rattle.std.specs.Prelude.{◌≡◌, ◌≢◌, refl, ℕ, ◌+◌, ◌-◌, ◌<◌, ◌≤◌, true, not, ◌&&◌, ◌||◌, nat_eq, nat_lt, List, length, Option, None, MatchOption, ⊤}
use Rattle.std.proofs.Common.{sym, ap, ◌∙◌, subst, arith}
use Rattle.std.proofs.lemmas.Bool.{and_parts}
use Rattle.std.proofs.lemmas.Bool.Decides.{nat_tests}
use Rattle.sg_kinds.specs.Terms.{Term, nodes_of}
use Rattle.sg_kinds.specs.Places.{Place}
use Rattle.sg_kinds.proofs.Elementary.{and_true}
use Rattle.sg_forest.specs.declared.node_id.NodeId.{NodeId}
use Rattle.sg_forest.specs.Trees.{Climbs}
use Rattle.sg_groves.specs.Grove.{nodes}
use Rattle.sg_groves.specs.Holds.{IsPlaced}
use Rattle.sg_groves.specs.TermAt.{term_at}
use Rattle.sg_groves.proofs.Held.{held_at}
use Rattle.sg_groves.proofs.Ways.{way_is}
use Rattle.sg_changes.specs.Captured.{Captured}
use Rattle.sg_changes.specs.Changes.{Change}
use Rattle.sg_changes.specs.StepChanges.{told_past, told_future}
use Rattle.sg_changes.specs.Top.{topped}
use Rattle.sg_select.specs.RestingPlaces.{rests}
use Rattle.sg_unparse.specs.Sheet.{Sheet}
use Rattle.sg_buffer.specs.declared.standing.Standing.{Standing}
use Rattle.sg_states.specs.Selections.{alone, path_to, place_in, elements_at, is_selection}
use Rattle.sg_states.specs.Seen.{first_line, is_seen}
use Rattle.sg_states.specs.States as states
use Rattle.sg_states.specs.States.{State, shown_spec}
use Rattle.sg_states.proofs.Selecting.{path_there, path_back, alone_selected}
use Rattle.sg_states.proofs.Spotted.{spot_seen, spot_selects, spot_shows}
use Rattle.sg_buffer.specs.Held.{Held, page_by, state_of, term_in, selected_in}
use Rattle.sg_buffer.specs.Buffers.{StandsFor, IsBuffer, Keeps, IsStanding}

abbrev state : Term → List ℕ → ℕ → ℕ → ℕ → List Change → List Change → Option Captured → State
state t path count top view past future capture =
    record { term = t; spot = record { selection = record { path = path; count = count }; top = top; view = view }; past = past; future = future; capture = capture }

pub placed : (b : Held) (st : State) → StandsFor b st → IsPlaced b.grove b.root st.term (place_in st.spot.selection) b.selected
placed b st s = record { top = s.whole.top; holds = s.whole.holds; way = s.selected }

-- one state
pub stands_told : (b : Held) (st : State) → StandsFor b st → state_of b ≡ st
unfolding state_of
stands_told b st s =
    let g = b.grove in
    let term : term_in b ≡ st.term = held_at g s.grove b.root st.term s.whole.holds in
    let path : path_to (selected_in b) ≡ st.spot.selection.path =
    ap path_to (way_is g s.grove (place_in st.spot.selection) b.selected b.root s.whole.top s.selected) ∙ path_back st.spot.selection.path in
    ap (λ t. state t (path_to (selected_in b)) b.count b.top g.view (told_past (term_at g) t b.past) (told_future (term_at g) t b.future) b.capture) term
    ∙ ap (λ p. state st.term p b.count b.top g.view (told_past (term_at g) st.term b.past) (told_future (term_at g) st.term b.future) b.capture) path
    ∙ ap (λ n. state st.term st.spot.selection.path n b.top g.view (told_past (term_at g) st.term b.past) (told_future (term_at g) st.term b.future) b.capture) s.count
    ∙ ap (λ n. state st.term st.spot.selection.path st.spot.selection.count n g.view (told_past (term_at g) st.term b.past) (told_future (term_at g) st.term b.future) b.capture) s.top
    ∙ ap (λ v. state st.term st.spot.selection.path st.spot.selection.count st.spot.top v (told_past (term_at g) st.term b.past) (told_future (term_at g) st.term b.future) b.capture) s.view
    ∙ ap (λ cs. state st.term st.spot.selection.path st.spot.selection.count st.spot.top st.spot.view cs (told_future (term_at g) st.term b.future) b.capture) s.past
    ∙ ap (λ cs. state st.term st.spot.selection.path st.spot.selection.count st.spot.top st.spot.view st.past cs b.capture) s.future
    ∙ ap (λ c. state st.term st.spot.selection.path st.spot.selection.count st.spot.top st.spot.view st.past st.future c) s.capture

pub is_buffer : (b : Held) (st : State) (count room : ℕ) (page : Option Sheet) (standing : Standing) → StandsFor b st → count ≡ nodes_of st.term → room ≡ 256 → length b.past + length b.future ≤ 256 → Keeps page (page_by b st) → IsStanding standing b.grove.spec st → IsBuffer b count room page standing
is_buffer b st count room page standing s counted room_is few page_is standing_is =
    let told = sym (stands_told b st s) in
    record {
      stands = subst (StandsFor b) told s;
      counted = subst (λ z. count ≡ nodes_of z.term) told counted;
      room_is = room_is;
      few = few;
      page_is = subst (λ z. Keeps page (page_by b z)) told page_is;
      standing_is = subst (IsStanding standing b.grove.spec) told standing_is;
    }

-- no capture is alone
pub no_capture : (b : Held) → b.capture ≡ None → (n : ℕ) → MatchOption b.capture ⊤ (λ _. n ≡ 1)
no_capture b none n = subst (λ (o : Option Captured). MatchOption o ⊤ (λ _. n ≡ 1)) (sym none) tt

-- another resting place is selected
abbrev pub stood : Held → NodeId → ℕ → Held
stood b n top = record b { selected = n; count = 1; top = top }

pub selected_stands : (b : Held) (st : State) (u : Place) (n : NodeId) (top : ℕ) → StandsFor b st → b.capture ≡ None → Climbs (nodes b.grove) u n b.root → rests (shown_spec b.grove.spec st) st.term u ≡ true
    → top ≡ topped b.height (first_line b.grove.spec st.spot.view st.term u) b.top → StandsFor (stood b n top) (states.selected b.grove.spec b.height u st)
selected_stands b st u n top s none way rest is =
    let spec = b.grove.spec in
    record {
      grove = s.grove;
      whole = s.whole;
      fits = s.fits;
      small = s.small;
      tall = s.tall;
      selected = subst (λ z. Climbs (nodes b.grove) z n b.root) (sym (path_there u)) way;
      count = refl;
      top = is ∙ ap (λ z. topped b.height (first_line spec st.spot.view st.term z) b.top) (sym (path_there u)) ∙ ap (topped b.height (first_line spec st.spot.view st.term (place_in (alone u)))) s.top;
      view = s.view;
      spot = spot_seen spec b.height st.term st.spot.view (alone u) st.spot.top s.tall (alone_selected spec st.spot.view st.term u rest);
      past = s.past;
      future = s.future;
      undoes = s.undoes;
      redoes = s.redoes;
      roots = s.roots;
      capture = s.capture;
      alone = no_capture b none 1;
    }

-- another count of elements
abbrev pub counted : Held → ℕ → Held
counted b n = record b { count = n }

pub recounted_stands : (b : Held) (st : State) (n : ℕ) → StandsFor b st → b.capture ≡ None → is_selection b.grove.spec st.spot.view st.term (place_in st.spot.selection) n ≡ true → StandsFor (counted b n) (states.recounted n st)
recounted_stands b st n s none is = record {
  grove = s.grove;
  whole = s.whole;
  fits = s.fits;
  small = s.small;
  tall = s.tall;
  selected = s.selected;
  count = refl;
  top = s.top;
  view = s.view;
  spot = and_true (is_selection b.grove.spec st.spot.view st.term (place_in st.spot.selection) n) (is_seen b.grove.spec b.height st.spot.view st.term (place_in st.spot.selection) st.spot.top) is (spot_shows b.grove.spec b.height st.term st.spot s.spot);
  past = s.past;
  future = s.future;
  undoes = s.undoes;
  redoes = s.redoes;
  roots = s.roots;
  capture = s.capture;
  alone = no_capture b none n;
}

run_of : (n e : ℕ) → 1 < n → n ≤ e → (nat_eq n 1 || (nat_lt 1 n && not (nat_lt e n))) ≡ true
run_of n e some all = grind (arith, nat_tests)

run_from : (n e : ℕ) → (nat_eq n 1 || (nat_lt 1 n && not (nat_lt e n))) ≡ true → n ≢ 1 → (1 < n) × (n ≤ e)
run_from n e is many = (grind (arith, nat_tests), grind (arith, nat_tests))

some_from : (n e : ℕ) → (nat_eq n 1 || (nat_lt 1 n && not (nat_lt e n))) ≡ true → 1 ≤ n
some_from n e is = grind (arith, nat_tests)

pub longer : (b : Held) (st : State) → StandsFor b st → st.spot.selection.count < elements_at b.grove.spec st.term (place_in st.spot.selection)
    → is_selection b.grove.spec st.spot.view st.term (place_in st.spot.selection) (st.spot.selection.count + 1) ≡ true
longer b st s more =
    let spec = b.grove.spec in
    let u = place_in st.spot.selection in
    let n = st.spot.selection.count in
    let is = spot_selects spec b.height st.term st.spot s.spot in
    let parts = and_parts (rests (shown_spec spec st) st.term u) (nat_eq n 1 || (nat_lt 1 n && not (nat_lt (elements_at spec st.term u) n))) is in
    let low = some_from n (elements_at spec st.term u) parts.1 in
    and_true (rests (shown_spec spec st) st.term u) (nat_eq (n + 1) 1 || (nat_lt 1 (n + 1) && not (nat_lt (elements_at spec st.term u) (n + 1)))) parts.0
    (run_of (n + 1) (elements_at spec st.term u) (omega (arith, low)) (omega (arith, more)))

one_or : (n e : ℕ) → (1 < n) × (n ≤ e) → (nat_eq (n - 1) 1 || (nat_lt 1 (n - 1) && not (nat_lt e (n - 1)))) ≡ true
one_or n e h = (let a = h.0 in let b = h.1 in grind (arith, nat_tests))

pub shorter : (b : Held) (st : State) → StandsFor b st → st.spot.selection.count ≢ 1
    → is_selection b.grove.spec st.spot.view st.term (place_in st.spot.selection) (st.spot.selection.count - 1) ≡ true
shorter b st s many =
    let spec = b.grove.spec in
    let u = place_in st.spot.selection in
    let n = st.spot.selection.count in
    let e = elements_at spec st.term u in
    let parts = and_parts (rests (shown_spec spec st) st.term u) (nat_eq n 1 || (nat_lt 1 n && not (nat_lt e n))) (spot_selects spec b.height st.term st.spot s.spot) in
    and_true (rests (shown_spec spec st) st.term u) (nat_eq (n - 1) 1 || (nat_lt 1 (n - 1) && not (nat_lt e (n - 1)))) parts.0 (one_or n e (run_from n e parts.1 many))

-- another capture, or none
abbrev pub capturing : Held → Option Captured → Held
capturing b c = record b { capture = c }

pub captured_stands : (b : Held) (st : State) (c : Option Captured) → StandsFor b st → MatchOption c ⊤ (λ _. b.count ≡ 1) → StandsFor (capturing b c) (record st { capture = c })
captured_stands b st c s one = record {
  grove = s.grove;
  whole = s.whole;
  fits = s.fits;
  small = s.small;
  tall = s.tall;
  selected = s.selected;
  count = s.count;
  top = s.top;
  view = s.view;
  spot = s.spot;
  past = s.past;
  future = s.future;
  undoes = s.undoes;
  redoes = s.redoes;
  roots = s.roots;
  capture = refl;
  alone = one;
}
