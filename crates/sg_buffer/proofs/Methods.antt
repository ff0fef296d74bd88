-- What each call makes of a buffer.
use Rattle.std.specs.Prelude.{◌≡◌, ◌≢◌, refl, ℕ, ◌+◌, ◌-◌, ◌<◌, ◌≤◌, true, min, List, [], ◌∷◌, length, Option, None, Some, option_map, unwrap_or, MatchOption, ⊤, IfSome}
use Rattle.std.proofs.Common.{sym, ap, ◌∙◌, subst}
use Rattle.sg_kinds.specs.Terms.{Term}
use Rattle.sg_kinds.specs.Places.{Place, place_of}
use Rattle.sg_kinds.specs.InView.{in_view}
use Rattle.sg_forest.specs.declared.node_id.NodeId.{NodeId}
use Rattle.sg_forest.specs.Trees.{Climbs, IsInside, IsLive}
use Rattle.sg_forest.proofs.Paths.{root_is_live}
use Rattle.sg_groves.specs.Grove.{nodes, spec_shown}
use Rattle.sg_groves.specs.Holds.{Holds, IsPlaced}
use Rattle.sg_changes.specs.Captured.{Captured, captured, put_in, taken_out}
use Rattle.sg_changes.specs.Top.{topped}
use Rattle.sg_select.specs.Leads.{LeadsTo}
use Rattle.sg_select.specs.RestingPlaces.{rests, settled}
use Rattle.sg_select.specs.Paths.{elements, spine_from}
use Rattle.sg_select.proofs.Fronts.{climber_live}
use Rattle.sg_select.proofs.Leading.{leads_none}
use Rattle.sg_select.proofs.Settling.{settled_rests}
use Rattle.sg_unparse.specs.Page.{cells_of, owner_at}
use Rattle.sg_unparse.specs.Sheet.{Sheet}
use Rattle.sg_unparse.specs.declared.page.Beginning.{Beginning}
use Rattle.sg_buffer.specs.declared.standing.Standing.{Standing}
use Rattle.sg_states.specs.Beginnings.{Begins}
use Rattle.sg_states.specs.Selections.{elements_at, path_to}
use Rattle.sg_states.specs.Seen.{first_line, marks_seen, nothing_typed}
use Rattle.sg_states.specs.States as states
use Rattle.sg_states.specs.States.{State, extension, selected_place, shown_spec, target}
use Rattle.sg_states.specs.Paged.{IsWhole, page_seen}
use Rattle.sg_states.specs.declared.marks.Extended.TheVariants.{Done, NotInList, NoPlace}
use Rattle.sg_states.specs.declared.marks.Move.{Move}
use Rattle.sg_states.proofs.Selecting.{path_back, selection_rests}
use Rattle.sg_states.proofs.Spotted.{spot_selects}
use Rattle.sg_exchanges.specs.Known.{IsKnown}
use Rattle.sg_buffer.specs.Held.{Held, shown, state_of, typed_by}
use Rattle.sg_buffer.specs.Buffers.{IsBuffer, Keeps}
use Rattle.sg_buffer.specs.declared.buffers.Buffer.TheInside.{Inside}
use Rattle.sg_buffer.proofs.Closing.{Closes, captured_closes, counted_closes, plain_page, stood_closes}
use Rattle.sg_buffer.proofs.Extending.{full_told, more_there, more_told, none_told}
use Rattle.sg_buffer.proofs.Going.{Reached, cell_leads, cell_live, cell_rests, move_rests, reached, settled_there}
use Rattle.sg_buffer.proofs.Stands.{capturing, counted, longer, shorter, stood}
use Rattle.sg_buffer.proofs.Stands as stands

-- what the fields hold
abbrev pub held : Inside → Held
held b = record {
  grove = b.terms;
  root = b.root;
  selected = b.selected;
  count = b.count;
  top = b.top;
  height = b.height;
  past = b.history.past;
  future = b.history.future;
  capture = b.capture;
}

module _ (b : Held) (count room : ℕ) (page : Option Sheet) (standing : Standing) (is : IsBuffer b count room page standing) where
  abbrev pub now : State
  now = state_of b

  pub placed_now : IsPlaced b.grove b.root now.term (selected_place now) b.selected
  placed_now = stands.placed b now is.stands

  -- the selected node is live
  pub live_now : IsLive (nodes b.grove) b.selected
  live_now = climber_live b.grove (selected_place now) b.selected b.root is.stands.whole.top is.stands.selected

  -- the grove is shown in the view of the state
  pub view_now : b.grove.view ≡ now.spot.view
  view_now = is.stands.view

  pub spec_now : spec_shown b.grove ≡ shown_spec b.grove.spec now
  spec_now = ap (in_view b.grove.spec) view_now

  -- the path that is kept leads to the selected node
  pub way_there : Climbs (nodes b.grove) (place_of standing.way) b.selected b.root
  way_there = subst (λ p. Climbs (nodes b.grove) (place_of p) b.selected b.root) (sym is.standing_is.0) is.stands.selected

  pub rests_now : rests (spec_shown b.grove) now.term (selected_place now) ≡ true
  rests_now =
      subst (λ z. rests z now.term (selected_place now) ≡ true) (sym spec_now)
      (selection_rests b.grove.spec now.spot.view now.term (selected_place now) now.spot.selection.count (spot_selects b.grove.spec b.height now.term now.spot is.stands.spot))

  -- a node that settles where it is
  pub stand_closes : (p : Sheet) → p ≡ shown b → (o : Standing) (n : NodeId) (top : ℕ) → ((u : Place) → Climbs (nodes b.grove) u n b.root → o.way ≡ path_to u) → b.capture ≡ None → ((u : Place) → Climbs (nodes b.grove) u n b.root → settled (shown_spec b.grove.spec now) now.term u ≡ u)
      → ((u : Place) → IsWhole b.grove b.root now.term → Climbs (nodes b.grove) u n b.root → p ≡ page_seen b.grove b.root now.term nothing_typed → top ≡ topped b.height (first_line b.grove.spec b.grove.view now.term u) b.top)
      → ((u : Place) → IsWhole b.grove b.root now.term → Climbs (nodes b.grove) u n b.root → p ≡ page_seen b.grove b.root now.term nothing_typed → IfSome o.begins (Begins b.grove.spec b.grove.view now.term u))
      → (u : Place) → Climbs (nodes b.grove) u n b.root → Closes (stood b n top) (states.selected b.grove.spec b.height u now) count room (Some p) o
  stand_closes p shows o n top path none still seen begun u way =
      let plain = plain_page b count room page standing is p none shows in
      let rest : rests (shown_spec b.grove.spec now) now.term u ≡ true = subst (λ z. rests (shown_spec b.grove.spec now) now.term z ≡ true) (still u way) (settled_rests (shown_spec b.grove.spec now) now.term u) in
      stood_closes b count room page standing is p shows o u n top (path u way) (subst (λ v. IfSome o.begins (Begins b.grove.spec v now.term u)) view_now (begun u is.stands.whole way plain)) none way rest
      (seen u is.stands.whole way plain ∙ ap (λ v. topped b.height (first_line b.grove.spec v now.term u) b.top) view_now)

  -- a move that leads to a node
  pub go_reaches : (to : Move) (n : NodeId) → LeadsTo b.grove b.root (target to (spec_shown b.grove) now.term (selected_place now)) (Some n)
      → Reached b.grove is.stands.grove b.root now.term is.stands.whole (target to (shown_spec b.grove.spec now) now.term (selected_place now)) n
  go_reaches to n leads =
      subst (λ z. Reached b.grove is.stands.grove b.root now.term is.stands.whole (target to z now.term (selected_place now)) n) spec_now
      (reached b.grove is.stands.grove b.root now.term is.stands.whole (target to (spec_shown b.grove) now.term (selected_place now)) n (move_rests b.grove is.stands.grove b.root now.term is.stands.whole to (selected_place now)) leads)

  pub still_there : (o : Option Place) (n : NodeId) → Reached b.grove is.stands.grove b.root now.term is.stands.whole o n → (u : Place) → Climbs (nodes b.grove) u n b.root → settled (shown_spec b.grove.spec now) now.term u ≡ u
  still_there o n r u way = subst (λ z. settled z now.term u ≡ u) spec_now (settled_there b.grove is.stands.grove b.root now.term is.stands.whole u r.place n r.way r.rest way)

  pub inside_there : (o : Option Place) (n : NodeId) → Reached b.grove is.stands.grove b.root now.term is.stands.whole o n → IsInside (nodes b.grove) n b.root
  inside_there o n r = record { path = r.place; climbs = r.way }

  -- counts
  pub longer_closes : b.capture ≡ None → now.spot.selection.count < elements_at b.grove.spec now.term (selected_place now) → Closes (counted b (b.count + 1)) (states.extended now) count room page standing
  longer_closes none more =
      subst (λ n. Closes (counted b (n + 1)) (states.extended now) count room page standing) (sym is.stands.count)
      (counted_closes b count room page standing is (now.spot.selection.count + 1) none (longer b now is.stands more))

  pub shorter_closes : b.capture ≡ None → now.spot.selection.count ≢ 1 → Closes (counted b (b.count - 1)) (states.shrunk now) count room page standing
  shorter_closes none many =
      subst (λ n. Closes (counted b (n - 1)) (states.shrunk now) count room page standing) (sym is.stands.count)
      (counted_closes b count room page standing is (now.spot.selection.count - 1) none (shorter b now is.stands many))

  -- captures
  pub typed_closes : (bytes : List ℕ) (c : Captured) → b.count ≡ 1 → c ≡ put_in (unwrap_or b.capture (captured [] 0)) bytes → Closes (capturing b (Some c)) (states.typed bytes now) count room None standing
  typed_closes bytes c one made =
      subst (λ o. Closes (capturing b (Some c)) (record now { capture = o }) count room None standing) (ap (λ z. Some z) (made ∙ ap (λ o. put_in (unwrap_or o (captured [] 0)) bytes) is.stands.capture))
      (captured_closes b count room page standing is (Some c) None one tt)

  pub erased_closes : (o : Option Captured) → o ≡ option_map taken_out b.capture → Closes (capturing b o) (states.erased now) count room None standing
  erased_closes o made =
      subst (λ z. Closes (capturing b o) (record now { capture = z }) count room None standing) (made ∙ ap (option_map taken_out) is.stands.capture)
      (captured_closes b count room page standing is o None (subst (λ (z : Option Captured). MatchOption z ⊤ (λ _. b.count ≡ 1)) (sym made) (alone b.capture is.stands.alone)) tt)
    where
      alone : (z : Option Captured) → MatchOption z ⊤ (λ _. b.count ≡ 1) → MatchOption (option_map taken_out z) ⊤ (λ _. b.count ≡ 1)
      alone None h = h
      alone (Some x) h = h

  pub ended_closes : Closes (capturing b None) (states.ended now) count room None standing
  ended_closes = captured_closes b count room page standing is None None tt tt

-- the same, where the fields are seen as another value
module _ (b v : Held) (view : b ≡ v) (count room : ℕ) (page : Option Sheet) (standing : Standing) (is : IsBuffer b count room page standing) where
  pub stood_here : (p : Sheet) → p ≡ shown v → (o : Standing) (n : NodeId) (top : ℕ) → ((root : NodeId) (t : Term) (u : Place) → IsPlaced b.grove root t u n → place_of o.way ≡ u) → IsInside (nodes v.grove) n v.root → v.capture ≡ None
      → ((u : Place) → Climbs (nodes v.grove) u n v.root → settled (shown_spec v.grove.spec (state_of v)) (state_of v).term u ≡ u)
      → ((root : NodeId) (t : Term) (u : Place) → IsWhole b.grove root t → Climbs (nodes b.grove) u n root → p ≡ page_seen b.grove root t nothing_typed → top ≡ topped b.height (first_line b.grove.spec b.grove.view t u) b.top)
      → ((root : NodeId) (t : Term) (u : Place) → IsWhole b.grove root t → Climbs (nodes b.grove) u n root → p ≡ page_seen b.grove root t nothing_typed → IfSome o.begins (Begins b.grove.spec b.grove.view t u))
      → IsBuffer (stood b n top) count room (Some p) o × ((u : Place) → Climbs (nodes v.grove) u n v.root → state_of (stood b n top) ≡ states.selected v.grove.spec v.height u (state_of v))
  stood_here p shows o n top named node none still seen begun =
      let here : IsInside (nodes b.grove) n b.root = subst (λ (z : Held). IsInside (nodes z.grove) n z.root) (sym view) node in
      let free : b.capture ≡ None = ap (λ (z : Held). z.capture) view ∙ none in
      let stays : (u : Place) → Climbs (nodes b.grove) u n b.root → settled (shown_spec b.grove.spec (state_of b)) (state_of b).term u ≡ u =
      subst (λ (z : Held). (u : Place) → Climbs (nodes z.grove) u n z.root → settled (shown_spec z.grove.spec (state_of z)) (state_of z).term u ≡ u) (sym view) still in
      let path : (u : Place) → Climbs (nodes b.grove) u n b.root → o.way ≡ path_to u =
      λ u way. sym (path_back o.way) ∙ ap path_to (named b.root (state_of b).term u (record { top = is.stands.whole.top; holds = is.stands.whole.holds; way = way })) in
      let all = stand_closes b count room page standing is p (subst (λ (z : Held). p ≡ shown z) (sym view) shows) o n top path free stays (λ u whole way paged. seen b.root (state_of b).term u whole way paged) (λ u whole way paged. begun b.root (state_of b).term u whole way paged) in (
        (all here.path here.climbs).is,
        subst (λ (z : Held). (u : Place) → Climbs (nodes z.grove) u n z.root → state_of (stood b n top) ≡ states.selected z.grove.spec z.height u (state_of z)) view (λ u way. (all u way).told),
      )

  -- what is known of the term
  pub known_here : (at : Beginning) → standing.begins ≡ Some at → IsKnown v.grove v.root (record { selected = b.selected; begins = at; count = count })
  known_here at kept =
      subst (λ (z : Held). IsKnown z.grove z.root (record { selected = b.selected; begins = at; count = count })) view (record {
        term = (state_of b).term;
        place = selected_place (state_of b);
        whole = is.stands.whole;
        way = is.stands.selected;
        rests = rests_now b count room page standing is;
        begins = subst (λ w. Begins b.grove.spec w (state_of b).term (selected_place (state_of b)) at) (sym (view_now b count room page standing is))
            (subst (λ o. MatchOption o ⊤ (Begins b.grove.spec (state_of b).spot.view (state_of b).term (selected_place (state_of b)))) kept is.standing_is.1);
        counted = is.counted;
      })

  -- a place to which a move or a cell leads, with its node
  pub record Found (o : Option Place) (n : NodeId) : Type 0 where
    pub place : Place
    pub at : o ≡ Some place
    pub way : Climbs (nodes v.grove) place n v.root
    pub still : (u : Place) → Climbs (nodes v.grove) u n v.root → settled (shown_spec v.grove.spec (state_of v)) (state_of v).term u ≡ u

  pub found : (o : Option Place) (n : NodeId) → Reached b.grove is.stands.grove b.root (state_of b).term is.stands.whole o n → Found o n
  found o n r = record {
    place = r.place;
    at = r.at;
    way = subst (λ (z : Held). Climbs (nodes z.grove) r.place n z.root) view r.way;
    still = subst (λ (z : Held). (u : Place) → Climbs (nodes z.grove) u n z.root → settled (shown_spec z.grove.spec (state_of z)) (state_of z).term u ≡ u) view (still_there b count room page standing is o n r);
  }

  abbrev pub goes : Held → Move → Option Place
  goes z to = target to (shown_spec z.grove.spec (state_of z)) (state_of z).term (selected_place (state_of z))

  pub gone : (to : Move) (n : NodeId) → ((root : NodeId) (t : Term) (u : Place) → IsPlaced b.grove root t u b.selected → rests (spec_shown b.grove) t u ≡ true → LeadsTo b.grove root (target to (spec_shown b.grove) t u) (Some n)) → Found (goes v to) n
  gone to n leads =
      subst (λ (z : Held). Found (goes z to) n) view
      (found (goes b to) n (go_reaches b count room page standing is to n (leads b.root (state_of b).term (selected_place (state_of b)) (placed_now b count room page standing is) (rests_now b count room page standing is))))

  pub stays : (to : Move) → ((root : NodeId) (t : Term) (u : Place) → IsPlaced b.grove root t u b.selected → rests (spec_shown b.grove) t u ≡ true → LeadsTo b.grove root (target to (spec_shown b.grove) t u) None) → goes v to ≡ None
  stays to leads =
      subst (λ (z : Held). goes z to ≡ None) view
      (subst (λ z. target to z (state_of b).term (selected_place (state_of b)) ≡ None) (spec_now b count room page standing is)
      (leads_none b.grove b.root (target to (spec_shown b.grove) (state_of b).term (selected_place (state_of b)))
      (leads b.root (state_of b).term (selected_place (state_of b)) (placed_now b count room page standing is) (rests_now b count room page standing is))))

  -- cells, in a view, and in that of the state
  abbrev picks_in : Held → ℕ → ℕ → ℕ → Option Place
  picks_in z w line col = owner_at (cells_of (marks_seen z.grove.spec w (state_of z).term nothing_typed)) line col

  abbrev picks_to_in : Held → ℕ → ℕ → ℕ → Option Place
  picks_to_in z w line col = option_map (settled (in_view z.grove.spec w) (state_of z).term) (picks_in z w line col)

  abbrev pub picks : Held → ℕ → ℕ → Option Place
  picks z line col = picks_in z (state_of z).spot.view line col

  abbrev pub picks_to : Held → ℕ → ℕ → Option Place
  picks_to z line col = picks_to_in z (state_of z).spot.view line col

  plain : (p : Sheet) → p ≡ shown v → v.capture ≡ None → p ≡ page_seen b.grove b.root (state_of b).term nothing_typed
  plain p shows none = plain_page b count room page standing is p (ap (λ (z : Held). z.capture) view ∙ none) (subst (λ (z : Held). p ≡ shown z) (sym view) shows)

  pub cell_there : (p : Sheet) → p ≡ shown v → v.capture ≡ None → (line col : ℕ) (n : NodeId) → owner_at p.cells line col ≡ Some n → IsLive (nodes b.grove) n
  cell_there p shows none line col n e = cell_live b.grove is.stands.grove b.root (state_of b).term is.stands.whole p (plain p shows none) line col n e

  pub picked_at : (p : Sheet) → p ≡ shown v → v.capture ≡ None → (line col : ℕ) (n : NodeId) → (owner_at p.cells line col ≡ None → Some n ≡ None)
      → ((m root : NodeId) (t : Term) (u : Place) → owner_at p.cells line col ≡ Some m → IsPlaced b.grove root t u m → LeadsTo b.grove root (Some (settled (spec_shown b.grove) t u)) (Some n)) → Found (picks_to v line col) n
  picked_at p shows none line col n no_cell leads =
      subst (λ (z : Held). Found (picks_to z line col) n) view
      (found (picks_to b line col) n
      (subst (λ w. Reached b.grove is.stands.grove b.root (state_of b).term is.stands.whole (picks_to_in b w line col) n) (view_now b count room page standing is)
      (reached b.grove is.stands.grove b.root (state_of b).term is.stands.whole (picks_to_in b b.grove.view line col) n (cell_rests b.grove is.stands.grove b.root (state_of b).term is.stands.whole (picks_in b b.grove.view line col))
      (cell_leads b.grove is.stands.grove b.root (state_of b).term is.stands.whole p (plain p shows none) line col (Some n) no_cell (λ m u e placed. leads m b.root (state_of b).term u e placed)))))

  pub picked_none : (p : Sheet) → p ≡ shown v → v.capture ≡ None → (line col : ℕ)
      → ((m root : NodeId) (t : Term) (u : Place) → owner_at p.cells line col ≡ Some m → IsPlaced b.grove root t u m → LeadsTo b.grove root (Some (settled (spec_shown b.grove) t u)) None) → picks v line col ≡ None
  picked_none p shows none line col leads =
      subst (λ (z : Held). picks z line col ≡ None) view
      (subst (λ w. picks_in b w line col ≡ None) (view_now b count room page standing is)
      (nothing (picks_in b b.grove.view line col) (cell_leads b.grove is.stands.grove b.root (state_of b).term is.stands.whole p (plain p shows none) line col None (λ e. refl) (λ m u e placed. leads m b.root (state_of b).term u e placed))))
    where
      nothing : (o : Option Place) → LeadsTo b.grove b.root (option_map (settled (spec_shown b.grove) (state_of b).term) o) None → o ≡ None
      nothing None h = refl
      nothing (Some w) h = absurd h

  -- a node of the term that settles
  pub inside_of : (n : NodeId) → IsInside (nodes v.grove) n v.root → IsInside (nodes b.grove) n b.root
  inside_of n inside = subst (λ (z : Held). IsInside (nodes z.grove) n z.root) (sym view) inside

  pub live_of : (n : NodeId) → IsInside (nodes v.grove) n v.root → IsLive (nodes b.grove) n
  live_of n inside = (let i = inside_of n inside in by i.path i.climbs)
    where
      by : (w : Place) → Climbs (nodes b.grove) w n b.root → IsLive (nodes b.grove) n
      by [] e = subst (IsLive (nodes b.grove)) (sym e) (root_is_live (nodes b.grove) b.root is.stands.whole.top)
      by (k ∷ w) c = record { node = c.1.node; found = c.1.found }

  pub settles : (n m : NodeId) (u : Place) → Climbs (nodes v.grove) u n v.root
      → ((root : NodeId) (t : Term) (u : Place) → IsPlaced b.grove root t u n → Climbs (nodes b.grove) (settled (spec_shown b.grove) t u) m root) → Found (Some (settled (shown_spec v.grove.spec (state_of v)) (state_of v).term u)) m
  settles n m u way settle =
      let here : Climbs (nodes b.grove) u n b.root = subst (λ (z : Held). Climbs (nodes z.grove) u n z.root) (sym view) way in
      let at = settle b.root (state_of b).term u (record { top = is.stands.whole.top; holds = is.stands.whole.holds; way = here }) in
      subst (λ (z : Held). Found (Some (settled (shown_spec z.grove.spec (state_of z)) (state_of z).term u)) m) view
      (found (Some (settled (shown_spec b.grove.spec (state_of b)) (state_of b).term u)) m
      (subst (λ z. Reached b.grove is.stands.grove b.root (state_of b).term is.stands.whole (Some (settled z (state_of b).term u)) m) (spec_now b count room page standing is)
      (record { place = settled (spec_shown b.grove) (state_of b).term u; at = refl; way = at; rest = settled_rests (spec_shown b.grove) (state_of b).term u })))

  -- counts
  pub longer_here : v.capture ≡ None → (state_of b).spot.selection.count < elements_at b.grove.spec (state_of b).term (selected_place (state_of b))
      → IsBuffer (counted b (b.count + 1)) count room page standing × (state_of (counted b (b.count + 1)) ≡ states.extended (state_of v))
  longer_here none more =
      let c = longer_closes b count room page standing is (ap (λ (z : Held). z.capture) view ∙ none) more in
      (c.is, subst (λ (z : Held). state_of (counted b (b.count + 1)) ≡ states.extended (state_of z)) view c.told)

  pub shorter_here : v.capture ≡ None → b.count ≢ 1 → IsBuffer (counted b (b.count - 1)) count room page standing × (state_of (counted b (b.count - 1)) ≡ states.shrunk (state_of v))
  shorter_here none many =
      let c = shorter_closes b count room page standing is (ap (λ (z : Held). z.capture) view ∙ none) (λ e. many (is.stands.count ∙ e)) in
      (c.is, subst (λ (z : Held). state_of (counted b (b.count - 1)) ≡ states.shrunk (state_of z)) view c.told)

  -- captures
  abbrev pub typing : Option Captured → Type 0
  typing o = IsBuffer (capturing b o) count room None standing

  pub typed_here : (bytes : List ℕ) (c : Captured) → v.count ≡ 1 → c ≡ put_in (unwrap_or b.capture (captured [] 0)) bytes
      → typing (Some c) × (state_of (capturing b (Some c)) ≡ states.typed bytes (state_of v))
  typed_here bytes c one made =
      let d = typed_closes b count room page standing is bytes c (ap (λ (z : Held). z.count) view ∙ one) made in
      (d.is, subst (λ (z : Held). state_of (capturing b (Some c)) ≡ states.typed bytes (state_of z)) view d.told)

  pub erased_here : (o : Option Captured) → o ≡ option_map taken_out b.capture → typing o × (state_of (capturing b o) ≡ states.erased (state_of v))
  erased_here o made =
      let d = erased_closes b count room page standing is o made in
      (d.is, subst (λ (z : Held). state_of (capturing b o) ≡ states.erased (state_of z)) view d.told)

  -- the same capture, and the same page
  pub unerased_here : (o : Option Captured) → o ≡ b.capture → IsBuffer (capturing b o) count room page standing × (capturing b o ≡ v)
  unerased_here o same = (
    subst (λ (z : Option Captured). IsBuffer (capturing b z) count room page standing) (sym same) is,
    ap (capturing b) same ∙ view,
  )

  pub ended_here : typing None × (state_of (capturing b None) ≡ states.ended (state_of v))
  ended_here =
      let d = ended_closes b count room page standing is in
      (d.is, subst (λ (z : Held). state_of (capturing b None) ≡ states.ended (state_of z)) view d.told)

  -- lists
  pub none_here : LeadsTo b.grove b.root (spine_from b.grove.spec (state_of b).term (selected_place (state_of b))) None → NotInList ≡ extension v.grove.spec (state_of v)
  none_here leads =
      subst (λ (z : Held). NotInList ≡ extension z.grove.spec (state_of z)) view (none_told b.grove is.stands.grove b.root (state_of b) is.stands.whole.holds is.stands.small leads)

  module _ (spine : NodeId) (r most : ℕ) (leads : (root : NodeId) (t : Term) (u : Place) → IsPlaced b.grove root t u b.selected → LeadsTo b.grove root (spine_from b.grove.spec t u) (Some spine))
      (elements_are : (s : Term) → Holds b.grove spine s → r ≡ min (elements b.grove.spec s) most) (wide : 65536 ≤ most) where
    leads_now : LeadsTo b.grove b.root (spine_from b.grove.spec (state_of b).term (selected_place (state_of b))) (Some spine)
    leads_now = leads b.root (state_of b).term (selected_place (state_of b)) (placed_now b count room page standing is)

    pub full_here : r ≤ b.count → NoPlace ≡ extension v.grove.spec (state_of v)
    full_here h =
        subst (λ (z : Held). NoPlace ≡ extension z.grove.spec (state_of z)) view
        (full_told b.grove is.stands.grove b.root (state_of b) is.stands.whole.holds is.stands.small spine b.count r most leads_now elements_are wide is.stands.count h)

    pub more_here : b.count < r → Done ≡ extension v.grove.spec (state_of v)
    more_here h =
        subst (λ (z : Held). Done ≡ extension z.grove.spec (state_of z)) view
        (more_told b.grove is.stands.grove b.root (state_of b) is.stands.whole.holds is.stands.small spine b.count r most leads_now elements_are wide is.stands.count h)

    pub room_here : b.count < r → (state_of b).spot.selection.count < elements_at b.grove.spec (state_of b).term (selected_place (state_of b))
    room_here h = more_there b.grove is.stands.grove b.root (state_of b) is.stands.whole.holds is.stands.small spine b.count r most leads_now elements_are wide is.stands.count h

  -- the path of the selected node
  pub path_here : standing.way ≡ (state_of v).spot.selection.path
  path_here = subst (λ (z : Held). standing.way ≡ (state_of z).spot.selection.path) view is.standing_is.0

  -- the point
  pub pointed_here : (k : ℕ) (c : Captured) → b.capture ≡ Some c → IsBuffer (capturing b (Some (record c { point = k }))) count room page standing × (state_of (capturing b (Some (record c { point = k }))) ≡ states.pointed k (state_of v))
  pointed_here k c one =
      let d : Closes (capturing b (Some (record c { point = k }))) (record (state_of b) { capture = Some (record c { point = k }) }) count room page standing =
      captured_closes b count room page standing is (Some (record c { point = k })) page
      (subst (λ (o : Option Captured). MatchOption o ⊤ (λ _. b.count ≡ 1)) one is.stands.alone)
      (subst (Keeps page) (ap (λ o. page_seen b.grove b.root (state_of b).term (typed_by o (selected_place (state_of b)))) one) is.page_is) in
      let same : Some (record c { point = k }) ≡ option_map (λ (x : Captured). record x { point = k }) (state_of b).capture =
      sym (ap (option_map (λ (x : Captured). record x { point = k })) (sym is.stands.capture ∙ one)) in (
        d.is,
        subst (λ (z : Held). state_of (capturing b (Some (record c { point = k }))) ≡ states.pointed k (state_of z)) view (d.told ∙ ap (λ o. let st : State = record (state_of b) { capture = o } in st) same),
      )

-- another point
pub moved_point : (i : Inside) (v : Held) → held i ≡ v → IsBuffer (held i) i.nodes i.history.room i.page i.standing → (k : ℕ) (c new : Captured) → i.capture ≡ Some c → new ≡ record c { point = k } → (then : Inside) → then ≡ record i { capture = Some new }
    → IsBuffer (held then) then.nodes then.history.room then.page then.standing × (state_of (held then) ≡ states.pointed k (state_of v))
moved_point i v view is k c new one made then after =
    subst (λ (z : Inside). IsBuffer (held z) z.nodes z.history.room z.page z.standing × (state_of (held z) ≡ states.pointed k (state_of v))) (sym after)
    (subst (λ (z : Captured). IsBuffer (capturing (held i) (Some z)) i.nodes i.history.room i.page i.standing × (state_of (capturing (held i) (Some z)) ≡ states.pointed k (state_of v))) (sym made)
    (pointed_here (held i) v view i.nodes i.history.room i.page i.standing is k c one))

pub none_open : (i : Inside) (v : Held) → held i ≡ v → (k : ℕ) → MatchOption v.capture ⊥ (λ (c : Captured). k ≤ length c.text) → i.capture ≡ None → ⊥
none_open i v view k there none = subst (λ (o : Option Captured). MatchOption o ⊥ (λ (c : Captured). k ≤ length c.text)) (sym (ap (λ (z : Held). z.capture) view) ∙ none) there
