-- What is selected in a state, and after what is done in it.
use Rattle.std.specs.Prelude.{◌≡◌, ◌≢◌, ◌⊎◌, refl, ℕ, zero, suc, ◌+◌, ◌-◌, ◌<◌, ◌≤◌, Bool, true, false, not, ◌&&◌, ◌||◌, nat_eq, nat_lt, if◌then◌else◌, List, [], ◌∷◌, length, take, Contains, Option, None, Some, is_some, option_and_then, option_map, unwrap_or, bytes_eq}
use Rattle.std.specs.List.{list_any}
use Rattle.std.proofs.Common.{sym, ap, ◌∙◌, subst, inl, inr, arith}
use Rattle.std.proofs.lemmas.Bool.{and_parts, cases_lt, false≢true}
use Rattle.sg_kinds.specs.Values.{Bytes}
use Rattle.sg_kinds.specs.Terms.{Term}
use Rattle.sg_kinds.specs.Places.{Place, put, sub}
use Rattle.sg_kinds.specs.FromScratch.{value_in}
use Rattle.sg_kinds.specs.declared.spec.Spec.{Spec}
use Rattle.sg_kinds.proofs.Elementary.{and_true, bytes_is, bytes_itself, eq_is, eq_true, lt_is, lt_true, not_true, option_map_some, or_one, or_right, some_there}
use Rattle.sg_groves.proofs.Lists.{contains_either, contains_none}
use Rattle.sg_changes.specs.Captured.{Captured}
use Rattle.sg_changes.specs.Changes.{Change, Mark as Marking, Put, marked as marked_term, marks_of, part_of, spot_along, term_along}
use Rattle.sg_changes.specs.declared.direction.Direction.{Direction}
use Rattle.sg_changes.specs.declared.direction.Direction.TheVariants.{Back, Forth}
use Rattle.sg_changes.specs.declared.spot.Selection.{Selection}
use Rattle.sg_changes.specs.declared.spot.Spot.{Spot}
use Rattle.sg_select.specs.Paths.{spine_from}
use Rattle.sg_select.specs.RestingPlaces.{above, is_open, rests, rests_under, stands_resting}
use Rattle.sg_select.proofs.Unparsing.{reached_unparsed}
use Rattle.sg_unparse.specs.Page.{Region, region_of}
use Rattle.sg_unparse.specs.Unparsed.{unparsed_places}
use Rattle.sg_unparse.proofs.Spans.{regions_end}
use Rattle.sg_states.specs.Seen.{is_seen, marks_seen, settled_spot}
use Rattle.sg_states.specs.Selections.{alone, elements_at, is_selection}
use Rattle.sg_states.specs.States.{State, begun, changed, ended, erased, extended, extension, gone, gone_by, marked, pointed, remarked, replaced, selected, selected_place, shown_spec, shrunk, taken_back, typed, undone, viewed}
use Rattle.sg_states.specs.Turned.{turned_in}
use Rattle.sg_states.specs.declared.marks.Extended.TheVariants.{Done, NotInList, NoPlace}
use Rattle.sg_states.specs.declared.marks.Mark.{Mark}
use Rattle.sg_states.proofs.Selecting.{alone_selected, selection_rests}
use Rattle.sg_states.proofs.Spotted.{selected_seen, settled_seen, spot_seen, spot_selects, spot_shows}
use Rattle.sg_states.proofs.Undoing.{marked_goes_back, replaced_back}
use Rattle.sg_buffer.specs.Held.{typed_by}
use Rattle.sg_buffer.proofs.Begun.{begun_spot}
use Rattle.sg_glosses.specs.Selected.{AllSelected, HasSelection, IsSelected}

-- counts of elements, one more and one less
lt_false : (m n : ℕ) → n ≤ m → nat_lt m n ≡ false
lt_false m n low = by (nat_lt m n) refl
  where
    by : (b : Bool) → nat_lt m n ≡ b → b ≡ false
    by true more = let over = lt_is m n more in absurd (omega (arith, over, low))
    by false more = refl

abbrev may_count : ℕ → ℕ → Bool
may_count e n = nat_eq n 1 || (nat_lt 1 n && not (nat_lt e n))

within_count : (e n : ℕ) → 1 < n → n ≤ e → may_count e n ≡ true
within_count e n many few = or_right (nat_eq n 1) (nat_lt 1 n && not (nat_lt e n)) (and_true (nat_lt 1 n) (not (nat_lt e n)) (lt_true 1 n many) (ap not (lt_false e n few)))

one_count : (e n : ℕ) → n ≡ 1 → may_count e n ≡ true
one_count e n one = ap (λ b. b || (nat_lt 1 n && not (nat_lt e n))) (eq_true n 1 one)

count_more : (e n : ℕ) → n < e → may_count e (n + 1) ≡ true
count_more e zero low = refl
count_more e (suc n) low = within_count e (suc n + 1) (omega arith) (omega (arith, low))

count_less : (e n : ℕ) → nat_eq n 1 ≡ false → may_count e n ≡ true → may_count e (n - 1) ≡ true
count_less e n not_one may = by (or_one (nat_eq n 1) (nat_lt 1 n && not (nat_lt e n)) may)
  where
    by_two : (b : Bool) → nat_eq n 2 ≡ b → 1 < n → n ≤ e → may_count e (n - 1) ≡ true
    by_two true two many few = let is = eq_is n 2 two in one_count e (n - 1) (omega (arith, is))
    by_two false two many few =
        let far : n ≢ 2 = λ is. false≢true (sym two ∙ eq_true n 2 is) in
        within_count e (n - 1) (omega (arith, far, many)) (omega (arith, few))

    not_over : not (nat_lt e n) ≡ true → n ≤ e
    not_over below = at_most (nat_lt e n) refl (not_true (nat_lt e n) below)
      where
        at_most : (b : Bool) → nat_lt e n ≡ b → b ≡ false → n ≤ e
        at_most true is low = absurd (false≢true (sym low))
        at_most false is low = elim (cases_lt e n) [ inl over ↦ absurd (false≢true (sym is ∙ lt_true e n over)) | inr few ↦ few ]

    by : (nat_eq n 1 ≡ true) ⊎ ((nat_lt 1 n && not (nat_lt e n)) ≡ true) → may_count e (n - 1) ≡ true
    by (inl one) = absurd (false≢true (sym not_one ∙ one))
    by (inr both) =
        let parts = and_parts (nat_lt 1 n) (not (nat_lt e n)) both in
        by_two (nat_eq n 2) refl (lt_is 1 n parts.0) (not_over parts.1)

-- changes of which only the first are kept
take_selected : (spec : Spec) (height : ℕ) (d : Direction) (n : ℕ) (t : Term) (cs : List Change) → AllSelected spec height d t cs → AllSelected spec height d t (take n cs)
take_selected spec height d zero t cs all = tt
take_selected spec height d (suc n) t [] all = tt
take_selected spec height d (suc n) t (c ∷ cs) all = (all.0, take_selected spec height d n (term_along d t c) cs all.1)

pub begun_selects : (spec : Spec) (height : ℕ) (t : Term) → 0 < height → HasSelection spec height (begun t)
begun_selects spec height t tall = record { now = begun_spot spec height t (omega (arith, tall)); past = tt; future = tt }

module _ (spec : Spec) (height : ℕ) (tall : 0 < height) (st : State) (h : HasSelection spec height st) where
  -- a resting place
  pub selected_selects : (v : Place) → rests (shown_spec spec st) st.term v ≡ true → HasSelection spec height (selected spec height v st)
  selected_selects v rest = record {
    now = spot_seen spec height st.term st.spot.view (alone v) st.spot.top tall (alone_selected spec st.spot.view st.term v rest);
    past = h.past;
    future = h.future;
  }

  -- another view
  pub viewed_selects : (v : ℕ) → HasSelection spec height (viewed spec height v st)
  viewed_selects v = record { now = settled_seen spec height st.term v st.spot tall; past = h.past; future = h.future }

  -- a change
  module _ (t : Term) (change : Spot → Change) (select : Selection) where
    abbrev spot : Spot
    spot = settled_spot spec height st.spot.view t select st.spot.top

    abbrev it : Change
    it = change spot

    changed_selects : term_along Back t it ≡ st.term → term_along Forth st.term it ≡ t → spot_along Back it ≡ st.spot → spot_along Forth it ≡ spot
        → HasSelection spec height (changed spec height t change select st)
    changed_selects back forth was is =
        let here : IsSelected spec height t spot = selected_seen spec height t st.spot.view select st.spot.top tall in
        let there : IsSelected spec height (term_along Back t it) st.spot = subst (λ x. IsSelected spec height x st.spot) (sym back) h.now in
        record {
          now = here;
          past = (
            record {
              back = ap (λ x. term_along Forth x it) back ∙ forth;
              here = subst (IsSelected spec height t) (sym is) here;
              there = subst (IsSelected spec height (term_along Back t it)) (sym was) there;
            },
            subst (λ x. AllSelected spec height Back x (take 255 st.past)) (sym back) (take_selected spec height Back 255 st.term st.past h.past),
          );
          future = tt;
        }

  pub replaced_selects : (u : Place) (s : Term) (select : Selection) → HasSelection spec height (replaced spec height u s select st)
  replaced_selects u s select =
      changed_selects (put st.term u s) (Put u (part_of st.term u) s st.spot) select (ap (λ (x : State). x.term) (replaced_back spec height u s select st h.now)) refl refl refl

  pub marked_selects : (mark : Mark) (next : State) → marked spec height mark st ≡ Some next → HasSelection spec height next
  marked_selects mark next is =
      let u = selected_place st in
      let x = part_of st.term u in
      let m = option_map_some (λ new. remarked spec height (unwrap_or (marks_of x) new) new st) (turned_in (shown_spec spec st) mark x) next is in
      let back = subst (λ n. undone spec height n ≡ taken_back n st) (sym m.2) (marked_goes_back spec height mark st next h.now is) in
      subst (HasSelection spec height) m.2
      (changed_selects (marked_term st.term u m.0) (Marking u (unwrap_or (marks_of x) m.0) m.0 st.spot) (alone u) (ap (λ (n : State). n.term) back) refl refl refl)

  -- a way along a change
  back_selects : (cs : List Change) → AllSelected spec height Back st.term cs → HasSelection spec height (gone_by spec height Back cs st)
  back_selects [] all = h
  back_selects (c ∷ cs) all =
      let g = all.0 in
      record {
        now = settled_seen spec height (term_along Back st.term c) st.spot.view (spot_along Back c) tall;
        past = all.1;
        future = (
          record {
            back = ap (λ x. term_along Back x c) g.back;
            here = g.there;
            there = subst (λ x. IsSelected spec height x (spot_along Forth c)) (sym g.back) g.here;
          },
          subst (λ x. AllSelected spec height Forth x st.future) (sym g.back) h.future,
        );
      }

  forth_selects : (cs : List Change) → AllSelected spec height Forth st.term cs → HasSelection spec height (gone_by spec height Forth cs st)
  forth_selects [] all = h
  forth_selects (c ∷ cs) all =
      let g = all.0 in
      record {
        now = settled_seen spec height (term_along Forth st.term c) st.spot.view (spot_along Forth c) tall;
        past = (
          record {
            back = ap (λ x. term_along Forth x c) g.back;
            here = g.there;
            there = subst (λ x. IsSelected spec height x (spot_along Back c)) (sym g.back) g.here;
          },
          subst (λ x. AllSelected spec height Back x st.past) (sym g.back) h.past,
        );
        future = all.1;
      }

  pub gone_selects : (d : Direction) → HasSelection spec height (gone spec height d st)
  gone_selects Back = back_selects st.past h.past
  gone_selects Forth = forth_selects st.future h.future

  -- one more element, and one less
  abbrev u : Place
  u = selected_place st

  abbrev n : ℕ
  n = st.spot.selection.count

  selects : is_selection spec st.spot.view st.term u n ≡ true
  selects = spot_selects spec height st.term st.spot h.now

  counted : (k : ℕ) → may_count (elements_at spec st.term u) k ≡ true → IsSelected spec height st.term (record st.spot { selection = record st.spot.selection { count = k } })
  counted k may =
      and_true (is_selection spec st.spot.view st.term u k) (is_seen spec height st.spot.view st.term u st.spot.top)
      (and_true (rests (shown_spec spec st) st.term u) (may_count (elements_at spec st.term u) k) (selection_rests spec st.spot.view st.term u n selects) may)
      (spot_shows spec height st.term st.spot h.now)

  pub extended_selects : extension spec st ≡ Done → HasSelection spec height (extended st)
  extended_selects more = by (is_some (spine_from spec st.term u)) (nat_lt n (elements_at spec st.term u)) refl more
    where
      by : (a b : Bool) → nat_lt n (elements_at spec st.term u) ≡ b → (if a then (if b then Done else NoPlace) else NotInList) ≡ Done → HasSelection spec height (extended st)
      by true true low e = record { now = counted (n + 1) (count_more (elements_at spec st.term u) n (lt_is n (elements_at spec st.term u) low)); past = h.past; future = h.future }
      by true false low e = absurd (let f = e in cc)
      by false b low e = absurd (let f = e in cc)

  pub shrunk_selects : nat_eq n 1 ≡ false → HasSelection spec height (shrunk st)
  shrunk_selects many =
      let may = (and_parts (rests (shown_spec spec st) st.term u) (may_count (elements_at spec st.term u) n) selects).1 in
      record { now = counted (n - 1) (count_less (elements_at spec st.term u) n many may); past = h.past; future = h.future }

  -- what is typed
  pub typed_selects : (bytes : Bytes) → HasSelection spec height (typed bytes st)
  typed_selects bytes = record { now = h.now; past = h.past; future = h.future }

  pub erased_selects : HasSelection spec height (erased st)
  erased_selects = record { now = h.now; past = h.past; future = h.future }

  pub pointed_selects : (k : ℕ) → HasSelection spec height (pointed k st)
  pointed_selects k = record { now = h.now; past = h.past; future = h.future }

  pub ended_selects : HasSelection spec height (ended st)
  ended_selects = record { now = h.now; past = h.past; future = h.future }

-- a resting place is there, and can be reached
module _ (spec : Spec) (t : Term) where
  pub rests_there : (u : Place) → rests spec t u ≡ true → (x : Term) × (sub t u ≡ Some x)
  rests_there [] rest = (t, refl)
  rests_there (k ∷ u) rest = by (sub t u) refl (and_parts (is_open spec t (k ∷ u)) (stands_resting spec t k u) rest).1
    where
      at : (x : Term) (o : Option Term) → sub t (k ∷ u) ≡ o → unwrap_or (option_map (rests_under spec x k) o) false ≡ true → (y : Term) × (sub t (k ∷ u) ≡ Some y)
      at x None there stands = absurd (false≢true stands)
      at x (Some y) there stands = (y, there)

      by : (o : Option Term) → sub t u ≡ o → unwrap_or (option_and_then (λ x. option_map (rests_under spec x k) (sub t (k ∷ u))) o) false ≡ true → (y : Term) × (sub t (k ∷ u) ≡ Some y)
      by None there stands = absurd (false≢true stands)
      by (Some x) there stands = at x (sub t (k ∷ u)) refl stands

  pub rests_open : (u : Place) → rests spec t u ≡ true → is_open spec t u ≡ true
  rests_open [] rest = refl
  rests_open (k ∷ u) rest = (and_parts (is_open spec t (k ∷ u)) (stands_resting spec t k u) rest).0

-- no place above another is that one
above_shorter : (u w : Place) → Contains (above u) w → length w < length u
above_shorter [] w has = absurd (contains_none w has)
above_shorter (k ∷ u) w has = by (contains_either u (above u) w has) (above_shorter u w)
  where
    by : (u ≡ w) ⊎ Contains (above u) w → (Contains (above u) w → length w < length u) → length w < suc (length u)
    by (inl same) shorter = let e = ap length same in omega (arith, e)
    by (inr rest) shorter = let e = shorter rest in omega (arith, e)

quiet_above : (capture : Option Captured) (u w : Place) → Contains (above u) w → typed_by capture u w ≡ None
quiet_above None u w has = refl
quiet_above (Some c) u w has = by (bytes_eq w u) refl
  where
    by : (b : Bool) → bytes_eq w u ≡ b → (if b then Some c.text else None) ≡ None
    by true same = let e = ap length (bytes_is w u same) in let low = above_shorter u w has in absurd (omega (arith, e, low))
    by false other = refl

any_there : (u : Place) (us : List Place) → Contains us u → list_any (bytes_eq u) us ≡ true
any_there u [] has = absurd (contains_none u has)
any_there u (v ∷ us) has = by (contains_either v us u has) (any_there u us)
  where
    by : (v ≡ u) ⊎ Contains us u → (Contains us u → list_any (bytes_eq u) us ≡ true) → (bytes_eq u v || list_any (bytes_eq u) us) ≡ true
    by (inl same) any = ap (λ b. b || list_any (bytes_eq u) us) (ap (bytes_eq u) same ∙ bytes_itself u)
    by (inr rest) any = or_right (bytes_eq u v) (list_any (bytes_eq u) us) (any rest)

-- so it has a region, also where a text is typed in its place
pub selected_region : (spec : Spec) (height : ℕ) (st : State) → IsSelected spec height st.term st.spot → (r : Region) × (region_of (marks_seen spec st.spot.view st.term (typed_by st.capture (selected_place st))) (selected_place st) ≡ Some r)
selected_region spec height st now =
    let shown = shown_spec spec st in
    let u = selected_place st in
    let typed = typed_by st.capture u in
    let rest = selection_rests spec st.spot.view st.term u st.spot.selection.count (spot_selects spec height st.term st.spot now) in
    let x = rests_there shown st.term u rest in
    let has = reached_unparsed shown typed st.term x.0 u x.1 (rests_open shown st.term u rest) (quiet_above st.capture u) in
    some_there (region_of (marks_seen spec st.spot.view st.term typed) u)
    (regions_end shown (value_in spec st.term) typed [] st.term 0 u ∙ any_there u (unparsed_places shown typed [] st.term) has)
