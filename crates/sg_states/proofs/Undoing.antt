-- States to which an undo leads, and those to which a redo leads from there.
use Rattle.std.specs.Prelude.{◌≡◌, refl, ℕ, zero, suc, ◌<◌, true, List, [], ◌∷◌, take, Option, None, Some, slice_get, option_and_then, unwrap_or}
use Rattle.std.proofs.Common.{sym, ap, ◌∙◌, subst}
use Rattle.sg_kinds.specs.Terms.{Term, Terms, Leaf, Node, NoTerm, AndTerm, terms_of}
use Rattle.sg_kinds.specs.Places.{Place, child, put, sub, with_child, with_kid}
use Rattle.sg_kinds.specs.declared.spec.Spec.{Spec}
use Rattle.sg_kinds.proofs.Elementary.{option_map_some}
use Rattle.sg_kinds.proofs.TermLaws.{put_sub}
use Rattle.sg_groves.proofs.Puts.{put_put}
use Rattle.sg_changes.specs.Captured.{Captured}
use Rattle.sg_changes.specs.Chain.{HasNew, HasOld}
use Rattle.sg_changes.specs.Changes.{Change, Put, Mark as Marking, after_of, before_of, marks_of, marked as marked_term, part_of, redone as behind, undone as before, with_marks}
use Rattle.sg_changes.specs.declared.direction.Direction.TheVariants.{Back, Forth}
use Rattle.sg_changes.specs.declared.spot.Selection.{Selection}
use Rattle.sg_changes.specs.declared.spot.Spot.{Spot}
use Rattle.sg_changes.specs.declared.step.Marks.{Marks}
use Rattle.sg_changes.proofs.Chained.{there_and_back}
use Rattle.sg_changes.proofs.Marking.{part_put}
use Rattle.sg_states.specs.Selections.{alone}
use Rattle.sg_states.specs.Seen.{is_spot, respotted}
use Rattle.sg_states.specs.States.{State, changed, gone_by, marked, redone, remarked, replaced, selected_place, shown_spec, taken_back, undone, viewed}
use Rattle.sg_states.specs.Turned.{turned_in}
use Rattle.sg_states.specs.declared.marks.Mark.{Mark}
use Rattle.sg_states.proofs.Spotted.{selected_seen, settled_seen, spot_stays, spot_stays_in}

-- what is put where there is no place changes nothing
with_kid_none : (ts : Terms) (k : ℕ) (s : Term) → slice_get (terms_of ts) k ≡ None → with_kid ts k s ≡ ts
with_kid_none NoTerm k s none = refl
with_kid_none (AndTerm t ts) zero s none = absurd (cc none)
with_kid_none (AndTerm t ts) (suc k) s none = ap (AndTerm t) (with_kid_none ts k s none)

with_child_none : (n : Term) (k : ℕ) (s : Term) → child k n ≡ None → with_child n k s ≡ n
with_child_none (Leaf p v) k s none = refl
with_child_none (Node op scheme elided ts) k s none = ap (Node op scheme elided) (with_kid_none ts k s none)

put_none : (t : Term) (u : Place) (s : Term) → sub t u ≡ None → put t u s ≡ t
put_none t [] s none = absurd (cc none)
put_none t (k ∷ u) s none = by (sub t u) refl none
  where
    by : (o : Option Term) → sub t u ≡ o → option_and_then (child k) o ≡ None → elim o as (λ _. Term) [ None ↦ t | Some n ↦ put t u (with_child n k s) ] ≡ t
    by None at none = refl
    by (Some n) at none = ap (put t u) (with_child_none n k s none) ∙ put_sub t u n at

-- what stands at a place put there again
put_part : (t : Term) (u : Place) → put t u (part_of t u) ≡ t
put_part t u = by (sub t u) refl
  where
    by : (o : Option Term) → sub t u ≡ o → put t u (unwrap_or o t) ≡ t
    by None none = put_none t u t none
    by (Some x) at = put_sub t u x at

-- a subterm that is put back, and marks that are
put_back : (t : Term) (u : Place) (s : Term) → put (put t u s) u (part_of t u) ≡ t
put_back t u s = put_put t u s (part_of t u) ∙ put_part t u

marks_back : (x : Term) (m : Marks) → with_marks (with_marks x m) (unwrap_or (marks_of x) m) ≡ x
marks_back (Leaf p v) m = refl
marks_back (Node op scheme elided ts) m = refl

marked_back : (t : Term) (u : Place) (m : Marks) → marked_term (marked_term t u m) u (unwrap_or (marks_of (part_of t u)) m) ≡ t
marked_back t u m = by (sub t u) refl
  where
    was : Marks
    was = unwrap_or (marks_of (part_of t u)) m

    with : Term
    with = with_marks (part_of t u) m

    by : (o : Option Term) → sub t u ≡ o → marked_term (put t u (with_marks (part_of t u) m)) u (unwrap_or (marks_of (part_of t u)) m) ≡ t
    by None none = ap (λ x. marked_term x u was) (put_none t u with none) ∙ put_none t u (with_marks (part_of t u) was) none
    by (Some x) at =
        ap (λ y. put (put t u with) u (with_marks y was)) (part_put t u x with at)
        ∙ put_put t u with (with_marks with was)
        ∙ ap (put t u) (marks_back (part_of t u) m)
        ∙ put_part t u

abbrev state : List Change → List Change → Option Captured → Term → Spot → State
state past future capture t spot = record { term = t; spot = spot; past = past; future = future; capture = capture }

-- a change that is undone, and then done again
module _ (spec : Spec) (height : ℕ) (t : Term) (change : Spot → Change) (select : Selection) (st : State) where
  abbrev next : State
  next = changed spec height t change select st

  abbrev it : Change
  it = change next.spot

  abbrev settled : Term → Spot → Spot
  settled = respotted spec height st.spot.view

  change_back : is_spot spec height st.term st.spot ≡ true → before t it ≡ st.term → before_of it ≡ st.spot → undone spec height next ≡ taken_back next st
  change_back is e b =
      ap (λ x. state (take 255 st.past) (it ∷ []) None x (settled x (before_of it))) e
      ∙ ap (λ s. state (take 255 st.past) (it ∷ []) None st.term (settled st.term s)) b
      ∙ ap (state (take 255 st.past) (it ∷ []) None st.term) (spot_stays spec height st.term st.spot is)

  change_forth : 0 < height → before t it ≡ st.term → behind st.term it ≡ t → after_of it ≡ next.spot → redone spec height (undone spec height next) ≡ next
  change_forth tall e f a =
      ap (λ x. state (it ∷ take 255 st.past) [] None (behind x it) (settled (behind x it) (after_of it))) e
      ∙ ap (λ x. state (it ∷ take 255 st.past) [] None x (settled x (after_of it))) f
      ∙ ap (λ s. state (it ∷ take 255 st.past) [] None t (settled t s)) a
      ∙ ap (state (it ∷ take 255 st.past) [] None t) (spot_stays spec height t next.spot (selected_seen spec height t st.spot.view select st.spot.top tall))

module _ (spec : Spec) (height : ℕ) where
  pub replaced_back : (u : Place) (s : Term) (select : Selection) (st : State) → is_spot spec height st.term st.spot ≡ true
      → undone spec height (replaced spec height u s select st) ≡ taken_back (replaced spec height u s select st) st
  replaced_back u s select st is = change_back spec height (put st.term u s) (Put u (part_of st.term u) s st.spot) select st is (put_back st.term u s) refl

  pub replaced_forth : (u : Place) (s : Term) (select : Selection) (st : State) → 0 < height
      → redone spec height (undone spec height (replaced spec height u s select st)) ≡ replaced spec height u s select st
  replaced_forth u s select st tall = change_forth spec height (put st.term u s) (Put u (part_of st.term u) s st.spot) select st tall (put_back st.term u s) refl refl

  module _ (mark : Mark) (st next : State) where
    abbrev u : Place
    u = selected_place st

    abbrev was : Marks → Marks
    was m = unwrap_or (marks_of (part_of st.term u)) m

    turned : marked spec height mark st ≡ Some next → (m : Marks) × (turned_in (shown_spec spec st) mark (part_of st.term u) ≡ Some m) × (remarked spec height (was m) m st ≡ next)
    turned is = option_map_some (λ m. remarked spec height (was m) m st) (turned_in (shown_spec spec st) mark (part_of st.term u)) next is

    pub marked_goes_back : is_spot spec height st.term st.spot ≡ true → marked spec height mark st ≡ Some next → undone spec height next ≡ taken_back next st
    marked_goes_back seen is =
        let made = turned is in
        let m = made.0 in
        subst (λ n. undone spec height n ≡ taken_back n st) made.2
        (change_back spec height (marked_term st.term u m) (Marking u (was m) m st.spot) (alone u) st seen (marked_back st.term u m) refl)

    pub marked_goes_forth : 0 < height → marked spec height mark st ≡ Some next → redone spec height (undone spec height next) ≡ next
    marked_goes_forth tall is =
        let made = turned is in
        let m = made.0 in
        subst (λ n. redone spec height (undone spec height n) ≡ n) made.2
        (change_forth spec height (marked_term st.term u m) (Marking u (was m) m st.spot) (alone u) st tall (marked_back st.term u m) refl refl)

  -- the newest change undone and done again, and the next one done and undone
  pub redone_back : (st : State) (c : Change) (past : List Change) → st.past ≡ c ∷ past → HasNew st.term c
      → redone spec height (undone spec height st) ≡ state st.past st.future st.capture st.term (respotted spec height st.spot.view st.term (after_of c))
  redone_back st c past e new =
      ap (λ p. redone spec height (gone_by spec height Back p st)) e
      ∙ ap (λ t. state (c ∷ past) st.future st.capture t (respotted spec height st.spot.view t (after_of c))) (there_and_back Back st.term c new)
      ∙ ap (λ p. state p st.future st.capture st.term (respotted spec height st.spot.view st.term (after_of c))) (sym e)

  pub undone_back : (st : State) (c : Change) (future : List Change) → st.future ≡ c ∷ future → HasOld st.term c
      → undone spec height (redone spec height st) ≡ state st.past st.future st.capture st.term (respotted spec height st.spot.view st.term (before_of c))
  undone_back st c future e old =
      ap (λ p. undone spec height (gone_by spec height Forth p st)) e
      ∙ ap (λ t. state st.past (c ∷ future) st.capture t (respotted spec height st.spot.view t (before_of c))) (there_and_back Forth st.term c old)
      ∙ ap (λ p. state st.past p st.capture st.term (respotted spec height st.spot.view st.term (before_of c))) (sym e)

  -- a kept spot is back in its own view
  pub kept_back : (st : State) (c : Change) (past : List Change) → st.past ≡ c ∷ past → is_spot spec height (before st.term c) (before_of c) ≡ true → (before_of c).view ≡ st.spot.view
      → (undone spec height st).spot ≡ before_of c
  kept_back st c past e is same = ap (λ p. (gone_by spec height Back p st).spot) e ∙ spot_stays_in spec height (before st.term c) (before_of c) st.spot.view same is

  pub kept_forth : (st : State) (c : Change) (future : List Change) → st.future ≡ c ∷ future → is_spot spec height (behind st.term c) (after_of c) ≡ true → (after_of c).view ≡ st.spot.view
      → (redone spec height st).spot ≡ after_of c
  kept_forth st c future e is same = ap (λ p. (gone_by spec height Forth p st).spot) e ∙ spot_stays_in spec height (behind st.term c) (after_of c) st.spot.view same is

  -- shown in one view twice
  pub viewed_twice : (v : ℕ) (st : State) → 0 < height → viewed spec height v (viewed spec height v st) ≡ viewed spec height v st
  viewed_twice v st tall =
      let s = respotted spec height v st.term st.spot in
      ap (state st.past st.future st.capture st.term) (spot_stays spec height st.term s (settled_seen spec height st.term v st.spot tall))
