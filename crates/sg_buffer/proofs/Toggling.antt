-- A buffer after a mark of the selected node is turned.
use Rattle.std.specs.Prelude.{◌≡◌, ◌≢◌, refl, ℕ, ◌<◌, ◌≤◌, true, false, List, [], Option, None, Some, option_map, option_and_then, unwrap_or, MatchOption}
use Rattle.std.proofs.Common.{sym, ap, ◌∙◌, subst}
use Rattle.sg_kinds.specs.Terms.{Term}
use Rattle.sg_kinds.specs.Places.{Place, sub}
use Rattle.sg_kinds.specs.InView.{in_view}
use Rattle.sg_forest.specs.declared.node_id.NodeId.{NodeId}
use Rattle.sg_forest.specs.Node as forest
use Rattle.sg_forest.specs.Trees.{IsRoot}
use Rattle.sg_groves.specs.declared.kind.Kind.{Kind}
use Rattle.sg_groves.specs.declared.part.Part.{Part}
use Rattle.sg_groves.specs.Grove.{Grove, nodes, IsGrove, spec_shown}
use Rattle.sg_groves.specs.Holds.{Holds}
use Rattle.sg_groves.specs.TermAt.{term_at}
use Rattle.sg_groves.proofs.Held.{part_held}
use Rattle.sg_changes.specs.Captured.{Captured}
use Rattle.sg_changes.specs.Changes.{Mark as Marking, marked as marked_term, marks_at, marks_of}
use Rattle.sg_changes.specs.StepChanges.{tops}
use Rattle.sg_changes.specs.declared.spot.Selection.{Selection}
use Rattle.sg_changes.specs.declared.spot.Spot.{Spot}
use Rattle.sg_changes.specs.declared.step.Marks.{Marks}
use Rattle.sg_changes.specs.declared.step.Step.{Step}
use Rattle.sg_changes.specs.declared.step.Step.TheVariants.{Marked}
use Rattle.sg_changes.proofs.Marking.{part_is}
use Rattle.sg_changes.proofs.Telling.{agree_first, mark_pushed}
use Rattle.sg_undo.specs.Timeline.{Timeline}
use Rattle.sg_unparse.specs.Sheet.{Sheet}
use Rattle.sg_buffer.specs.declared.standing.Standing.{Standing}
use Rattle.sg_states.specs.Paged.{IsLook}
use Rattle.sg_states.specs.Selections.{alone, path_to}
use Rattle.sg_states.specs.Seen.{settled_spot}
use Rattle.sg_states.specs.States.{State, marked, remarked, selected_place, shown_spec}
use Rattle.sg_states.specs.Turned.{turned_in}
use Rattle.sg_states.specs.declared.marks.Mark.{Mark}
use Rattle.sg_states.proofs.Selecting.{path_back}
use Rattle.sg_states.proofs.Spotted.{selected_seen}
use Rattle.sg_exchanges.specs.Roots.{times}
use Rattle.sg_exchanges.specs.Turns.{IsSeen, MayTurn}
use Rattle.sg_exchanges.specs.declared.marks.Remark.{Remark}
use Rattle.sg_exchanges.specs.declared.turns.Turned.{Turned}
use Rattle.sg_exchanges.specs.declared.turns.What.TheVariants.{Shown}
use Rattle.sg_exchanges.proofs.Hanging.{agree_then, keeps_by, listed_once, listed_root}
use Rattle.sg_exchanges.proofs.Values.{nodes_marked, small_marked}
use Rattle.sg_buffer.specs.Held.{Held, state_of}
use Rattle.sg_buffer.specs.Buffers.{IsBuffer}
use Rattle.sg_buffer.proofs.Changing.{Changed, Remembers, changed_closes, changed_held}

-- the selected node has marks to turn
pub record Turnable (g : Grove) (n : NodeId) (mark : Mark) (r : Remark) : Type 0 where
  pub turned : (t : Term) → Holds g n t → (marks_of t ≡ Some r.old) × (turned_in (spec_shown g) mark t ≡ Some r.new)
  pub operator : (x : forest.Node Kind Part) → nodes g n ≡ Some x → x.label.op ≢ None
  pub low : (r.old.scheme < 16) × (r.new.scheme < 16)

-- a step with fields that are these
step_same : (path path' : List ℕ) (was new : Marks) (before before' after after' : Spot) → path ≡ path' → before ≡ before' → after ≡ after' → Marked path was new before after ≡ Marked path' was new before' after'
step_same path path' was new before before' after after' p q r =
    ap (λ z. Marked z was new before after) p ∙ ap (λ z. Marked path' was new z after) q ∙ ap (λ z. Marked path' was new before' z) r

-- a spot whose view is told by a call
pub told_view : (s : Spot) (p : Selection) (top v w : ℕ) → s ≡ record { selection = p; top = top; view = v } → v ≡ w → s ≡ record { selection = p; top = top; view = w }
told_view s p top v w told same = told ∙ ap (λ n. let r : Spot = record { selection = p; top = top; view = n } in r) same

module _ (b : Held) (count room : ℕ) (page : Option Sheet) (standing : Standing) (is : IsBuffer b count room page standing) where
  abbrev st : State
  st = state_of b

  abbrev u : Place
  u = selected_place st

  -- what is selected and seen
  pub spot_is : (s : Spot) → s ≡ record { selection = record { path = standing.way; count = b.count }; top = b.top; view = b.grove.view } → s ≡ st.spot
  spot_is s told =
      told
      ∙ ap (λ p. let r : Spot = record { selection = record { path = p; count = b.count }; top = b.top; view = b.grove.view } in r) is.standing_is.0
      ∙ ap (λ n. let r : Spot = record { selection = record { path = st.spot.selection.path; count = n }; top = b.top; view = b.grove.view } in r) is.stands.count
      ∙ ap (λ n. let r : Spot = record { selection = st.spot.selection; top = n; view = b.grove.view } in r) is.stands.top
      ∙ ap (λ w. let r : Spot = record { selection = st.spot.selection; top = st.spot.top; view = w } in r) is.stands.view

  -- the view of the grove is that of the state
  pub spec_here : spec_shown b.grove ≡ shown_spec b.grove.spec st
  spec_here = ap (in_view b.grove.spec) is.stands.view

  -- what hangs, each a root, none twice
  pub hanging_root : (n : NodeId) → times n (tops b.past b.future) ≢ 0 → IsRoot (nodes b.grove) n
  hanging_root = listed_root b.grove b.root (tops b.past b.future) is.stands.roots

  module _ (mark : Mark) (r : Remark) (turnable : Turnable b.grove b.selected mark r) where
    part : (x : Term) × Holds b.grove b.selected x × (sub st.term u ≡ Some x)
    part = part_held b.grove is.stands.grove u b.selected b.root st.term is.stands.selected is.stands.whole.holds

    abbrev x : Term
    x = part.0

    pub may_mark : MayTurn b.grove b.root b.selected (Shown r.new) st.term u
    may_mark = record {
      whole = is.stands.whole;
      fits = is.stands.fits;
      way = is.stands.selected;
      may = (turnable.operator, turnable.low.1);
    }

    there : marks_at st.term u ≡ Some r.old
    there = ap (option_and_then marks_of) part.2 ∙ (turnable.turned x part.1).0

    -- the state then
    pub marked_told : marked b.grove.spec b.height mark st ≡ Some (remarked b.grove.spec b.height r.old r.new st)
    marked_told =
        let facts = turnable.turned x part.1 in
        let same = part_is st.term u x part.2 in
        ap (λ z. option_map (λ new. remarked b.grove.spec b.height (unwrap_or (marks_of z) new) new st) (turned_in (shown_spec b.grove.spec st) mark z)) same
        ∙ ap (λ o. option_map (λ new. remarked b.grove.spec b.height (unwrap_or (marks_of x) new) new st) o) (subst (λ z. turned_in z mark x ≡ Some r.new) spec_here facts.1)
        ∙ ap (λ o. Some (remarked b.grove.spec b.height (unwrap_or o r.new) r.new st)) facts.0

    abbrev now : Term
    now = marked_term st.term u r.new

    abbrev spot : Spot
    spot = settled_spot b.grove.spec b.height st.spot.view now (alone u) st.spot.top

    abbrev step : Step
    step = Marked st.spot.selection.path r.old r.new st.spot spot

    module _ (mid : Grove) (on : IsGrove mid) (spec : mid.spec ≡ b.grove.spec) (shown : mid.view ≡ b.grove.view) (t : Turned) (turned : IsSeen b.grove mid b.root b.selected (Shown r.new) st.term u b.height (alone u) st.spot.top t) where
      pub look_now : IsLook mid t.root now spot t.look
      look_now = subst (λ w. IsLook mid t.root now (settled_spot b.grove.spec b.height w now (alone u) st.spot.top) t.look) is.stands.view turned.look

      pub mark_changed : Changed b mid now (Marking u r.old r.new st.spot spot) step spot t
      mark_changed = record {
        grove = on;
        spec = spec;
        view = shown ∙ is.stands.view;
        whole = turned.turned.whole;
        fits = turned.turned.fits;
        small = small_marked st.term u x r.new part.2 is.stands.small;
        look = look_now;
        seen = selected_seen b.grove.spec b.height now st.spot.view (alone u) st.spot.top is.stands.tall;
        told = mark_pushed (term_at b.grove) (term_at mid) st.term st.spot.selection.path r.old r.new st.spot spot b.past there
            (agree_first (term_at b.grove) (term_at mid) b.past b.future
            (agree_then b.grove mid is.stands.grove on b.root [] (tops b.past b.future) is.stands.roots (keeps_by b.grove mid b.root (Shown r.new) turned.turned.hanging)));
        can = record {
          stands = there;
          proper = turnable.low;
          small = small_marked st.term u x r.new part.2 is.stands.small;
          here = is.stands.spot;
          there = selected_seen b.grove.spec b.height now st.spot.view (alone u) st.spot.top is.stands.tall;
        };
        after = refl;
        roots = turned.turned.roots (tops b.past b.future) is.stands.roots;
      }

      pub toggled_closes : (kept : Grove) → IsGrove kept → (h : Timeline Step) → Remembers mid kept b.past b.future room step h → (o : Option Captured) → o ≡ None
          → IsBuffer (changed_held b kept t h o) count h.room t.look.page (record { way = t.look.way; begins = t.look.begins }) × (state_of (changed_held b kept t h o) ≡ remarked b.grove.spec b.height r.old r.new st)
      toggled_closes kept still h remembers o none =
          let c = changed_closes b count room page standing is mid kept still now (Marking u r.old r.new st.spot spot) step spot t mark_changed h remembers o none count (is.counted ∙ sym (nodes_marked st.term u x r.new part.2)) in
          (c.is, c.told)

-- the same, from what the calls tell, where the fields are seen as another value
module _ (b v : Held) (view : b ≡ v) (count room : ℕ) (page : Option Sheet) (standing : Standing) (is : IsBuffer b count room page standing) (mark : Mark) where
  pub nothing_to_turn : ((t : Term) → Holds b.grove b.selected t → turned_in (spec_shown b.grove) mark t ≡ None) → marked v.grove.spec v.height mark (state_of v) ≡ None
  nothing_to_turn none =
      subst (λ z. marked z.grove.spec z.height mark (state_of z) ≡ None) view
      (let part = part_held b.grove is.stands.grove (selected_place (state_of b)) b.selected b.root (state_of b).term is.stands.selected is.stands.whole.holds in
      let same = part_is (state_of b).term (selected_place (state_of b)) part.0 part.2 in
      ap (λ z. option_map (λ new. remarked b.grove.spec b.height (unwrap_or (marks_of z) new) new (state_of b)) (turned_in (shown_spec b.grove.spec (state_of b)) mark z)) same
      ∙ ap (λ o. option_map (λ new. remarked b.grove.spec b.height (unwrap_or (marks_of part.0) new) new (state_of b)) o)
      (subst (λ z. turned_in z mark part.0 ≡ None) (spec_here b count room page standing is) (none part.0 part.1)))

  module _ (r : Remark) (turnable : Turnable b.grove b.selected mark r) (before : Spot)
      (told : before ≡ record { selection = record { path = standing.way; count = b.count }; top = b.top; view = b.grove.view })
      (one : v.count ≡ 1) (none : v.capture ≡ None) (mid : Grove) (on : IsGrove mid) (spec : mid.spec ≡ b.grove.spec) (shown : mid.view ≡ b.grove.view) (t : Turned)
      (turned : (s : Term) (w : Place) → MayTurn b.grove b.root b.selected (Shown r.new) s w → IsSeen b.grove mid b.root b.selected (Shown r.new) s w b.height before.selection b.top t) where
    abbrev w : Place
    w = selected_place (state_of b)

    before_is : before ≡ (state_of b).spot
    before_is = spot_is b count room page standing is before told

    one_is : before.selection ≡ alone w
    one_is =
        ap (λ (s : Spot). s.selection) told
        ∙ ap (λ p. let r : Selection = record { path = p; count = b.count } in r) (is.standing_is.0 ∙ sym (path_back (state_of b).spot.selection.path))
        ∙ ap (λ n. let r : Selection = record { path = path_to w; count = n } in r) (ap (λ (z : Held). z.count) view ∙ one)

    turned_now : IsSeen b.grove mid b.root b.selected (Shown r.new) (state_of b).term w b.height (alone w) (state_of b).spot.top t
    turned_now =
        subst (λ n. IsSeen b.grove mid b.root b.selected (Shown r.new) (state_of b).term w b.height (alone w) n t) is.stands.top
        (subst (λ s. IsSeen b.grove mid b.root b.selected (Shown r.new) (state_of b).term w b.height s b.top t) one_is
        (turned (state_of b).term w (may_mark b count room page standing is mark r turnable)))

    -- what hangs then
    pub hung_once : (n : NodeId) → times n (tops b.past b.future) ≤ 1
    hung_once = listed_once mid t.root (tops b.past b.future) (turned_now.turned.roots (tops b.past b.future) is.stands.roots)

    pub hung_root : (n : NodeId) → times n (tops b.past b.future) ≢ 0 → IsRoot (nodes mid) n
    hung_root = listed_root mid t.root (tops b.past b.future) (turned_now.turned.roots (tops b.past b.future) is.stands.roots)

    pub toggled_here : (path : List ℕ) → path ≡ before.selection.path → (step : Step) → step ≡ Marked path r.old r.new before t.look.spot
        → (kept : Grove) → IsGrove kept → (h : Timeline Step) → Remembers mid kept b.past b.future room step h
        → IsBuffer (changed_held b kept t h b.capture) count h.room t.look.page (record { way = t.look.way; begins = t.look.begins })
        × MatchOption (marked v.grove.spec v.height mark (state_of v)) ((true ≡ false) × (changed_held b kept t h b.capture ≡ v)) (λ after. (true ≡ true) × (state_of (changed_held b kept t h b.capture) ≡ after))
    toggled_here path path_is step step_is kept still h remembers =
        let same = step_is ∙ step_same path (state_of b).spot.selection.path r.old r.new before (state_of b).spot t.look.spot (spot b count room page standing is mark r turnable) (path_is ∙ ap (λ (s : Spot). s.selection.path) before_is) before_is (look_now b count room page standing is mark r turnable mid on spec shown t turned_now).spot_is in
        let c = toggled_closes b count room page standing is mark r turnable mid on spec shown t turned_now kept still h (subst (λ z. Remembers mid kept b.past b.future room z h) same remembers) b.capture (ap (λ (z : Held). z.capture) view ∙ none) in (
          c.0,
          subst (λ (z : Held). MatchOption (marked z.grove.spec z.height mark (state_of z)) ((true ≡ false) × (changed_held b kept t h b.capture ≡ v)) (λ after. (true ≡ true) × (state_of (changed_held b kept t h b.capture) ≡ after))) view
              (subst (λ o. MatchOption o ((true ≡ false) × (changed_held b kept t h b.capture ≡ v)) (λ after. (true ≡ true) × (state_of (changed_held b kept t h b.capture) ≡ after))) (sym (marked_told b count room page standing is mark r turnable)) (refl, c.1)),
        )
