-- What is selected in the buffers of a session, and after a command.
use Rattle.std.specs.Prelude.{◌≡◌, ◌⊎◌, refl, ℕ, ◌<◌, Bool, true, false, not, ◌&&◌, nat_eq, nat_lt, if◌then◌else◌, length, List, [], ◌∷◌, filter, slice_get, Option, None, Some, option_map, IsTrue, Result, Ok, Err}
use Rattle.std.specs.List.{find}
use Rattle.std.specs.Option.{option_map_or}
use Rattle.std.proofs.Common.{sym, ap, ◌∙◌, subst, inl, inr}
use Rattle.std.proofs.lemmas.List.Elements.{All-append, All-nil, All-cons, All-set}
use Rattle.std.proofs.lemmas.Bool.{false≢true}
use Rattle.std.proofs.lemmas.Option.{none-some, option_and_then_some, same_Some}
use Rattle.sg_kinds.specs.Values.{Bytes}
use Rattle.sg_kinds.specs.Completing.{completing}
use Rattle.sg_kinds.specs.Terms.{Term}
use Rattle.sg_kinds.specs.Places.{Place, places_in}
use Rattle.sg_kinds.specs.declared.spec.Spec.{Spec}
use Rattle.sg_kinds.proofs.Elementary.{slice_get-All}
use Rattle.sg_changes.specs.Captured.{Captured}
use Rattle.sg_changes.specs.declared.direction.Direction.{Direction}
use Rattle.sg_changes.specs.declared.direction.Direction.TheVariants.{Back, Forth}
use Rattle.sg_replies.specs.declared.reply.Reply.{Reply}
use Rattle.sg_replies.specs.declared.reply.Reply.TheVariants as reply
use Rattle.sg_saved.specs.Read.{Opened, FormAt, PhylumAt, TooLarge, Holds}
use Rattle.sg_script.specs.declared.message.Message.{Message}
use Rattle.sg_script.specs.declared.message.Message.TheVariants as message
use Rattle.sg_script.specs.declared.command.Command.{Command}
use Rattle.sg_script.specs.declared.command.Command.TheVariants as command
use Rattle.sg_search.specs.Found.{applies_at, found_behind, is_known}
use Rattle.sg_select.specs.RestingPlaces.{behind, rests, settled}
use Rattle.sg_select.proofs.Settling.{settled_rests}
use Rattle.sg_unparse.specs.Page.{Region, cells_of, owner_at, region_of}
use Rattle.sg_states.specs.Seen.{marks_seen, nothing_typed}
use Rattle.sg_states.specs.States.{State, begun, erased, extension, marked, moved, pointed, selected, selected_place, shown_spec, shrunk, target, viewed}
use Rattle.sg_states.specs.declared.marks.Extended.{Extended}
use Rattle.sg_states.specs.declared.marks.Extended.TheVariants.{Done, NotInList, NoPlace}
use Rattle.sg_states.specs.declared.marks.Mark.{Mark}
use Rattle.sg_states.specs.declared.marks.Mark.TheVariants.{Alternate, Elide}
use Rattle.sg_states.specs.declared.marks.Move.{Move}
use Rattle.sg_states.specs.declared.marks.Move.TheVariants.{Next, Prev, Up, First, Sibling}
use Rattle.sg_states.proofs.Leading.{leads_to_rest}
use Rattle.sg_edits.specs.declared.clip.Clip.{Clip}
use Rattle.sg_input.specs.Entered.{bad_byte}
use Rattle.sg_commands.specs.Turn.{Reads, Turn, becomes, found_or, refused_if}
use Rattle.sg_commands.specs.Turns.{allowed_turn, count_here, entry_here, extends, is_editable_here, plain_turn, turn, types_unless, typing_turn, view_named, wants_one}
use Rattle.sg_editor.specs.Ask.{Readers, Step, ask, barred, fetched, keeps, loads, longest_file, news, opened, opens, saved_form, saved_text, shows, switches, taken, turned_to}
use Rattle.sg_editor.specs.Ask as asking
use Rattle.sg_editor.specs.Screen.{shown_in}
use Rattle.sg_editor.specs.Session.{Session, buffer_named, current_of, start, with_load}
use Rattle.sg_editor.specs.Steps.{Comes}
use Rattle.sg_glosses.specs.Evaluations.{is_replacement}
use Rattle.sg_glosses.specs.Selected.{HasSelection, HaveSelections}
use Rattle.sg_glosses.proofs.Currents.{IsInCurrent, comes_current}
use Rattle.sg_glosses.proofs.Outcomes.{Goes, Refuses, Replaces, redoes, replacements, undoes}
use Rattle.sg_glosses.proofs.Selecting.{begun_selects, ended_selects, erased_selects, extended_selects, gone_selects, marked_selects, pointed_selects, replaced_selects, selected_region, selected_selects, shrunk_selects, typed_selects, viewed_selects}

-- what a search finds passes
find_passes : {A : Type 0} (p : A → Bool) (xs : List A) (v : A) → find p xs ≡ Some v → p v ≡ true
find_passes p [] v e = absurd (none-some v e)
find_passes p (x ∷ xs) v e = by (p x) refl (find_passes p xs v) e
  where
    by : (b : Bool) → p x ≡ b → (find p xs ≡ Some v → p v ≡ true) → (if b then Some x else find p xs) ≡ Some v → p v ≡ true
    by true pass rest e = ap p (sym (same_Some x v e)) ∙ pass
    by false pass rest e = rest e

-- a turn of a state
module _ (spec : Spec) (height : ℕ) (tall : 0 < height) (reads : Reads) (clip : Option Clip) (st : State) (h : HasSelection spec height st) where
  abbrev Keeps : Turn → Type 0
  Keeps t = HasSelection spec height t.state

  if_keeps : (b : Bool) (m : Message) (t : Turn) → Keeps t → Keeps (refused_if clip st b m t)
  if_keeps true m t keeps = h
  if_keeps false m t keeps = keeps

  place_keeps : (m : Message) (o : Option Place) → ((v : Place) → o ≡ Some v → rests (shown_spec spec st) st.term v ≡ true) → Keeps (found_or clip st m (becomes clip) (option_map (λ v. selected spec height v st) o))
  place_keeps m None each = h
  place_keeps m (Some v) each = selected_selects spec height tall st h v (each v refl)

  goes_keeps : (move : Move) → Keeps (found_or clip st message.NoPlace (becomes clip) (moved spec height move st))
  goes_keeps move = place_keeps message.NoPlace (target move (shown_spec spec st) st.term (selected_place st)) (λ v is. leads_to_rest (shown_spec spec st) st.term move (selected_place st) v is)

  owner_keeps : (o : Option Place) → Keeps (found_or clip st message.NoPlace (becomes clip) (option_map (λ v. selected spec height (settled (shown_spec spec st) st.term v) st) o))
  owner_keeps None = h
  owner_keeps (Some v) = selected_selects spec height tall st h (settled (shown_spec spec st) st.term v) (settled_rests (shown_spec spec st) st.term v)

  finds_keeps : (name : Bytes) → Keeps (found_or clip st message.NoMatch (becomes clip) (option_map (λ v. selected spec height v st) (found_behind spec st.spot.view name st.term (selected_place st))))
  finds_keeps name = place_keeps message.NoMatch (found_behind spec st.spot.view name st.term (selected_place st)) (λ v is. find_passes (rests (shown_spec spec st) st.term) (filter (applies_at spec name st.term) (behind (selected_place st) (places_in st.term))) v is)

  marks_keeps : (mark : Mark) (o : Option State) → marked spec height mark st ≡ o → Keeps (found_or clip st message.NoAlternate (becomes clip) o)
  marks_keeps mark None is = h
  marks_keeps mark (Some next) is = marked_selects spec height tall st h mark next is

  views_keeps : (o : Option ℕ) → Keeps (found_or clip st message.Unknown (λ v. becomes clip (viewed spec height v st)) o)
  views_keeps None = h
  views_keeps (Some v) = viewed_selects spec height tall st h v

  extends_keeps : (e : Extended) → extension spec st ≡ e → Keeps (extends clip st e)
  extends_keeps Done is = extended_selects spec height tall st h is
  extends_keeps NotInList is = h
  extends_keeps NoPlace is = h

  shrinks_keeps : (b : Bool) → nat_eq (count_here st) 1 ≡ b → Keeps (refused_if clip st b message.NoPlace (becomes clip (shrunk st)))
  shrinks_keeps true is = h
  shrinks_keeps false is = shrunk_selects spec height tall st h is

  types_keeps : (o : Option ℕ) (bytes : Bytes) → Keeps (types_unless clip st o bytes)
  types_keeps None bytes = typed_selects spec height tall st h bytes
  types_keeps (Some k) bytes = h

  entry_keeps : (text : Bytes) (o : Option ℕ) → Keeps (found_or clip st message.NoEntry (λ entry. types_unless clip st (bad_byte text) text) o)
  entry_keeps text None = h
  entry_keeps text (Some entry) = types_keeps (bad_byte text) text

  refuses_keeps : (t : Turn) → Refuses st t → Keeps t
  refuses_keeps t refused = by refused.2
    where
      by : (t.state ≡ st) ⊎ ((k : ℕ) × (t.state ≡ pointed k st)) → Keeps t
      by (inl same) = subst (HasSelection spec height) (sym same) h
      by (inr point) = subst (HasSelection spec height) (sym point.1) (pointed_selects spec height tall st h point.0)

  replaces_keeps : (t : Turn) → Refuses st t ⊎ Replaces spec height st t → Keeps t
  replaces_keeps t (inl refused) = refuses_keeps t refused
  replaces_keeps t (inr rep) = subst (HasSelection spec height) (sym rep.state) (replaced_selects spec height tall st h rep.place rep.subterm rep.select)

  travels_keeps : (d : Direction) (t : Turn) → Refuses st t ⊎ Goes spec height d st t → Keeps t
  travels_keeps d t (inl refused) = refuses_keeps t refused
  travels_keeps d t (inr goes) = subst (HasSelection spec height) (sym goes.state) (gone_selects spec height tall st h d)

  -- all commands but replacements and the way back and forth
  is_other : Command → Bool
  is_other command.Undo = false
  is_other command.Redo = false
  is_other c = not (is_replacement c)

  allowed_keeps : (c : Command) → IsTrue (is_other c) → Keeps (allowed_turn spec height reads clip st c)
  unfolding is_other
  allowed_keeps command.Next is = goes_keeps Next
  allowed_keeps command.Prev is = goes_keeps Prev
  allowed_keeps command.Up is = goes_keeps Up
  allowed_keeps command.First is = goes_keeps First
  allowed_keeps command.Sibling is = goes_keeps Sibling
  allowed_keeps (command.Goto line column) is = owner_keeps (owner_at (cells_of (marks_seen spec st.spot.view st.term nothing_typed)) line column)
  allowed_keeps command.Extend is = extends_keeps (extension spec st) refl
  allowed_keeps command.Shrink is = shrinks_keeps (nat_eq (count_here st) 1) refl
  allowed_keeps (command.Find name) is =
      if_keeps (not (is_known spec name)) message.Unknown (found_or clip st message.NoMatch (becomes clip) (option_map (λ v. selected spec height v st) (found_behind spec st.spot.view name st.term (selected_place st))))
      (finds_keeps name)
  allowed_keeps (command.Do name) is = absurd (false≢true is)
  allowed_keeps (command.ReplaceAll name) is = absurd (false≢true is)
  allowed_keeps command.Delete is = absurd (false≢true is)
  allowed_keeps command.Remove is = absurd (false≢true is)
  allowed_keeps command.InsertBefore is = absurd (false≢true is)
  allowed_keeps command.InsertAfter is = absurd (false≢true is)
  allowed_keeps command.Cut is = absurd (false≢true is)
  allowed_keeps command.Paste is = absurd (false≢true is)
  allowed_keeps (command.Text text) is = absurd (false≢true is)
  allowed_keeps command.Undo is = absurd (false≢true is)
  allowed_keeps command.Redo is = absurd (false≢true is)
  allowed_keeps (command.TypeIn text) is =
      if_keeps (not (is_editable_here spec st)) message.NotEditable (found_or clip st message.NoEntry (λ entry. types_unless clip st (bad_byte text) text) (entry_here spec st))
      (entry_keeps text (entry_here spec st))
  allowed_keeps command.Alternate is = marks_keeps Alternate (marked spec height Alternate st) refl
  allowed_keeps command.Elide is = marks_keeps Elide (marked spec height Elide st) refl
  allowed_keeps (command.View None) is = viewed_selects spec height tall st h 0
  allowed_keeps (command.View (Some name)) is = views_keeps (view_named spec name)
  allowed_keeps c is = h

  typing_keeps : (cap : Captured) (c : Command) → IsTrue (is_other c) → Keeps (typing_turn spec height reads clip st cap c)
  unfolding is_other
  typing_keeps cap (command.TypeIn text) is = types_keeps (bad_byte text) text
  typing_keeps cap command.Erase is = if_keeps (nat_eq cap.point 0) message.NoPlace (becomes clip (erased st)) (erased_selects spec height tall st h)
  typing_keeps cap command.Enter is = absurd (false≢true is)
  typing_keeps cap command.Abandon is = ended_selects spec height tall st h
  typing_keeps cap c is = h

  other_keeps : (c : Command) → IsTrue (is_other c) → Keeps (turn spec height reads clip st c)
  unfolding turn
  other_keeps c is = by st.capture
    where
      by : (o : Option Captured) → Keeps (option_map_or (λ cap. typing_turn spec height reads clip st cap c) o (plain_turn spec height reads clip st c))
      by None = if_keeps (wants_one c && nat_lt 1 (count_here st)) message.InRun (allowed_turn spec height reads clip st c) (allowed_keeps c is)
      by (Some cap) = typing_keeps cap c is

  replacement_keeps : (c : Command) → IsTrue (is_replacement c) → Keeps (turn spec height reads clip st c)
  replacement_keeps c is = replaces_keeps (turn spec height reads clip st c) (replacements spec height clip st reads c is)

  pub turn_keeps : (c : Command) → Keeps (turn spec height reads clip st c)
  unfolding is_other
  turn_keeps command.Undo = travels_keeps Back (turn spec height reads clip st command.Undo) (undoes spec height clip st reads)
  turn_keeps command.Redo = travels_keeps Forth (turn spec height reads clip st command.Redo) (redoes spec height clip st reads)
  turn_keeps (command.Do name) = replacement_keeps (command.Do name) refl
  turn_keeps (command.ReplaceAll name) = replacement_keeps (command.ReplaceAll name) refl
  turn_keeps command.Delete = replacement_keeps command.Delete refl
  turn_keeps command.Remove = replacement_keeps command.Remove refl
  turn_keeps command.InsertBefore = replacement_keeps command.InsertBefore refl
  turn_keeps command.InsertAfter = replacement_keeps command.InsertAfter refl
  turn_keeps command.Cut = replacement_keeps command.Cut refl
  turn_keeps command.Paste = replacement_keeps command.Paste refl
  turn_keeps (command.Text text) = replacement_keeps (command.Text text) refl
  turn_keeps command.Enter = replacement_keeps command.Enter refl
  turn_keeps c = other_keeps c refl

-- a session
pub start_keeps : (spec : Spec) (height : ℕ) → HaveSelections spec height start
start_keeps spec height = All-nil (λ (b : Bytes × State). HasSelection spec height b.1)

module _ (spec : Spec) (height : ℕ) (tall : 0 < height) where
  abbrev Selects : Bytes × State → Type 0
  Selects b = HasSelection spec height b.1

  module _ (s : Session) (h : HaveSelections spec height s) where
    opens_keeps : (name : Bytes) (t : Term) → HaveSelections spec height (opens spec name t s).session
    opens_keeps name t = All-append Selects s.buffers ((name, begun t) ∷ []) h (All-cons Selects (name, begun t) [] (begun_selects spec height t tall) (All-nil Selects))

    taken_keeps : (name : Bytes) (o : Option Message) → HaveSelections spec height (option_map_or (asking.says s) o (opens spec name (completing spec spec.root) s)).session
    taken_keeps name None = opens_keeps name (completing spec spec.root)
    taken_keeps name (Some m) = h

    opened_keeps : (name : Bytes) (x : Opened) → HaveSelections spec height (opened spec name s x).session
    opened_keeps name (FormAt k) = h
    opened_keeps name (PhylumAt k) = h
    opened_keeps name (TooLarge nodes depth) = h
    opened_keeps name (Holds v) = opens_keeps name _

    fetched_keeps : (r : Readers) (name : Bytes) (x : Reply) → HaveSelections spec height (fetched spec height r name s x).session
    fetched_keeps r name (reply.Fetched bytes) = by (nat_lt longest_file (length bytes))
      where
        by : (long : Bool) → HaveSelections spec height (if long then asking.says s message.LongFile else opened spec name s (r.file bytes)).session
        by true = h
        by false = opened_keeps name (r.file bytes)
    fetched_keeps r name reply.FetchFailed = h
    fetched_keeps r name reply.Kept = h
    fetched_keeps r name reply.KeepFailed = h

    switched_keeps : (o : Option ℕ) → HaveSelections spec height (option_map_or (λ (k : ℕ). asking.says (record s { current = Some k }) message.Fine) o (asking.says s message.NoBuffer)).session
    switched_keeps None = h
    switched_keeps (Some k) = h

  from_told : (told step : Step) → step ≡ told → HaveSelections spec height told.session → HaveSelections spec height step.session
  from_told told step is keeps = subst (λ (x : Step). HaveSelections spec height x.session) (sym is) keeps

  module _ (r : Readers) (s : Session) (got : List Reply) (step : Step) (h : HaveSelections spec height s) where
    kept_keeps : (file : Bytes) (b : Result Bytes Message) → Comes (keeps file s b) got step → HaveSelections spec height step.session
    kept_keeps file (Ok bytes) comes = from_told (asking.says s _) step comes.3 h
    kept_keeps file (Err m) comes = from_told (asking.says s m) step comes.1 h

    loaded_keeps : (name file : Bytes) (o : Option Message) → Comes (loads spec height r name file s o) got step → HaveSelections spec height step.session
    loaded_keeps name file (Some m) comes = from_told (asking.says s m) step comes.1 h
    loaded_keeps name file None comes = from_told (fetched spec height r name (with_load s) comes.0) step comes.3 (fetched_keeps (with_load s) h r name comes.0)

    current_keeps : (c : Command) → IsInCurrent spec height r s c step → HaveSelections spec height step.session
    current_keeps c (inl none) = from_told (asking.says s message.NoBuffer) step none.said h
    current_keeps c (inr o) =
        let t = turn spec height r.text s.clip o.buffer.1 c in
        let here = slice_get-All Selects s.buffers o.place o.buffer h o.there in
        from_told (turned_to o.place o.buffer.0 s t) step o.is (All-set Selects s.buffers o.place (o.buffer.0, t.state) (turn_keeps spec height tall r.text s.clip o.buffer.1 here c) h)

    pub step_keeps : (c : Command) → Comes (ask spec height r s c) got step → HaveSelections spec height step.session
    unfolding ask
    step_keeps (command.Load name file) comes = loaded_keeps name file (barred name s) comes
    step_keeps (command.Save file) comes = kept_keeps file (saved_form spec s) comes
    step_keeps (command.SaveText file) comes = kept_keeps file (saved_text spec s) comes
    step_keeps (command.New name) comes = from_told (news spec name s) step comes.1 (taken_keeps s h name (taken name s))
    step_keeps (command.Switch name) comes = from_told (switches name s) step comes.1 (switched_keeps s h (buffer_named name s))
    step_keeps command.Show comes = from_told (shows s) step comes.1 h
    step_keeps c comes = current_keeps c (comes_current spec height r s c got step refl comes)

-- the region of what is selected
pub region_there : (spec : Spec) (height : ℕ) (s : Session) (b : Bytes × State) → HaveSelections spec height s → current_of s ≡ Some b → (r : Region) × (region_of (shown_in spec b.1) (selected_place b.1) ≡ Some r)
region_there spec height s b h here =
    let at = option_and_then_some (slice_get s.buffers) s.current b here (λ i at there. slice_get-All (λ (x : Bytes × State). HasSelection spec height x.1) s.buffers i b h there) in
    selected_region spec height b.1 at.now
