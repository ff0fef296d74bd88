-- What is printed after a change that was undone.
use Rattle.std.specs.Prelude.{◌≡◌, ◌⊎◌, refl, ℕ, Bool, true, false, ◌&&◌, nat_lt, List, ◌∷◌, slice_get, take, Option, None, Some, unwrap_or, IsTrue}
use Rattle.std.specs.Option.{option_map_or}
use Rattle.std.proofs.Common.{sym, ap, ◌∙◌, subst, inl, inr}
use Rattle.std.proofs.lemmas.Bool.{false≢true}
use Rattle.sg_kinds.specs.Values.{Bytes}
use Rattle.sg_kinds.specs.Terms.{Term}
use Rattle.sg_kinds.specs.declared.spec.Spec.{Spec}
use Rattle.sg_kinds.proofs.Elementary.{option_map_some, slice_get-All}
use Rattle.sg_changes.specs.Captured.{Captured}
use Rattle.sg_changes.specs.Changes.{Change, Put, Mark as Marking, marked as marked_term, marks_of, part_of}
use Rattle.sg_changes.specs.declared.spot.Spot.{Spot}
use Rattle.sg_changes.specs.declared.direction.Direction.TheVariants.{Back}
use Rattle.sg_changes.specs.declared.spot.Selection.{Selection}
use Rattle.sg_replies.specs.declared.reply.Reply.{Reply}
use Rattle.sg_script.specs.declared.message.Message.{Message}
use Rattle.sg_script.specs.declared.message.Message.TheVariants as message
use Rattle.sg_script.specs.declared.command.Command.{Command}
use Rattle.sg_script.specs.declared.command.Command.TheVariants as command
use Rattle.sg_kinds.specs.Places.{Place, put}
use Rattle.sg_states.specs.Seen.{is_spot, settled_spot}
use Rattle.sg_states.specs.Selections.{alone}
use Rattle.sg_states.specs.Turned.{turned_in}
use Rattle.sg_states.specs.States.{State, changed, ended, marked, remarked, replaced, selected_place, shown_spec, taken_back, undone}
use Rattle.sg_states.specs.declared.marks.Mark.{Mark}
use Rattle.sg_states.specs.declared.marks.Mark.TheVariants.{Alternate, Elide}
use Rattle.sg_states.proofs.Undoing.{marked_goes_back, replaced_back}
use Rattle.sg_edits.specs.declared.clip.Clip.{Clip}
use Rattle.sg_commands.specs.Turn.{Reads, Turn, becomes, found_or, refused_if}
use Rattle.sg_commands.specs.Turns.{count_here, marks, plain_turn, travels, turn, typing_turn, wants_one}
use Rattle.sg_editor.specs.Ask.{Readers, Step, ask}
use Rattle.sg_editor.specs.Screen.{printed, screen}
use Rattle.sg_editor.specs.Session.{Session, current_of}
use Rattle.sg_editor.specs.Steps.{Comes, is_turn}
use Rattle.sg_glosses.specs.Evaluations.{changes, is_replacement}
use Rattle.sg_glosses.specs.Selected.{HasSelection, HaveSelections}
use Rattle.sg_glosses.proofs.Currents.{IsInCurrent, IsTurnOf, comes_current, current_after, current_before, current_only, fine_turn, the_turn}
use Rattle.sg_glosses.proofs.Outcomes.{Replaces, Refuses, replacements}

-- a state made by a change, which an undo takes back, where something was selected and seen before
pub record IsChanged (spec : Spec) (height : ℕ) (st next : State) : Type 0 where
  pub change : Change
  pub others : List Change
  pub past : next.past ≡ change ∷ others
  pub ended : next.capture ≡ None
  pub back : is_spot spec height st.term st.spot ≡ true → undone spec height next ≡ taken_back next st

module _ (spec : Spec) (height : ℕ) (st : State) where
  made_changed : (t : Term) (change : Spot → Change) (select : Selection)
      → (is_spot spec height st.term st.spot ≡ true → undone spec height (changed spec height t change select st) ≡ taken_back (changed spec height t change select st) st)
      → IsChanged spec height st (changed spec height t change select st)
  made_changed t change select back = record {
    change = change (settled_spot spec height st.spot.view t select st.spot.top);
    others = take 255 st.past;
    past = refl;
    ended = refl;
    back = back;
  }

  replaced_changed : (u : Place) (s : Term) (select : Selection) → IsChanged spec height st (replaced spec height u s select st)
  replaced_changed u s select = made_changed (put st.term u s) (Put u (part_of st.term u) s st.spot) select (replaced_back spec height u s select st)

  marked_changed : (mark : Mark) (next : State) → marked spec height mark st ≡ Some next → IsChanged spec height st next
  marked_changed mark next is =
      let u = selected_place st in
      let x = part_of st.term u in
      let m = option_map_some (λ new. remarked spec height (unwrap_or (marks_of x) new) new st) (turned_in (shown_spec spec st) mark x) next is in
      subst (IsChanged spec height st) m.2
      (made_changed (marked_term st.term u m.0) (Marking u (unwrap_or (marks_of x) m.0) m.0 st.spot) (alone u)
      (λ seen. subst (λ n. undone spec height n ≡ taken_back n st) (sym m.2) (marked_goes_back spec height mark st next seen is)))

  module _ (reads : Reads) (clip : Option Clip) where
    -- a replacement
    from_replaced : (t : Turn) → Refuses st t ⊎ Replaces spec height st t → t.message ≡ message.Fine → IsChanged spec height st t.state
    from_replaced t (inl refused) fine = absurd (refused.0 fine)
    from_replaced t (inr rep) fine = subst (IsChanged spec height st) (sym rep.state) (replaced_changed rep.place rep.subterm rep.select)

    pub replacement_changed : (c : Command) → IsTrue (is_replacement c) → (turn spec height reads clip st c).message ≡ message.Fine → IsChanged spec height st (turn spec height reads clip st c).state
    replacement_changed c is = from_replaced (turn spec height reads clip st c) (replacements spec height clip st reads c is)

    -- a mark
    found_changed : (mark : Mark) (o : Option State) → marked spec height mark st ≡ o → (found_or clip st message.NoAlternate (becomes clip) o).message ≡ message.Fine
        → IsChanged spec height st (found_or clip st message.NoAlternate (becomes clip) o).state
    found_changed mark None is fine = absurd (cc fine)
    found_changed mark (Some next) is fine = marked_changed mark next is

    mark_changed : (mark : Mark) (b : Bool) → (refused_if clip st b message.InRun (marks spec height clip st mark)).message ≡ message.Fine
        → IsChanged spec height st (refused_if clip st b message.InRun (marks spec height clip st mark)).state
    mark_changed mark true fine = absurd (cc fine)
    mark_changed mark false fine = found_changed mark (marked spec height mark st) refl fine

    abbrev turn_of : Command → Option Captured → Turn
    turn_of c o = option_map_or (λ cap. typing_turn spec height reads clip st cap c) o (plain_turn spec height reads clip st c)

    turn_is : (c : Command) → turn spec height reads clip st c ≡ turn_of c st.capture
    unfolding turn
    turn_is c = refl

    alternated : (o : Option Captured) → (turn_of command.Alternate o).message ≡ message.Fine → IsChanged spec height st (turn_of command.Alternate o).state
    alternated None fine = mark_changed Alternate (wants_one command.Alternate && nat_lt 1 (count_here st)) fine
    alternated (Some cap) fine = absurd (cc fine)

    elided : (o : Option Captured) → (turn_of command.Elide o).message ≡ message.Fine → IsChanged spec height st (turn_of command.Elide o).state
    elided None fine = mark_changed Elide (wants_one command.Elide && nat_lt 1 (count_here st)) fine
    elided (Some cap) fine = absurd (cc fine)

    from_turn : (c : Command) → ((turn_of c st.capture).message ≡ message.Fine → IsChanged spec height st (turn_of c st.capture).state)
        → (turn spec height reads clip st c).message ≡ message.Fine → IsChanged spec height st (turn spec height reads clip st c).state
    from_turn c each = subst (λ (t : Turn). t.message ≡ message.Fine → IsChanged spec height st t.state) (sym (turn_is c)) each

    pub turn_changed : (c : Command) → IsTrue (changes c) → (turn spec height reads clip st c).message ≡ message.Fine → IsChanged spec height st (turn spec height reads clip st c).state
    turn_changed command.Alternate is = from_turn command.Alternate (alternated st.capture)
    turn_changed command.Elide is = from_turn command.Elide (elided st.capture)
    turn_changed (command.Do name) is = replacement_changed (command.Do name) refl
    turn_changed (command.ReplaceAll name) is = replacement_changed (command.ReplaceAll name) refl
    turn_changed command.Delete is = replacement_changed command.Delete refl
    turn_changed command.Remove is = replacement_changed command.Remove refl
    turn_changed command.InsertBefore is = replacement_changed command.InsertBefore refl
    turn_changed command.InsertAfter is = replacement_changed command.InsertAfter refl
    turn_changed command.Cut is = replacement_changed command.Cut refl
    turn_changed command.Paste is = replacement_changed command.Paste refl
    turn_changed (command.Text text) is = replacement_changed (command.Text text) refl
    turn_changed c is = absurd (false≢true is)

    -- which is done only while nothing is being typed
    in_text : (cap : Captured) (c : Command) → IsTrue (changes c) → (typing_turn spec height reads clip st cap c).message ≡ message.InText
    in_text cap (command.TypeIn text) is = absurd (false≢true is)
    in_text cap command.Erase is = absurd (false≢true is)
    in_text cap command.Enter is = absurd (false≢true is)
    in_text cap command.Abandon is = absurd (false≢true is)
    in_text cap command.Show is = absurd (false≢true is)
    in_text cap (command.New name) is = absurd (false≢true is)
    in_text cap (command.Load name file) is = absurd (false≢true is)
    in_text cap (command.Switch name) is = absurd (false≢true is)
    in_text cap (command.Save file) is = absurd (false≢true is)
    in_text cap (command.SaveText file) is = absurd (false≢true is)
    in_text cap c is = refl

    pub turn_rested : (c : Command) → IsTrue (changes c) → (turn spec height reads clip st c).message ≡ message.Fine → st.capture ≡ None
    unfolding turn
    turn_rested c is = by st.capture
      where
        by : (o : Option Captured) → (option_map_or (λ cap. typing_turn spec height reads clip st cap c) o (plain_turn spec height reads clip st c)).message ≡ message.Fine → o ≡ None
        by None fine = refl
        by (Some cap) fine = absurd (cc (sym (in_text cap c is) ∙ fine))

    -- the typing of a text that is abandoned
    pub abandoned : (turn spec height reads clip st command.Enter).message ≡ message.Fine → (turn spec height reads clip st command.Abandon).state ≡ ended st
    unfolding turn
    abandoned = by st.capture
      where
        by : (o : Option Captured) → (option_map_or (λ cap. typing_turn spec height reads clip st cap command.Enter) o (plain_turn spec height reads clip st command.Enter)).message ≡ message.Fine
            → (option_map_or (λ cap. typing_turn spec height reads clip st cap command.Abandon) o (plain_turn spec height reads clip st command.Abandon)).state ≡ ended st
        by None fine = absurd (cc fine)
        by (Some cap) fine = refl

    -- an undo right after a change
    module _ (old : State) (is : IsChanged spec height old st) where
      undo_is : turn spec height reads clip st command.Undo ≡ travels spec height clip st Back (is.change ∷ is.others)
      unfolding turn
      undo_is =
          ap (λ o. option_map_or (λ cap. typing_turn spec height reads clip st cap command.Undo) o (plain_turn spec height reads clip st command.Undo)) is.ended
          ∙ ap (travels spec height clip st Back) is.past

      pub undo_fine : (turn spec height reads clip st command.Undo).message ≡ message.Fine
      undo_fine = ap (λ (t : Turn). t.message) undo_is

      pub undo_state : is_spot spec height old.term old.spot ≡ true → (turn spec height reads clip st command.Undo).state ≡ taken_back st old
      undo_state seen = ap (λ (t : Turn). t.state) undo_is ∙ is.back seen

-- what is printed of a state tells nothing of its changes
module _ (spec : Spec) (width height : ℕ) (m : Message) (n : ℕ) (name : Bytes) (st next : State) where
  pub printed_back : st.capture ≡ None → printed spec width height m n (Some (name, taken_back next st)) ≡ printed spec width height m n (Some (name, st))
  printed_back none =
      ap (λ (o : Option Captured). printed spec width height m n (Some (name, record st { past = take 255 st.past; future = take 1 next.past; capture = o }))) (sym none)

  pub printed_ended : printed spec width height m n (Some (name, taken_back next st)) ≡ printed spec width height m n (Some (name, ended st))
  printed_ended = refl

module _ (spec : Spec) (height : ℕ) (r : Readers) (s : Session) (step back : Step) where
  -- the current buffer, and the same with a change taken back
  record IsTaken (name : Bytes) (old : State) : Type 0 where
    next : State
    before : current_of s ≡ Some (name, old)
    after : is_spot spec height old.term old.spot ≡ true → current_of back.session ≡ Some (name, taken_back next old)
    fine : back.message ≡ message.Fine

  module _ (c : Command) (o : IsTurnOf spec height r s c step) (is : IsChanged spec height o.buffer.1 (turn spec height r.text s.clip o.buffer.1 c).state) where
    abbrev made : State
    made = (turn spec height r.text s.clip o.buffer.1 c).state

    abbrev undo : Bytes × State → Turn
    undo b = turn spec height r.text step.session.clip b.1 command.Undo

    here : current_of step.session ≡ Some (o.buffer.0, made)
    here = current_after s o.place o.buffer o.current o.there step (turn spec height r.text s.clip o.buffer.1 c) o.is

    taken_turn : IsInCurrent spec height r step.session command.Undo back → IsTaken o.buffer.0 o.buffer.1
    taken_turn (inl none) = absurd (let e = sym none.none ∙ here in cc)
    taken_turn (inr u) =
        let same = current_only step.session u.place u.buffer u.current u.there (o.buffer.0, made) here in
        record {
          next = made;
          before = current_before s o.place o.buffer o.current o.there;
          after = λ seen.
              current_after step.session u.place u.buffer u.current u.there back (undo u.buffer) u.is
              ∙ ap (λ (b : Bytes × State). Some (b.0, (undo b).state)) same
              ∙ ap (λ (x : State). Some (o.buffer.0, x)) (undo_state spec height made r.text step.session.clip o.buffer.1 is seen);
          fine =
              ap (λ (x : Step). x.message) u.is
              ∙ ap (λ (b : Bytes × State). (undo b).message) same
              ∙ undo_fine spec height made r.text step.session.clip o.buffer.1 is;
        }

  -- what is printed then
  taken_screen : (name : Bytes) (old : State) → IsTaken name old → is_spot spec height old.term old.spot ≡ true → old.capture ≡ None → (width : ℕ) (m : Message) (n : ℕ) → screen spec width height back.session m n ≡ screen spec width height s m n
  unfolding screen
  taken_screen name old k seen none width m n =
      ap (printed spec width height m n) (k.after seen)
      ∙ printed_back spec width height m n name old k.next none
      ∙ sym (ap (printed spec width height m n) k.before)

changes_turn : (c : Command) → IsTrue (changes c) → IsTrue (is_turn c)
changes_turn (command.New name) is = absurd (false≢true is)
changes_turn (command.Load name file) is = absurd (false≢true is)
changes_turn (command.Switch name) is = absurd (false≢true is)
changes_turn command.Show is = absurd (false≢true is)
changes_turn (command.Save file) is = absurd (false≢true is)
changes_turn (command.SaveText file) is = absurd (false≢true is)
changes_turn c is = refl

module _ (spec : Spec) (height : ℕ) (r : Readers) (s : Session) (got later : List Reply) (step back : Step) (fine : step.message ≡ message.Fine)
    (undo : Comes (ask spec height r step.session command.Undo) later back) where
  -- what is selected in a buffer is seen
  spot_seen : HaveSelections spec height s → (k : ℕ) (b : Bytes × State) → slice_get s.buffers k ≡ Some b → is_spot spec height b.1.term b.1.spot ≡ true
  spot_seen h k b there = (slice_get-All (λ (x : Bytes × State). HasSelection spec height x.1) s.buffers k b h there).now

  undo_here : IsInCurrent spec height r step.session command.Undo back
  undo_here = comes_current spec height r step.session command.Undo later back refl undo

  module _ (c : Command) (is : IsTrue (changes c)) (comes : Comes (ask spec height r s c) got step) where
    done : IsTurnOf spec height r s c step
    done = the_turn spec height r s c step fine (comes_current spec height r s c got step (changes_turn c is) comes)

    taken : IsTaken spec height r s step back done.buffer.0 done.buffer.1
    taken = taken_turn spec height r s step back c done (turn_changed spec height done.buffer.1 r.text s.clip c is (fine_turn spec height r s c step done fine)) undo_here

    pub undone_fine : back.message ≡ message.Fine
    undone_fine = taken.fine

    pub undone_screen : HaveSelections spec height s → (width : ℕ) (m : Message) (n : ℕ) → screen spec width height back.session m n ≡ screen spec width height s m n
    undone_screen h = taken_screen spec height r s step back done.buffer.0 done.buffer.1 taken (spot_seen h done.place done.buffer done.there) (turn_rested spec height done.buffer.1 r.text s.clip c is (fine_turn spec height r s c step done fine))

  -- a text that was entered
  module _ (comes : Comes (ask spec height r s command.Enter) got step) where
    entered : IsTurnOf spec height r s command.Enter step
    entered = the_turn spec height r s command.Enter step fine (comes_current spec height r s command.Enter got step refl comes)

    entered_taken : IsTaken spec height r s step back entered.buffer.0 entered.buffer.1
    entered_taken = taken_turn spec height r s step back command.Enter entered (replacement_changed spec height entered.buffer.1 r.text s.clip command.Enter refl (fine_turn spec height r s command.Enter step entered fine)) undo_here

    pub entered_fine : back.message ≡ message.Fine
    entered_fine = entered_taken.fine

    module _ (other : List Reply) (left : Step) (abandon : Comes (ask spec height r s command.Abandon) other left) where
      abandoned_now : IsInCurrent spec height r s command.Abandon left → current_of left.session ≡ Some (entered.buffer.0, ended entered.buffer.1)
      abandoned_now (inl none) = absurd (let e = sym none.none ∙ current_before s entered.place entered.buffer entered.current entered.there in cc)
      abandoned_now (inr a) =
          let same = current_only s a.place a.buffer a.current a.there entered.buffer (current_before s entered.place entered.buffer entered.current entered.there) in
          let t = λ (b : Bytes × State). turn spec height r.text s.clip b.1 command.Abandon in
          current_after s a.place a.buffer a.current a.there left (t a.buffer) a.is
          ∙ ap (λ (b : Bytes × State). Some (b.0, (t b).state)) same
          ∙ ap (λ (x : State). Some (entered.buffer.0, x)) (abandoned spec height entered.buffer.1 r.text s.clip (fine_turn spec height r s command.Enter step entered fine))

      pub entered_screen : HaveSelections spec height s → (width : ℕ) (m : Message) (n : ℕ) → screen spec width height back.session m n ≡ screen spec width height left.session m n
      unfolding screen
      entered_screen h width m n =
          ap (printed spec width height m n) (entered_taken.after (spot_seen h entered.place entered.buffer entered.there))
          ∙ printed_ended spec width height m n entered.buffer.0 entered.buffer.1 entered_taken.next
          ∙ sym (ap (printed spec width height m n) (abandoned_now (comes_current spec height r s command.Abandon other left refl abandon)))
