-- Where a text may be entered.
use Rattle.std.specs.Prelude.{◌≡◌, refl, ℕ, ◌<◌, ◌≤◌, Bool, true, false, not, ◌&&◌, nat_eq, nat_le, nat_lt, if◌then◌else◌, length, List, Option, None, Some, unwrap_or}
use Rattle.std.specs.Option.{option_map_or}
use Rattle.std.proofs.Common.{sym, ap, ◌∙◌, subst, inl, inr, arith}
use Rattle.std.proofs.lemmas.Bool.{and_parts}
use Rattle.std.proofs.lemmas.Bool.Decides.{nat_tests}
use Rattle.std.proofs.lemmas.List.Quantifiers.{position-Some}
use Rattle.sg_kinds.specs.Values.{Bytes, Value}
use Rattle.sg_kinds.specs.Terms.{Term, nodes_of, height_of}
use Rattle.sg_kinds.specs.Places.{Place, put, sub}
use Rattle.sg_kinds.specs.Plain.{plain}
use Rattle.sg_kinds.specs.Sound.{IsSmall, IsSound}
use Rattle.sg_kinds.specs.declared.spec.Entry.{Entry}
use Rattle.sg_kinds.specs.declared.spec.Spec.{Spec}
use Rattle.sg_kinds.proofs.Elementary.{and_true, le_is, le_true}
use Rattle.sg_grammar.specs.Numbered.{grammar_of}
use Rattle.sg_lalr.specs.Tables.{Decided, IsTables, View}
use Rattle.sg_changes.specs.Captured.{Captured}
use Rattle.sg_script.specs.declared.command.Command.{Command}
use Rattle.sg_script.specs.declared.command.Command.TheVariants as command
use Rattle.sg_script.specs.declared.message.Message.TheVariants as message
use Rattle.sg_states.specs.States.{State, selected_place, shown_spec}
use Rattle.sg_edits.specs.Choice.{Choice, Put, Refused, one}
use Rattle.sg_edits.specs.Edits.{is_editable, phylum_in, typed as typed_in}
use Rattle.sg_edits.specs.declared.clip.Clip.{Clip}
use Rattle.sg_input.specs.Entered.{BadByte, Entered, Faulted, IsEntered, NoToken, Stopped, Typed, entry_at}
use Rattle.sg_input.proofs.Reading.{one-reading}
use Rattle.sg_replies.specs.declared.reply.Reply.{Reply}
use Rattle.sg_commands.specs.Turn.{AreReads, Reads, Turn, found_or, refused_if}
use Rattle.sg_commands.specs.Turns.{count_here, enterable, enters, enters_typed, entry_here, is_editable_here, plain_turn, puts, replaces, selected_term, turn, typing_turn, wants_one}
use Rattle.sg_editor.specs.Ask.{Readers, Step, ask}
use Rattle.sg_editor.specs.Session.{Session, current_of}
use Rattle.sg_editor.specs.Steps.{Comes}
use Rattle.sg_glosses.specs.Entering.{CanEnter, CanText, HasEnter, HasMeaning, HasText}
use Rattle.sg_glosses.proofs.Currents.{IsInCurrent, comes_current, current_after, current_before, current_only, fine_turn, the_turn}

-- an entry of a phylum is one of the language's
entry_low : (spec : Spec) (p entry : ℕ) → entry_at spec p ≡ Some entry → entry < length spec.entries
entry_low spec p entry is = (position-Some (λ (e : Entry). nat_eq e.phylum p) spec.entries entry (record { phylum = 0; nonterminal = 0 }) is).0

module _ (spec : Spec) (height : ℕ) (reads : Reads) (clip : Option Clip) (st : State) where
  abbrev u : Place
  u = selected_place st

  -- the selected term
  part_is : (old : Term) → sub st.term u ≡ Some old → selected_term st ≡ old
  part_is old there = ap (λ o. unwrap_or o st.term) there

  -- a value that is put, in the limits
  abbrev in_place : Value → Term → Choice
  in_place v x = Put u (plain spec v (phylum_in spec x)) (one u)

  abbrev small_test : Value → Term → Bool
  small_test v x = let t = put st.term u (plain spec v (phylum_in spec x)) in nat_le (nodes_of t) 65536 && nat_le (height_of t) 1024

  small_is : (v : Value) (x : Term) → small_test v x ≡ true → IsSmall (put st.term u (plain spec v (phylum_in spec x)))
  small_is v x test =
      let t = put st.term u (plain spec v (phylum_in spec x)) in
      let parts = and_parts (nat_le (nodes_of t) 65536) (nat_le (height_of t) 1024) test in
      (le_is (nodes_of t) 65536 parts.0, le_is (height_of t) 1024 parts.1)

  small_true : (v : Value) (x : Term) → IsSmall (put st.term u (plain spec v (phylum_in spec x))) → small_test v x ≡ true
  small_true v x small =
      let t = put st.term u (plain spec v (phylum_in spec x)) in
      and_true (nat_le (nodes_of t) 65536) (nat_le (height_of t) 1024) (le_true (nodes_of t) 65536 small.0) (le_true (height_of t) 1024 small.1)

  -- what is known of a turn that put a value
  record IsPut (v : Value) (t : Turn) : Type 0 where
    old : Term
    selected : sub st.term u ≡ Some old
    small : IsSmall (put st.term u (plain spec v (phylum_in spec old)))
    term : t.state.term ≡ put st.term u (plain spec v (phylum_in spec old))

  abbrev tested : Value → Term → Bool → Turn
  tested v x b = replaces spec height clip st clip (if b then in_place v x else Refused message.Size)

  put_tested : (v : Value) (x : Term) → sub st.term u ≡ Some x → (b : Bool) → small_test v x ≡ b → (tested v x b).message ≡ message.Fine → IsPut v (tested v x b)
  put_tested v x there true test fine = record { old = x; selected = there; small = small_is v x test; term = refl }
  put_tested v x there false test fine = absurd (let e = fine in cc)

  put_there : (v : Value) (o : Option Term) → sub st.term u ≡ o → (puts spec height clip st (option_map_or (in_place v) o (Refused message.NoPlace))).message ≡ message.Fine
      → IsPut v (puts spec height clip st (option_map_or (in_place v) o (Refused message.NoPlace)))
  put_there v None there fine = absurd (let e = fine in cc)
  put_there v (Some x) there fine = put_tested v x there (small_test v x) refl fine

  -- what is known of a turn that entered what was read
  record IsRead (x : Entered) (t : Turn) : Type 0 where
    value : Value
    typed : x ≡ Typed value
    is_put : IsPut value t

  read_so : (x : Entered) → (enters spec height clip st x).message ≡ message.Fine → IsRead x (enters spec height clip st x)
  read_so (BadByte k) fine = absurd (let e = fine in cc)
  read_so (NoToken k) fine = absurd (let e = fine in cc)
  read_so (Stopped k) fine = absurd (let e = fine in cc)
  read_so (Faulted why) fine = absurd (let e = fine in cc)
  read_so (Typed v) fine = record { value = v; typed = refl; is_put = put_there v (sub st.term u) refl fine }

  typed_so : (x : Entered) → (enters_typed spec height clip st x).message ≡ message.Fine → IsRead x (enters_typed spec height clip st x)
  typed_so (BadByte k) fine = absurd (let e = fine in cc)
  typed_so (NoToken k) fine = absurd (let e = fine in cc)
  typed_so (Stopped k) fine = absurd (let e = fine in cc)
  typed_so (Faulted why) fine = absurd (let e = fine in cc)
  typed_so (Typed v) fine = read_so (Typed v) fine

  -- the same in words of the definition
  record IsMeant (text : Bytes) (t : Turn) : Type 0 where
    old : Term
    selected : sub st.term u ≡ Some old
    meaning : HasMeaning spec st old text
    term : t.state.term ≡ put st.term u (plain spec meaning.value (phylum_in spec old))

  meant : (text : Bytes) (t : Turn) → AreReads spec reads → (entry : ℕ) → entry_here spec st ≡ Some entry → IsRead (reads entry text) t → IsMeant text t
  meant text t right entry here read =
      let p = read.is_put in
      let at = sym (ap (λ (x : Term). entry_at spec (phylum_in spec x)) (part_is p.old p.selected)) ∙ here in
      let is = subst (IsEntered spec entry text) read.typed (right entry text (entry_low spec (phylum_in spec p.old) entry at)) in
      record {
        old = p.old;
        selected = p.selected;
        meaning = record { entry = entry; entry_is = at; value = read.value; derived = is.0; no_fault = is.1; small = p.small };
        term = p.term;
      }

  -- and back
  put_fine : (v : Value) (x : Term) → sub st.term u ≡ Some x → IsSmall (put st.term u (plain spec v (phylum_in spec x))) → (puts spec height clip st (typed_in spec st.term u v)).message ≡ message.Fine
  put_fine v x there small =
      ap (λ o. (puts spec height clip st (option_map_or (in_place v) o (Refused message.NoPlace))).message) there
      ∙ ap (λ b. (replaces spec height clip st clip (if b then in_place v x else Refused message.Size)).message) (small_true v x small)

  module _ (sound : IsSound spec) (v : View) (same : v.grammar ≡ grammar_of spec) (tables : IsTables v) (decided : Decided v) (right : AreReads spec reads) (text : Bytes) (old : Term)
      (selected : sub st.term u ≡ Some old) (m : HasMeaning spec st old text) where
    read_is : reads m.entry text ≡ Typed m.value
    read_is =
        let low = entry_low spec (phylum_in spec old) m.entry m.entry_is in
        one-reading spec sound v same tables decided m.entry low text (reads m.entry text) (Typed m.value) (right m.entry text low) (m.derived, m.no_fault)

    here_is : entry_here spec st ≡ Some m.entry
    here_is = ap (λ (x : Term). entry_at spec (phylum_in spec x)) (part_is old selected) ∙ m.entry_is

    read_fine : (enters spec height clip st (reads m.entry text)).message ≡ message.Fine
    read_fine = ap (λ x. (enters spec height clip st x).message) read_is ∙ put_fine m.value old selected m.small

    typed_fine : (enters_typed spec height clip st (reads m.entry text)).message ≡ message.Fine
    typed_fine = ap (λ x. (enters_typed spec height clip st x).message) read_is ∙ put_fine m.value old selected m.small

    -- `enter` where this text is typed
    pub enter_fine : (c : Captured) → st.capture ≡ Some c → c.text ≡ text → (turn spec height reads clip st command.Enter).message ≡ message.Fine
    unfolding turn
    enter_fine c typing same_text =
        ap (λ o. (option_map_or (λ cap. typing_turn spec height reads clip st cap command.Enter) o (plain_turn spec height reads clip st command.Enter)).message) typing
        ∙ ap (λ o. (found_or clip st message.NoEntry (λ entry. enters_typed spec height clip st (reads entry c.text)) o).message) here_is
        ∙ ap (λ (x : Bytes). (enters_typed spec height clip st (reads m.entry x)).message) same_text
        ∙ typed_fine

    -- `text` where nothing is being typed, no run is selected and the node is editable
    pub text_fine : st.capture ≡ None → count_here st ≤ 1 → is_editable (shown_spec spec st) old ≡ true → (turn spec height reads clip st (command.Text text)).message ≡ message.Fine
    unfolding turn
    text_fine resting few editable =
        let low : nat_lt 1 (count_here st) ≡ false = grind (arith, nat_tests) in
        let may : is_editable_here spec st ≡ true = ap (is_editable (shown_spec spec st)) (part_is old selected) ∙ editable in
        let enter = λ (entry : ℕ). enters spec height clip st (reads entry text) in
        ap (λ o. (option_map_or (λ cap. typing_turn spec height reads clip st cap (command.Text text)) o (plain_turn spec height reads clip st (command.Text text))).message) resting
        ∙ ap (λ b. (refused_if clip st (wants_one (command.Text text) && b) message.InRun (enterable spec clip st enter)).message) low
        ∙ ap (λ b. (refused_if clip st (not b) message.NotEditable (found_or clip st message.NoEntry enter (entry_here spec st))).message) may
        ∙ ap (λ o. (found_or clip st message.NoEntry enter o).message) here_is
        ∙ read_fine

  module _ (right : AreReads spec reads) (text : Bytes) where
    -- `enter`, by the entry
    abbrev enter_by : Option ℕ → Turn
    enter_by o = found_or clip st message.NoEntry (λ entry. enters_typed spec height clip st (reads entry text)) o

    entry_so : (o : Option ℕ) → entry_here spec st ≡ o → (enter_by o).message ≡ message.Fine → IsMeant text (enter_by o)
    entry_so None here fine = absurd (let e = fine in cc)
    entry_so (Some entry) here fine = meant text (enter_by (Some entry)) right entry here (typed_so (reads entry text) fine)

    -- `text`, by the entry, whether the node is editable, whether a run is selected, and what is being typed
    abbrev text_by : Option ℕ → Turn
    text_by o = found_or clip st message.NoEntry (λ entry. enters spec height clip st (reads entry text)) o

    abbrev editable_by : Bool → Turn
    editable_by b = refused_if clip st (not b) message.NotEditable (text_by (entry_here spec st))

    abbrev alone_by : Bool → Turn
    alone_by b = refused_if clip st (wants_one (command.Text text) && b) message.InRun (editable_by (is_editable_here spec st))

    abbrev resting_by : Option Captured → Turn
    resting_by o = option_map_or (λ cap. typing_turn spec height reads clip st cap (command.Text text)) o (alone_by (nat_lt 1 (count_here st)))

    record IsTexted (t : Turn) : Type 0 where
      resting : st.capture ≡ None
      one : count_here st ≤ 1
      editable : is_editable_here spec st ≡ true
      is_meant : IsMeant text t

    text_entry : (o : Option ℕ) → entry_here spec st ≡ o → (text_by o).message ≡ message.Fine → IsMeant text (text_by o)
    text_entry None here fine = absurd (let e = fine in cc)
    text_entry (Some entry) here fine = meant text (text_by (Some entry)) right entry here (read_so (reads entry text) fine)

    text_editable : st.capture ≡ None → count_here st ≤ 1 → (b : Bool) → is_editable_here spec st ≡ b → (editable_by b).message ≡ message.Fine → IsTexted (editable_by b)
    text_editable resting few false may fine = absurd (let e = fine in cc)
    text_editable resting few true may fine = record { resting = resting; one = few; editable = may; is_meant = text_entry (entry_here spec st) refl fine }

    text_alone : st.capture ≡ None → (b : Bool) → nat_lt 1 (count_here st) ≡ b → (alone_by b).message ≡ message.Fine → IsTexted (alone_by b)
    text_alone resting true many fine = absurd (let e = fine in cc)
    text_alone resting false few fine = let low : count_here st ≤ 1 = grind (arith, nat_tests) in text_editable resting low (is_editable_here spec st) refl fine

    text_rested : (o : Option Captured) → st.capture ≡ o → (resting_by o).message ≡ message.Fine → IsTexted (resting_by o)
    text_rested None resting fine = text_alone resting (nat_lt 1 (count_here st)) refl fine
    text_rested (Some cap) typing fine = absurd (let e = fine in cc)

    text_so : (turn spec height reads clip st (command.Text text)).message ≡ message.Fine → IsTexted (turn spec height reads clip st (command.Text text))
    unfolding turn
    text_so = text_rested st.capture refl

  -- what is known where a typed text was entered
  record IsEnteredHere (t : Turn) : Type 0 where
    typed : Captured
    typing : st.capture ≡ Some typed
    is_meant : IsMeant typed.text t

  abbrev entering_by : Option Captured → Turn
  entering_by o = option_map_or (λ cap. typing_turn spec height reads clip st cap command.Enter) o (plain_turn spec height reads clip st command.Enter)

  enter_typed : AreReads spec reads → (o : Option Captured) → st.capture ≡ o → (entering_by o).message ≡ message.Fine → IsEnteredHere (entering_by o)
  enter_typed right None resting fine = absurd (let e = fine in cc)
  enter_typed right (Some cap) typing fine = record { typed = cap; typing = typing; is_meant = entry_so right cap.text (entry_here spec st) refl fine }

  enter_so : AreReads spec reads → (turn spec height reads clip st command.Enter).message ≡ message.Fine → IsEnteredHere (turn spec height reads clip st command.Enter)
  unfolding turn
  enter_so right = enter_typed right st.capture refl

module _ (spec : Spec) (height : ℕ) (r : Readers) (s : Session) (got : List Reply) (step : Step) where
  module _ (right : AreReads spec r.text) (fine : step.message ≡ message.Fine) where
    pub has_text : (text : Bytes) → Comes (ask spec height r s (command.Text text)) got step → HasText spec s text step
    has_text text comes =
        let o = the_turn spec height r s (command.Text text) step fine (comes_current spec height r s (command.Text text) got step refl comes) in
        let st = o.buffer.1 in
        let made = turn spec height r.text s.clip st (command.Text text) in
        let t = text_so spec height r.text s.clip st right text (fine_turn spec height r s (command.Text text) step o fine) in
        let m = t.is_meant in
        record {
          could = record {
            name = o.buffer.0;
            state = st;
            current = current_before s o.place o.buffer o.current o.there;
            resting = t.resting;
            one = t.one;
            old = m.old;
            selected = m.selected;
            editable = sym (ap (is_editable (shown_spec spec st)) (part_is spec height r.text s.clip st m.old m.selected)) ∙ t.editable;
            meaning = m.meaning;
          };
          new = made.state;
          after = current_after s o.place o.buffer o.current o.there step made o.is;
          term = m.term;
        }

    pub has_enter : Comes (ask spec height r s command.Enter) got step → HasEnter spec s step
    has_enter comes =
        let o = the_turn spec height r s command.Enter step fine (comes_current spec height r s command.Enter got step refl comes) in
        let made = turn spec height r.text s.clip o.buffer.1 command.Enter in
        let e = enter_so spec height r.text s.clip o.buffer.1 right (fine_turn spec height r s command.Enter step o fine) in
        record {
          could = record {
            name = o.buffer.0;
            state = o.buffer.1;
            current = current_before s o.place o.buffer o.current o.there;
            typed = e.typed;
            typing = e.typing;
            old = e.is_meant.old;
            selected = e.is_meant.selected;
            meaning = e.is_meant.meaning;
          };
          new = made.state;
          after = current_after s o.place o.buffer o.current o.there step made o.is;
          term = e.is_meant.term;
        }

    pub can_text : (text : Bytes) → Comes (ask spec height r s (command.Text text)) got step → CanText spec s text
    can_text text comes = (has_text text comes).could

    pub can_enter : Comes (ask spec height r s command.Enter) got step → CanEnter spec s
    can_enter comes = (has_enter comes).could

  -- a turn of the current buffer, which is this one
  turn_fine : (c : Command) (name : Bytes) (st : State) → current_of s ≡ Some (name, st) → (turn spec height r.text s.clip st c).message ≡ message.Fine → IsInCurrent spec height r s c step
      → step.message ≡ message.Fine
  turn_fine c name st here fine (inl none) = absurd (let e = sym none.none ∙ here in cc)
  turn_fine c name st here fine (inr o) =
      ap (λ (x : Step). x.message) o.is
      ∙ ap (λ (b : Bytes × State). (turn spec height r.text s.clip b.1 c).message) (current_only s o.place o.buffer o.current o.there (name, st) here)
      ∙ fine

  module _ (sound : IsSound spec) (v : View) (same : v.grammar ≡ grammar_of spec) (tables : IsTables v) (decided : Decided v) (right : AreReads spec r.text) where
    pub text_done : (text : Bytes) → CanText spec s text → Comes (ask spec height r s (command.Text text)) got step → step.message ≡ message.Fine
    text_done text can comes =
        turn_fine (command.Text text) can.name can.state can.current
        (text_fine spec height r.text s.clip can.state sound v same tables decided right text can.old can.selected can.meaning can.resting can.one can.editable)
        (comes_current spec height r s (command.Text text) got step refl comes)

    pub enter_done : CanEnter spec s → Comes (ask spec height r s command.Enter) got step → step.message ≡ message.Fine
    enter_done can comes =
        turn_fine command.Enter can.name can.state can.current
        (enter_fine spec height r.text s.clip can.state sound v same tables decided right can.typed.text can.old can.selected can.meaning can.typed can.typing refl)
        (comes_current spec height r s command.Enter got step refl comes)
