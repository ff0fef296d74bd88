-- Each turn keeps what is asked of a buffer and of what was copied, and evaluates nothing twice.
use Rattle.std.specs.Prelude.{◌≡◌, ◌≢◌, refl, ℕ, ◌-◌, Bool, true, false, not, nat_eq, nat_lt, ◌&&◌, if◌then◌else◌, List, [], ◌∷◌, ◌++◌, take, drop, AllPairs, Option, None, Some, is_some, option_map, unwrap_or, MatchOption, IsTrue, ⊤}
use Rattle.std.specs.Option.{option_map_or}
use Rattle.std.proofs.Common.{sym, ap, subst, ◌∙◌}
use Rattle.sg_kinds.specs.Values.{Bytes, is_text}
use Rattle.sg_kinds.specs.Places.{Place}
use Rattle.sg_kinds.specs.Terms.{Term}
use Rattle.sg_kinds.specs.declared.spec.Spec.{Spec}
use Rattle.sg_groves.proofs.EvaluatedOnce.{evaluated_apart}
use Rattle.sg_groves.proofs.Lists.{apart_none}
use Rattle.sg_changes.specs.Captured.{Captured, captured, put_in, taken_out}
use Rattle.sg_changes.specs.Changes.{Change, Put as Putting, Mark as Marking, chosen, marks_of, part_of}
use Rattle.sg_changes.specs.declared.direction.Direction.{Direction}
use Rattle.sg_changes.specs.declared.direction.Direction.TheVariants.{Back, Forth}
use Rattle.sg_changes.specs.declared.spot.Selection.{Selection}
use Rattle.sg_changes.proofs.Texts.{text_joined, text_put}
use Rattle.sg_script.specs.declared.message.Message.{Message}
use Rattle.sg_script.specs.declared.message.Message.TheVariants as message
use Rattle.sg_script.specs.declared.command.Command.{Command}
use Rattle.sg_script.specs.declared.command.Command.TheVariants as command
use Rattle.sg_search.specs.Found.{found_behind, is_known}
use Rattle.sg_states.specs.declared.marks.Extended.{Extended}
use Rattle.sg_states.specs.declared.marks.Extended.TheVariants.{Done, NotInList, NoPlace}
use Rattle.sg_states.specs.States.{State, ahead, begun, capture_of, ended, erased, extended, extension, gone_by, pointed, remarked, replaced, selected, selected_place, shown_spec, shrunk, target, typed, viewed}
use Rattle.sg_states.specs.Seen.{marks_seen, nothing_typed}
use Rattle.sg_unparse.specs.Page.{cells_of, owner_at}
use Rattle.sg_states.specs.declared.marks.Mark.TheVariants.{Alternate, Elide}
use Rattle.sg_states.specs.declared.marks.Move.TheVariants.{Next, Prev, Up, First, Sibling}
use Rattle.sg_states.specs.Turned.{turned_in}
use Rattle.sg_select.specs.RestingPlaces.{settled}
use Rattle.sg_states.specs.declared.marks.Mark.{Mark}
use Rattle.sg_states.specs.declared.marks.Move.{Move}
use Rattle.sg_edits.specs.Choice.{Choice, Refused, Put, limited}
use Rattle.sg_edits.specs.Edits.{deleted, done, everywhere, inserted, pasted, removed, typed as typed_in}
use Rattle.sg_edits.specs.declared.clip.Clip.{Clip}
use Rattle.sg_input.specs.Entered.{Entered, BadByte, NoToken, Stopped, Faulted, Typed, bad_byte}
use Rattle.sg_input.proofs.Answering.{none-bad}
use Rattle.sg_commands.specs.Clipped.{IsClip}
use Rattle.sg_commands.specs.Turn.{Reads, Turn, becomes, found_or, refused_if, says}
use Rattle.sg_commands.specs.Turns.{allowed_turn, copied_of, count_here, enterable, enters, enters_typed, entry_here, evaluated_along, extends, found_next, goes, is_editable_here, marks, plain_turn, puts, replaces, selection_of, travels, turn, types, types_unless, typing_turn, view_named, views, wants_one}
use Rattle.sg_commands.specs.Typing.{IsTyping, MayEnter}

pub record IsKept (spec : Spec) (t : Turn) : Type 0 where
  pub typing : IsTyping spec t.state
  pub clip : IsClip spec t.clip
  pub once : AllPairs ◌≢◌ t.set

evaluated_once : (d : Direction) (spec : Spec) (t : Term) (c : Change) → AllPairs ◌≢◌ (evaluated_along d spec t c)
evaluated_once d spec t (Putting u old new b a) = evaluated_apart spec t u (chosen d old new)
evaluated_once d spec t (Marking u old new b a) = apart_none

-- states
module _ (spec : Spec) (height : ℕ) (st : State) (is : IsTyping spec st) where
  replaced_typing : (u : Place) (s : Term) (select : Selection) → IsTyping spec (replaced spec height u s select st)
  replaced_typing u s select = record { typed = tt }

  -- where nothing is being typed
  module _ (none : st.capture ≡ None) where
    plain_typing : (after : State) → after.capture ≡ st.capture → IsTyping spec after
    plain_typing after same = record { typed = subst (λ o. MatchOption o ⊤ (MayEnter spec after)) (sym (same ∙ none)) tt }

    selected_typing : (u : Place) → IsTyping spec (selected spec height u st)
    selected_typing u = plain_typing (selected spec height u st) refl

    gone_typing : (d : Direction) (ps : List Change) → IsTyping spec (gone_by spec height d ps st)
    gone_typing d [] = is
    gone_typing d (c ∷ cs) = plain_typing (gone_by spec height d (c ∷ cs) st) refl

    viewed_typing : (v : ℕ) → IsTyping spec (viewed spec height v st)
    viewed_typing v = plain_typing (viewed spec height v st) refl

  -- with another text in the capture
  captured_typing : (c : Captured) → MayEnter spec st c → IsTyping spec (record st { capture = Some c })
  captured_typing c may = record {
    typed = record { text = may.text; editable = may.editable; entry = may.entry };
  }

  ended_typing : IsTyping spec (record st { capture = None })
  ended_typing = record { typed = tt }

  typed_text : (o : Option Captured) → MatchOption o ⊤ (MayEnter spec st) → IsTrue (is_text (unwrap_or o (captured [] 0)).text)
  typed_text None may = refl
  typed_text (Some c) may = may.text

  pub typed_typing : (bytes : Bytes) → None ≡ bad_byte bytes → is_editable_here spec st ≡ true
      → is_some (entry_here spec st) ≡ true → IsTyping spec (typed bytes st)
  typed_typing bytes good editable entry =
      let c = capture_of st in
      let whole = joined c.text bytes c.point (typed_text st.capture is.typed) (none-bad bytes good) in
      captured_typing (put_in c bytes) (record { text = whole; editable = editable; entry = entry })
    where
      joined : (text bytes : Bytes) (point : ℕ) → IsTrue (is_text text) → IsTrue (is_text bytes)
          → IsTrue (is_text (take point text ++ bytes ++ drop point text))
      joined text bytes point one two =
          text_put text bytes point point (take point text) (take point text ++ bytes) (drop point text)
          (take point text ++ bytes ++ drop point text) one two refl refl refl refl

  taken_typing : (c : Captured) → MayEnter spec st c → IsTyping spec (record st { capture = Some (taken_out c) })
  taken_typing c may = captured_typing (taken_out c) (record {
    text = text_joined c.text (c.point - 1) c.point (take (c.point - 1) c.text) (drop c.point c.text)
        (take (c.point - 1) c.text ++ drop c.point c.text) may.text refl refl refl;
    editable = may.editable;
    entry = may.entry;
  })

-- turns
module _ (spec : Spec) (height : ℕ) (clip : Option Clip) (st : State) (is : IsTyping spec st) (fits : IsClip spec clip) where
  says_kept : (m : Message) (after : State) → IsTyping spec after → IsKept spec (says clip m after)
  says_kept m after typing = record { typing = typing; clip = fits; once = apart_none }

  refused_kept : (m : Message) → IsKept spec (says clip m st)
  refused_kept m = says_kept m st is

  found_kept : {A : Type 0} (m : Message) (o : Option A) (after : A → State) → ((x : A) → IsTyping spec (after x))
      → IsKept spec (found_or clip st m (becomes clip) (option_map after o))
  found_kept m None after each = refused_kept m
  found_kept m (Some x) after each = says_kept message.Fine (after x) (each x)

  replaces_kept : (copied : Option Clip) → IsClip spec copied → (x : Choice)
      → IsKept spec (replaces spec height clip st copied x)
  replaces_kept copied may (Refused m) = refused_kept m
  replaces_kept copied may (Put u s v) = record {
    typing = replaced_typing spec height st is u s (selection_of v);
    clip = may;
    once = evaluated_apart spec st.term u s;
  }

  puts_kept : (x : Choice) → IsKept spec (puts spec height clip st x)
  puts_kept x = replaces_kept clip fits (limited st.term x)

  marks_kept : (mark : Mark) → IsKept spec (marks spec height clip st mark)
  marks_kept mark =
      let x = part_of st.term (selected_place st) in
      found_kept message.NoAlternate (turned_in (shown_spec spec st) mark x) (λ new. remarked spec height (unwrap_or (marks_of x) new) new st)
      (λ new. record { typed = tt })

  guarded_kept : (b : Bool) (m : Message) (t : Turn) → IsKept spec t → IsKept spec (refused_if clip st b m t)
  guarded_kept true m t kept = refused_kept m
  guarded_kept false m t kept = kept

  enterable_kept : (f : ℕ → Turn)
      → ((e : ℕ) → is_editable_here spec st ≡ true → is_some (entry_here spec st) ≡ true → IsKept spec (f e))
      → IsKept spec (enterable spec clip st f)
  enterable_kept f each = by (is_editable_here spec st) refl (entry_here spec st) refl
    where
      by : (b : Bool) → is_editable_here spec st ≡ b → (o : Option ℕ) → entry_here spec st ≡ o
          → IsKept spec (if not b then says clip message.NotEditable st else found_or clip st message.NoEntry f o)
      by false test o at = refused_kept message.NotEditable
      by true test None at = refused_kept message.NoEntry
      by true test (Some e) at = each e test (ap is_some at)

  enters_kept : (r : Entered) → IsKept spec (enters spec height clip st r)
  enters_kept (BadByte k) = refused_kept (message.ByteAt k)
  enters_kept (NoToken k) = refused_kept (message.LexicalAt k)
  enters_kept (Stopped k) = refused_kept (message.ParseAt k)
  enters_kept (Faulted why) = refused_kept (message.Result why)
  enters_kept (Typed v) = puts_kept (typed_in spec st.term (selected_place st) v)

  types_kept : (bytes : Bytes) → is_editable_here spec st ≡ true → is_some (entry_here spec st) ≡ true
      → IsKept spec (types clip st bytes)
  types_kept bytes editable entry = by (bad_byte bytes) refl
    where
      by : (o : Option ℕ) → o ≡ bad_byte bytes → IsKept spec (types_unless clip st o bytes)
      by None good = says_kept message.Fine (typed bytes st) (typed_typing spec height st is bytes good editable entry)
      by (Some k) bad = refused_kept (message.ByteAt k)

  module _ (reads : Reads) where
    -- while nothing is typed
    module _ (copied : IsClip spec (Some (copied_of spec st))) (none : st.capture ≡ None) where
      goes_kept : (to : Move) → IsKept spec (goes spec height clip st to)
      goes_kept to = found_kept message.NoPlace (target to (shown_spec spec st) st.term (selected_place st))
          (λ v. selected spec height v st) (selected_typing spec height st is none)

      travels_kept : (d : Direction) (ps : List Change) → IsKept spec (travels spec height clip st d ps)
      travels_kept d [] = refused_kept (chosen d message.NothingToUndo message.NothingToRedo)
      travels_kept d (c ∷ cs) = record {
        typing = gone_typing spec height st is none d (ahead d st);
        clip = fits;
        once = evaluated_once d spec st.term c;
      }

      extends_kept : (e : Extended) → IsKept spec (extends clip st e)
      extends_kept Done = says_kept message.Fine (extended st) (plain_typing spec height st is none (extended st) refl)
      extends_kept NotInList = refused_kept message.NotInList
      extends_kept NoPlace = refused_kept message.NoPlace

      named_kept : (o : Option ℕ) → IsKept spec (found_or clip st message.Unknown (λ v. becomes clip (viewed spec height v st)) o)
      named_kept None = refused_kept message.Unknown
      named_kept (Some v) = says_kept message.Fine (viewed spec height v st) (viewed_typing spec height st is none v)

      views_kept : (name : Option Bytes) → IsKept spec (views spec height clip st name)
      views_kept None = says_kept message.Fine (viewed spec height 0 st) (viewed_typing spec height st is none 0)
      views_kept (Some name) = named_kept (view_named spec name)

      allowed_kept : (c : Command) → IsKept spec (allowed_turn spec height reads clip st c)
      allowed_kept command.Next = goes_kept Next
      allowed_kept command.Prev = goes_kept Prev
      allowed_kept command.Up = goes_kept Up
      allowed_kept command.First = goes_kept First
      allowed_kept command.Sibling = goes_kept Sibling
      allowed_kept (command.Goto line column) =
          found_kept message.NoPlace (owner_at (cells_of (marks_seen spec st.spot.view st.term nothing_typed)) line column)
          (λ u. selected spec height (settled (shown_spec spec st) st.term u) st)
          (λ u. selected_typing spec height st is none (settled (shown_spec spec st) st.term u))
      allowed_kept command.Extend = extends_kept (extension spec st)
      allowed_kept command.Shrink =
          guarded_kept (nat_eq (count_here st) 1) message.NoPlace (becomes clip (shrunk st))
          (says_kept message.Fine (shrunk st) (plain_typing spec height st is none (shrunk st) refl))
      allowed_kept (command.Find name) =
          guarded_kept (not (is_known spec name)) message.Unknown
          (found_or clip st message.NoMatch (becomes clip) (found_next spec height name st))
          (found_kept message.NoMatch (found_behind spec st.spot.view name st.term (selected_place st)) (λ u. selected spec height u st)
          (selected_typing spec height st is none))
      allowed_kept (command.Do name) = puts_kept (done spec st.term (selected_place st) name)
      allowed_kept (command.ReplaceAll name) = puts_kept (everywhere spec st.term (selected_place st) name)
      allowed_kept command.Delete = puts_kept (deleted spec st.term (selected_place st) (count_here st))
      allowed_kept command.Remove = replaces_kept clip fits (removed spec st.term (selected_place st) (count_here st))
      allowed_kept command.InsertBefore = puts_kept (inserted spec st.term (selected_place st) (count_here st) false)
      allowed_kept command.InsertAfter = puts_kept (inserted spec st.term (selected_place st) (count_here st) true)
      allowed_kept command.Cut = replaces_kept (Some (copied_of spec st)) copied (limited st.term (deleted spec st.term (selected_place st) (count_here st)))
      allowed_kept command.Copy = record { typing = is; clip = copied; once = apart_none }
      allowed_kept command.Paste = puts_kept (pasted spec st.term (selected_place st) (count_here st) clip)
      allowed_kept (command.Text text) =
          enterable_kept (λ e. enters spec height clip st (reads e text)) (λ e editable entry. enters_kept (reads e text))
      allowed_kept (command.TypeIn text) = enterable_kept (λ e. types clip st text) (λ e editable entry. types_kept text editable entry)
      allowed_kept command.Erase = refused_kept message.NotInText
      allowed_kept command.Enter = refused_kept message.NotInText
      allowed_kept command.Abandon = refused_kept message.NotInText
      allowed_kept command.Alternate = marks_kept Alternate
      allowed_kept command.Elide = marks_kept Elide
      allowed_kept command.Undo = travels_kept Back st.past
      allowed_kept command.Redo = travels_kept Forth st.future
      allowed_kept (command.View name) = views_kept name
      allowed_kept (command.New name) = says_kept message.Fine st is
      allowed_kept (command.Load name file) = says_kept message.Fine st is
      allowed_kept (command.Switch name) = says_kept message.Fine st is
      allowed_kept command.Show = says_kept message.Fine st is
      allowed_kept (command.Save file) = says_kept message.Fine st is
      allowed_kept (command.SaveText file) = says_kept message.Fine st is

      plain_kept : (c : Command) → IsKept spec (plain_turn spec height reads clip st c)
      plain_kept c =
          guarded_kept (wants_one c && nat_lt 1 (count_here st)) message.InRun (allowed_turn spec height reads clip st c)
          (allowed_kept c)

    -- while this text is
    module _ (c : Captured) (at : st.capture ≡ Some c) where
      may_enter : MayEnter spec st c
      may_enter = subst (λ o. MatchOption o ⊤ (MayEnter spec st)) at is.typed

      erases_kept : (b : Bool) → IsKept spec (if b then says clip message.NoPlace st else becomes clip (erased st))
      erases_kept true = refused_kept message.NoPlace
      erases_kept false = says_kept message.Fine (erased st)
          (subst (λ o. IsTyping spec (record st { capture = option_map taken_out o })) (sym at)
          (taken_typing spec height st is c may_enter))

      pointed_kept : (m : Message) (k : ℕ) → IsKept spec (says clip m (pointed k st))
      pointed_kept m k = says_kept m (pointed k st)
          (subst (λ o. IsTyping spec (record st { capture = option_map (λ (x : Captured). record x { point = k }) o })) (sym at)
          (captured_typing spec height st is (record c { point = k })
          (record { text = may_enter.text; editable = may_enter.editable; entry = may_enter.entry })))

      enters_typed_kept : (r : Entered) → IsKept spec (enters_typed spec height clip st r)
      enters_typed_kept (NoToken k) = pointed_kept (message.LexicalAt k) k
      enters_typed_kept (Stopped k) = pointed_kept (message.ParseAt k) k
      enters_typed_kept (BadByte k) = refused_kept (message.ByteAt k)
      enters_typed_kept (Faulted why) = refused_kept (message.Result why)
      enters_typed_kept (Typed v) = puts_kept (typed_in spec st.term (selected_place st) v)

      captured_kept : (o : Option ℕ)
          → IsKept spec (found_or clip st message.NoEntry (λ e. enters_typed spec height clip st (reads e c.text)) o)
      captured_kept None = refused_kept message.NoEntry
      captured_kept (Some e) = enters_typed_kept (reads e c.text)

      typing_kept : (x : Command) → IsKept spec (typing_turn spec height reads clip st c x)
      typing_kept (command.TypeIn text) = types_kept text may_enter.editable may_enter.entry
      typing_kept command.Erase = erases_kept (nat_eq c.point 0)
      typing_kept command.Enter = captured_kept (entry_here spec st)
      typing_kept command.Abandon = says_kept message.Fine (ended st) (ended_typing spec height st is)
      typing_kept (command.New name) = says_kept message.Fine st is
      typing_kept (command.Load name file) = says_kept message.Fine st is
      typing_kept (command.Switch name) = says_kept message.Fine st is
      typing_kept command.Show = says_kept message.Fine st is
      typing_kept (command.Save file) = says_kept message.Fine st is
      typing_kept (command.SaveText file) = says_kept message.Fine st is
      typing_kept command.Next = refused_kept message.InText
      typing_kept command.Prev = refused_kept message.InText
      typing_kept command.Up = refused_kept message.InText
      typing_kept command.First = refused_kept message.InText
      typing_kept command.Sibling = refused_kept message.InText
      typing_kept (command.Goto line column) = refused_kept message.InText
      typing_kept command.Extend = refused_kept message.InText
      typing_kept command.Shrink = refused_kept message.InText
      typing_kept (command.Find name) = refused_kept message.InText
      typing_kept (command.Do name) = refused_kept message.InText
      typing_kept (command.ReplaceAll name) = refused_kept message.InText
      typing_kept command.Delete = refused_kept message.InText
      typing_kept command.Remove = refused_kept message.InText
      typing_kept command.InsertBefore = refused_kept message.InText
      typing_kept command.InsertAfter = refused_kept message.InText
      typing_kept command.Cut = refused_kept message.InText
      typing_kept command.Copy = refused_kept message.InText
      typing_kept command.Paste = refused_kept message.InText
      typing_kept (command.Text text) = refused_kept message.InText
      typing_kept command.Alternate = refused_kept message.InText
      typing_kept command.Elide = refused_kept message.InText
      typing_kept command.Undo = refused_kept message.InText
      typing_kept command.Redo = refused_kept message.InText
      typing_kept (command.View name) = refused_kept message.InText

    pub turn_kept : IsClip spec (Some (copied_of spec st)) → (x : Command)
        → IsKept spec (turn spec height reads clip st x)
    unfolding turn
    turn_kept copied x = by st.capture refl
      where
        by : (o : Option Captured) → st.capture ≡ o
            → IsKept spec (option_map_or (λ c. typing_turn spec height reads clip st c x) o (plain_turn spec height reads clip st x))
        by None none = plain_kept copied none x
        by (Some c) at = typing_kept c at x

-- a new buffer
pub begun_typing : (spec : Spec) (t : Term) → IsTyping spec (begun t)
begun_typing spec t = record { typed = tt }
