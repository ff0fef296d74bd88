-- Commands that are not done.
use Rattle.std.specs.Prelude.{◌≡◌, ◌≢◌, ◌⊎◌, refl, ℕ, Bool, true, false, not, ◌&&◌, nat_eq, nat_lt, length, if◌then◌else◌, List, [], ◌∷◌, slice_get, slice_set, Option, None, Some, Result, Ok, Err}
use Rattle.std.specs.Option.{option_map_or}
use Rattle.std.proofs.Common.{sym, ap, ◌∙◌, subst, inl, inr}
use Rattle.std.proofs.lemmas.Option.{get_or_from_slice_get}
use Rattle.std.proofs.Math.Seq.{set-get_or}
use Rattle.sg_kinds.specs.Values.{Bytes}
use Rattle.sg_kinds.specs.Completing.{completing}
use Rattle.sg_kinds.specs.declared.spec.Spec.{Spec}
use Rattle.sg_changes.specs.Captured.{Captured}
use Rattle.sg_changes.specs.Changes.{Change, chosen}
use Rattle.sg_changes.specs.declared.direction.Direction.{Direction}
use Rattle.sg_changes.specs.declared.direction.Direction.TheVariants.{Back, Forth}
use Rattle.sg_edits.specs.Choice.{Choice, Refused, Put, limited}
use Rattle.sg_edits.specs.Edits.{done, everywhere, deleted, pasted, removed, inserted, typed as typed_in}
use Rattle.sg_edits.specs.declared.clip.Clip.{Clip}
use Rattle.sg_input.specs.Entered.{Entered, BadByte, NoToken, Stopped, Faulted, Typed, bad_byte}
use Rattle.sg_replies.specs.declared.reply.Reply.{Reply}
use Rattle.sg_replies.specs.declared.reply.Reply.TheVariants as reply
use Rattle.sg_saved.specs.Read.{Opened, FormAt, PhylumAt, TooLarge, Holds}
use Rattle.sg_script.specs.declared.message.Message.{Message}
use Rattle.sg_script.specs.declared.message.Message.TheVariants as message
use Rattle.sg_script.specs.declared.command.Command.{Command}
use Rattle.sg_script.specs.declared.command.Command.TheVariants as command
use Rattle.sg_states.specs.States.{State, erased, extension, marked, moved, picked, pointed, selected_place, shrunk, viewed}
use Rattle.sg_search.specs.Found.{is_known}
use Rattle.sg_states.specs.declared.marks.Extended.{Extended}
use Rattle.sg_states.specs.declared.marks.Extended.TheVariants.{Done, NotInList, NoPlace}
use Rattle.sg_states.specs.declared.marks.Mark.{Mark}
use Rattle.sg_states.specs.declared.marks.Mark.TheVariants.{Alternate, Elide}
use Rattle.sg_states.specs.declared.marks.Move.{Move}
use Rattle.sg_states.specs.declared.marks.Move.TheVariants.{Next, Prev, Up, First, Sibling}
use Rattle.sg_commands.specs.Turn.{Reads, Turn, becomes, found_or, refused_if, says}
use Rattle.sg_commands.specs.Turns.{allowed_turn, copied_of, count_here, enterable, enters, enters_typed, entry_here, extends, found_next, is_editable_here, plain_turn, puts, replaces, travels, turn, types_unless, typing_turn, view_named, views, wants_one}
use Rattle.sg_editor.specs.Ask.{Readers, Step, ask, barred, fetched, in_current, keeps, loads, longest_file, news, opened, opens, saved_form, saved_text, switches, taken, turned_at, turned_to}
use Rattle.sg_editor.specs.Ask as asking
use Rattle.sg_editor.specs.Refused.{IsPointed, Leaves, counted_by}
use Rattle.sg_editor.specs.Session.{Session, buffer_named, with_load}
use Rattle.sg_editor.specs.Steps.{Comes}

-- a turn is done, or leaves the buffer and what was copied, or moves the point of a text that is entered
abbrev Still : Option Clip → State → Turn → Type 0
Still clip st t = (t.state ≡ st) × (t.clip ≡ clip)

abbrev Points : Option Clip → State → Turn → Type 0
Points clip st t = (k : ℕ) × ((t.message ≡ message.LexicalAt k) ⊎ (t.message ≡ message.ParseAt k)) × (t.state ≡ pointed k st) × (t.clip ≡ clip)

abbrev Left : Command → Option Clip → State → Turn → Type 0
Left c clip st t = (t.message ≡ message.Fine) ⊎ (Still clip st t ⊎ ((c ≡ command.Enter) × Points clip st t))

module _ (c : Command) (clip : Option Clip) (st : State) where
  said_left : (m : Message) → Left c clip st (says clip m st)
  said_left m = inr (inl (refl, refl))

  done_left : (to : State) → Left c clip st (becomes clip to)
  done_left to = inl refl

  if_left : (b : Bool) (m : Message) (t : Turn) → Left c clip st t → Left c clip st (refused_if clip st b m t)
  if_left true m t left = said_left m
  if_left false m t left = left

  found_left : {A : Type 0} (m : Message) (f : A → Turn) (o : Option A) → ((x : A) → Left c clip st (f x)) → Left c clip st (found_or clip st m f o)
  found_left m f None each = said_left m
  found_left m f (Some x) each = each x

  extends_left : (e : Extended) → Left c clip st (extends clip st e)
  extends_left Done = inl refl
  extends_left NotInList = said_left message.NotInList
  extends_left NoPlace = said_left message.NoPlace

  types_left : (o : Option ℕ) (bytes : Bytes) → Left c clip st (types_unless clip st o bytes)
  types_left None bytes = inl refl
  types_left (Some k) bytes = said_left (message.ByteAt k)

  module _ (spec : Spec) (height : ℕ) where
    replaces_left : (copied : Option Clip) (choice : Choice) → Left c clip st (replaces spec height clip st copied choice)
    replaces_left copied (Refused m) = said_left m
    replaces_left copied (Put u s select) = inl refl

    puts_left : (choice : Choice) → Left c clip st (puts spec height clip st choice)
    puts_left choice = replaces_left clip (limited st.term choice)

    travels_left : (d : Direction) (cs : List Change) → Left c clip st (travels spec height clip st d cs)
    travels_left d [] = said_left (chosen d message.NothingToUndo message.NothingToRedo)
    travels_left d (x ∷ cs) = inl refl

    views_left : (name : Option Bytes) → Left c clip st (views spec height clip st name)
    views_left None = inl refl
    views_left (Some name) = found_left message.Unknown (λ v. becomes clip (viewed spec height v st)) (view_named spec name) (λ v. inl refl)

    enters_left : (x : Entered) → Left c clip st (enters spec height clip st x)
    enters_left (BadByte k) = said_left (message.ByteAt k)
    enters_left (NoToken k) = said_left (message.LexicalAt k)
    enters_left (Stopped k) = said_left (message.ParseAt k)
    enters_left (Faulted why) = said_left (message.Result why)
    enters_left (Typed v) = puts_left (typed_in spec st.term (selected_place st) v)

    entered_left : c ≡ command.Enter → (x : Entered) → Left c clip st (enters_typed spec height clip st x)
    entered_left is (NoToken k) = inr (inr (is, (k, inl refl, refl, refl)))
    entered_left is (Stopped k) = inr (inr (is, (k, inr refl, refl, refl)))
    entered_left is (BadByte k) = said_left (message.ByteAt k)
    entered_left is (Faulted why) = said_left (message.Result why)
    entered_left is (Typed v) = puts_left (typed_in spec st.term (selected_place st) v)

    enterable_left : (f : ℕ → Turn) → ((entry : ℕ) → Left c clip st (f entry)) → Left c clip st (enterable spec clip st f)
    enterable_left f each = if_left (not (is_editable_here spec st)) message.NotEditable (found_or clip st message.NoEntry f (entry_here spec st))
        (found_left message.NoEntry f (entry_here spec st) each)

    goes_left : (move : Move) → Left c clip st (found_or clip st message.NoPlace (becomes clip) (moved spec height move st))
    goes_left move = found_left message.NoPlace (becomes clip) (moved spec height move st) done_left

    marks_left : (mark : Mark) → Left c clip st (found_or clip st message.NoAlternate (becomes clip) (marked spec height mark st))
    marks_left mark = found_left message.NoAlternate (becomes clip) (marked spec height mark st) done_left

module _ (spec : Spec) (height : ℕ) (reads : Reads) (clip : Option Clip) (st : State) where
  allowed_left : (c : Command) → Left c clip st (allowed_turn spec height reads clip st c)
  allowed_left command.Next = goes_left command.Next clip st spec height Next
  allowed_left command.Prev = goes_left command.Prev clip st spec height Prev
  allowed_left command.Up = goes_left command.Up clip st spec height Up
  allowed_left command.First = goes_left command.First clip st spec height First
  allowed_left command.Sibling = goes_left command.Sibling clip st spec height Sibling
  allowed_left (command.Goto line column) = found_left (command.Goto line column) clip st message.NoPlace (becomes clip) (picked spec height line column st) (done_left (command.Goto line column) clip st)
  allowed_left command.Extend = extends_left command.Extend clip st (extension spec st)
  allowed_left command.Shrink = if_left command.Shrink clip st (nat_eq (count_here st) 1) message.NoPlace (becomes clip (shrunk st)) (inl refl)
  allowed_left (command.Find name) = if_left (command.Find name) clip st (not (is_known spec name)) message.Unknown (found_or clip st message.NoMatch (becomes clip) (found_next spec height name st))
      (found_left (command.Find name) clip st message.NoMatch (becomes clip) (found_next spec height name st) (done_left (command.Find name) clip st))
  allowed_left (command.Do name) = puts_left (command.Do name) clip st spec height (done spec st.term (selected_place st) name)
  allowed_left (command.ReplaceAll name) = puts_left (command.ReplaceAll name) clip st spec height (everywhere spec st.term (selected_place st) name)
  allowed_left command.Delete = puts_left command.Delete clip st spec height (deleted spec st.term (selected_place st) (count_here st))
  allowed_left command.Remove = replaces_left command.Remove clip st spec height clip (removed spec st.term (selected_place st) (count_here st))
  allowed_left command.InsertBefore = puts_left command.InsertBefore clip st spec height (inserted spec st.term (selected_place st) (count_here st) false)
  allowed_left command.InsertAfter = puts_left command.InsertAfter clip st spec height (inserted spec st.term (selected_place st) (count_here st) true)
  allowed_left command.Cut = replaces_left command.Cut clip st spec height (Some (copied_of spec st)) (limited st.term (deleted spec st.term (selected_place st) (count_here st)))
  allowed_left command.Paste = puts_left command.Paste clip st spec height (pasted spec st.term (selected_place st) (count_here st) clip)
  allowed_left (command.Text text) = enterable_left (command.Text text) clip st spec height (λ entry. enters spec height clip st (reads entry text))
      (λ entry. enters_left (command.Text text) clip st spec height (reads entry text))
  allowed_left (command.TypeIn text) = enterable_left (command.TypeIn text) clip st spec height (λ entry. types_unless clip st (bad_byte text) text)
      (λ entry. types_left (command.TypeIn text) clip st (bad_byte text) text)
  allowed_left command.Erase = said_left command.Erase clip st message.NotInText
  allowed_left command.Enter = said_left command.Enter clip st message.NotInText
  allowed_left command.Abandon = said_left command.Abandon clip st message.NotInText
  allowed_left command.Alternate = marks_left command.Alternate clip st spec height Alternate
  allowed_left command.Elide = marks_left command.Elide clip st spec height Elide
  allowed_left command.Undo = travels_left command.Undo clip st spec height Back st.past
  allowed_left command.Redo = travels_left command.Redo clip st spec height Forth st.future
  allowed_left (command.View name) = views_left (command.View name) clip st spec height name
  allowed_left other = inl refl

  plain_left : (c : Command) → Left c clip st (plain_turn spec height reads clip st c)
  plain_left c = if_left c clip st (wants_one c && nat_lt 1 (count_here st)) message.InRun (allowed_turn spec height reads clip st c) (allowed_left c)

  typing_left : (cap : Captured) (c : Command) → Left c clip st (typing_turn spec height reads clip st cap c)
  typing_left cap (command.TypeIn text) = types_left (command.TypeIn text) clip st (bad_byte text) text
  typing_left cap command.Erase = if_left command.Erase clip st (nat_eq cap.point 0) message.NoPlace (becomes clip (erased st)) (inl refl)
  typing_left cap command.Enter = found_left command.Enter clip st message.NoEntry (λ entry. enters_typed spec height clip st (reads entry cap.text)) (entry_here spec st)
      (λ entry. entered_left command.Enter clip st spec height refl (reads entry cap.text))
  typing_left cap command.Abandon = inl refl
  typing_left cap command.Show = inl refl
  typing_left cap (command.New name) = inl refl
  typing_left cap (command.Load name file) = inl refl
  typing_left cap (command.Switch name) = inl refl
  typing_left cap (command.Save file) = inl refl
  typing_left cap (command.SaveText file) = inl refl
  typing_left cap c = said_left c clip st message.InText

  turn_left : (c : Command) → Left c clip st (turn spec height reads clip st c)
  unfolding turn
  turn_left c = by st.capture
    where
      by : (o : Option Captured) → Left c clip st (option_map_or (λ cap. typing_turn spec height reads clip st cap c) o (plain_turn spec height reads clip st c))
      by None = plain_left c
      by (Some cap) = typing_left cap c

same_buffer : {X : Type 0} (xs : List X) (k : ℕ) (x : X) → slice_get xs k ≡ Some x → slice_set xs k x ≡ xs
same_buffer xs k x here = sym (ap (slice_set xs k) (get_or_from_slice_get xs k x x here)) ∙ set-get_or xs k x

-- of a command in the current buffer
abbrev StepLeft : Session → Step → Command → Type 0
StepLeft s step c = (step.message ≡ message.Fine) ⊎ ((step.session ≡ s) ⊎ ((c ≡ command.Enter) × IsPointed s step.session step.message))

module _ (s : Session) (c : Command) where
  turned_left : (k : ℕ) (b : Bytes × State) → s.current ≡ Some k → slice_get s.buffers k ≡ Some b → (t : Turn) → Left c s.clip b.1 t → StepLeft s (turned_to k b.0 s t) c
  turned_left k b at here t (inl fine) = inl fine
  turned_left k b at here t (inr (inl still)) =
      let buffers = ap (λ (st : State). slice_set s.buffers k (b.0, st)) still.0 ∙ same_buffer s.buffers k b here in
      inr (inl (λ i. record { buffers = buffers i; current = s.current; clip = still.1 i; loads = s.loads }))
  turned_left k b at here t (inr (inr entered)) =
      let p = entered.1 in
      inr (inr (
        entered.0,
        record {
          point = p.0;
          told = p.1;
          place = k;
          buffer = b;
          current = at;
          there = here;
          pointed = λ i. record { buffers = slice_set s.buffers k (b.0, p.2 i); current = s.current; clip = p.3 i; loads = s.loads };
        },
      ))

  module _ (spec : Spec) (height : ℕ) (r : Readers) where
    at_left : (k : ℕ) → s.current ≡ Some k → (o : Option (Bytes × State)) → slice_get s.buffers k ≡ o → StepLeft s (turned_at spec height r s c k o) c
    at_left k at None here = inr (inl refl)
    at_left k at (Some b) here = turned_left k b at here (turn spec height r.text s.clip b.1 c) (turn_left spec height r.text s.clip b.1 c)

    current_left : (o : Option ℕ) → s.current ≡ o → StepLeft s (in_current spec height r s c o) c
    current_left None at = inr (inl refl)
    current_left (Some k) at = at_left k at (slice_get s.buffers k) refl

-- where a step is not fine
abbrev Unless : Session → Step → Type 0
Unless s step = (step.message ≡ message.Fine) ⊎ (step.session ≡ s)

module _ (s : Session) (name : Bytes) (spec : Spec) where
  news_left : (o : Option Message) → Unless s (option_map_or (asking.says s) o (opens spec name (completing spec spec.root) s))
  news_left None = inl refl
  news_left (Some m) = inr refl

  opened_left : (x : Opened) → Unless s (opened spec name s x)
  opened_left (FormAt k) = inr refl
  opened_left (PhylumAt k) = inr refl
  opened_left (TooLarge nodes depth) = inr refl
  opened_left (Holds v) = inl refl

  fetched_left : (height : ℕ) (r : Readers) (x : Reply) → Unless s (fetched spec height r name s x)
  fetched_left height r (reply.Fetched bytes) = by (nat_lt longest_file (length bytes))
    where
      by : (long : Bool) → Unless s (if long then asking.says s message.LongFile else opened spec name s (r.file bytes))
      by true = inr refl
      by false = opened_left (r.file bytes)
  fetched_left height r reply.FetchFailed = inr refl
  fetched_left height r reply.Kept = inr refl
  fetched_left height r reply.KeepFailed = inr refl

switched_left : (s : Session) (o : Option ℕ) → Unless s (option_map_or (λ (k : ℕ). asking.says (record s { current = Some k }) message.Fine) o (asking.says s message.NoBuffer))
switched_left s None = inr refl
switched_left s (Some k) = inl refl

kept_left : (s : Session) (file : Bytes) (r : Result Bytes Message) (got : List Reply) (step : Step) → Comes (keeps file s r) got step → step.session ≡ s
kept_left s file (Ok bytes) got step comes = ap (λ (x : Step). x.session) comes.3
kept_left s file (Err m) got step comes = ap (λ (x : Step). x.session) comes.1

unless : (s : Session) (told step : Step) → step ≡ told → step.message ≢ message.Fine → Unless s told → step.session ≡ s
unless s told step is wrong (inl fine) = absurd (wrong (ap (λ (x : Step). x.message) is ∙ fine))
unless s told step is wrong (inr same) = ap (λ (x : Step). x.session) is ∙ same

current_or : (s : Session) (c : Command) (told step : Step) → step ≡ told → step.message ≢ message.Fine → StepLeft s told c
    → (step.session ≡ s) ⊎ ((c ≡ command.Enter) × IsPointed s step.session step.message)
current_or s c told step is wrong (inl fine) = absurd (wrong (ap (λ (x : Step). x.message) is ∙ fine))
current_or s c told step is wrong (inr left) =
    subst (λ (x : Step). (x.session ≡ s) ⊎ ((c ≡ command.Enter) × IsPointed s x.session x.message)) (sym is) left

module _ (spec : Spec) (height : ℕ) (r : Readers) (s : Session) (got : List Reply) (step : Step) where
  loaded_left : (name file : Bytes) (o : Option Message) → Comes (loads spec height r name file s o) got step → step.message ≢ message.Fine → step.session ≡ counted_by got s
  loaded_left name file (Some m) comes wrong =
      ap (λ (x : Step). x.session) comes.1 ∙ sym (ap (λ (rs : List Reply). counted_by rs s) comes.0)
  loaded_left name file None comes wrong =
      unless (with_load s) (fetched spec height r name (with_load s) comes.0) step comes.3 wrong (fetched_left (with_load s) name spec height r comes.0)
      ∙ sym (ap (λ (rs : List Reply). counted_by rs s) comes.1)

  pub refused : (c : Command) → Comes (ask spec height r s c) got step → step.message ≢ message.Fine → Leaves s got step c
  unfolding ask
  refused (command.Load name file) comes wrong = loaded_left name file (barred name s) comes wrong
  refused (command.Save file) comes wrong = inl (kept_left s file (saved_form spec s) got step comes)
  refused (command.SaveText file) comes wrong = inl (kept_left s file (saved_text spec s) got step comes)
  refused (command.New name) comes wrong = inl (unless s (news spec name s) step comes.1 wrong (news_left s name spec (taken name s)))
  refused (command.Switch name) comes wrong = inl (unless s (switches name s) step comes.1 wrong (switched_left s (buffer_named name s)))
  refused command.Show comes wrong = inl (ap (λ (x : Step). x.session) comes.1)
  refused c comes wrong = current_or s c (in_current spec height r s c s.current) step comes.1 wrong (current_left s c spec height r s.current refl)
