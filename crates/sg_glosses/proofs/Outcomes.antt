-- What a turn of a buffer evaluates.
use Rattle.std.specs.Prelude.{◌≡◌, ◌≢◌, ◌⊎◌, refl, ℕ, Bool, true, false, not, ◌&&◌, ◌==◌, nat_eq, nat_le, nat_lt, if◌then◌else◌, List, [], ◌∷◌, Option, None, Some, IsTrue, ⊤}
use Rattle.std.specs.Option.{option_map_or}
use Rattle.std.proofs.Common.{inl, inr}
use Rattle.std.proofs.lemmas.Bool.{false≢true}
use Rattle.sg_kinds.specs.Values.{Bytes, Value, Truth, Number, Chars, Tree, Fault}
use Rattle.sg_kinds.specs.Terms.{Term, nodes_of, height_of}
use Rattle.sg_kinds.specs.Places.{Place, put, sub}
use Rattle.sg_kinds.specs.Plain.{plain}
use Rattle.sg_kinds.specs.ValueOf.{value_of}
use Rattle.sg_kinds.specs.declared.spec.Spec.{Spec}
use Rattle.sg_groves.specs.Evaluated.{evaluated}
use Rattle.sg_changes.specs.Captured.{Captured}
use Rattle.sg_changes.specs.Changes.{Change, chosen}
use Rattle.sg_changes.specs.declared.direction.Direction.{Direction}
use Rattle.sg_changes.specs.declared.direction.Direction.TheVariants.{Back, Forth}
use Rattle.sg_changes.specs.declared.spot.Selection.{Selection}
use Rattle.sg_matching.specs.Transformation.{Given, transformation}
use Rattle.sg_matching.specs.Transformation as given
use Rattle.sg_script.specs.declared.message.Message.{Message}
use Rattle.sg_script.specs.declared.message.Message.TheVariants as message
use Rattle.sg_script.specs.declared.command.Command.{Command}
use Rattle.sg_script.specs.declared.command.Command.TheVariants as command
use Rattle.sg_search.specs.ReplacedAll.{Replaced, replaced_all}
use Rattle.sg_search.specs.ReplacedAll as replacement
use Rattle.sg_search.specs.Found.{is_known}
use Rattle.sg_select.specs.Paths.{spine_from}
use Rattle.sg_states.specs.States.{State, ahead, erased, extension, gone, marked, moved, picked, pointed, replaced, selected_place, shrunk, viewed}
use Rattle.sg_states.specs.declared.marks.Extended.{Extended}
use Rattle.sg_states.specs.declared.marks.Extended.TheVariants.{Done, NotInList, NoPlace}
use Rattle.sg_states.specs.declared.marks.Mark.TheVariants.{Alternate, Elide}
use Rattle.sg_states.specs.declared.marks.Move.TheVariants.{Next, Prev, Up, First, Sibling}
use Rattle.sg_edits.specs.Choice.{Choice, Refused, Put, limited, one}
use Rattle.sg_edits.specs.Edits.{at_spine, at_term, by_given, by_outcome, by_replaced, before as joined_before, completed, deleted, done, emptied, everywhere, filled, grown, inserted, is_empty_list, is_never_empty, is_only, left_at, pasted, pasted_over, phylum_in, picked_in, removed, rest_behind, suits, taken, typed as typed_in, without}
use Rattle.sg_edits.specs.declared.clip.Clip.{Clip}
use Rattle.sg_input.specs.Entered.{Entered, BadByte, NoToken, Stopped, Faulted, Typed, bad_byte}
use Rattle.sg_commands.specs.Turn.{Reads, Turn, becomes, found_or, refused_if, says}
use Rattle.sg_commands.specs.Turns.{allowed_turn, copied_of, count_here, enters, enters_typed, entry_here, evaluated_along, extends, found_next, is_editable_here, plain_turn, puts, replaces, selection_of, travels, turn, types_unless, typing_turn, wants_one, view_named}
use Rattle.sg_glosses.specs.Evaluations.{evaluates_nothing, is_replacement}

-- a choice that is refused is not told as fine
abbrev pub IsHonest : Choice → Type 0
IsHonest (Refused m) = m ≢ message.Fine
IsHonest (Put at s select) = ⊤

module _ (t : Term) (u : Place) where
  term_honest : (make : Term → Choice) → ((x : Term) → IsHonest (make x)) → IsHonest (at_term t u make)
  term_honest make each = by (sub t u)
    where
      by : (o : Option Term) → IsHonest (option_map_or make o (Refused message.NoPlace))
      by None = λ e. cc
      by (Some x) = each x

module _ (spec : Spec) (t : Term) (u : Place) where
  spine_honest : (m : Message) → m ≢ message.Fine → (make : Place → Term → Choice) → ((p : Place) (x : Term) → IsHonest (make p x)) → IsHonest (at_spine spec t u m make)
  spine_honest m wrong make each = by (spine_from spec t u)
    where
      by : (o : Option Place) → IsHonest (option_map_or (λ p. at_term t p (make p)) o (Refused m))
      by None = wrong
      by (Some p) = term_honest t p (make p) (each p)

  outcome_honest : (p : ℕ) (v : Value) → IsHonest (by_outcome spec t u p v)
  outcome_honest p (Fault why) = λ e. cc
  outcome_honest p (Truth b) = tt
  outcome_honest p (Number z) = tt
  outcome_honest p (Chars s) = tt
  outcome_honest p (Tree op vs) = tt

  given_honest : (p : ℕ) (g : Given) → IsHonest (by_given spec t u p g)
  given_honest p given.Unknown = λ e. cc
  given_honest p given.NoMatch = λ e. cc
  given_honest p (given.Gives v) = outcome_honest p v

  done_honest : (name : Bytes) → IsHonest (done spec t u name)
  done_honest name = term_honest t u (λ x. by_given spec t u (phylum_in spec x) (transformation spec (phylum_in spec x) name (value_of x)))
      (λ x. given_honest (phylum_in spec x) (transformation spec (phylum_in spec x) name (value_of x)))

  replaced_honest : (r : Replaced) → IsHonest (by_replaced u r)
  replaced_honest replacement.NoneNamed = λ e. cc
  replaced_honest replacement.NoneApplies = λ e. cc
  replaced_honest (replacement.Fails why) = λ e. cc
  replaced_honest (replacement.Makes s) = tt

  everywhere_honest : (name : Bytes) → IsHonest (everywhere spec t u name)
  everywhere_honest name = term_honest t u (λ x. by_replaced u (replaced_all spec name x)) (λ x. replaced_honest (replaced_all spec name x))

  typed_honest : (v : Value) → IsHonest (typed_in spec t u v)
  typed_honest v = term_honest t u (λ x. Put u (plain spec v (phylum_in spec x)) (one u)) (λ x. tt)

  emptied_honest : (deletes : Bool) (p : Place) (x : Term) → IsHonest (emptied spec t deletes p x)
  emptied_honest true p x = tt
  emptied_honest false p x = λ e. cc

  without_honest : (deletes : Bool) (n : ℕ) (p : Place) (x : Term) → IsHonest (without spec t deletes n p x)
  without_honest deletes n p x = by (is_only spec t p (rest_behind n x) && is_never_empty spec x)
    where
      by : (b : Bool) → IsHonest (if b then emptied spec t deletes p x else Put p (rest_behind n x) (one (left_at spec t p (rest_behind n x))))
      by true = emptied_honest deletes p x
      by false = tt

  taken_honest : (deletes : Bool) (n : ℕ) → IsHonest (taken spec t deletes u n)
  taken_honest deletes n = spine_honest message.NotInList (λ e. cc) (without spec t deletes n) (without_honest deletes n)

  deleted_honest : (n : ℕ) → IsHonest (deleted spec t u n)
  deleted_honest n = by (nat_eq n 1)
    where
      by : (b : Bool) → IsHonest (if b then at_term t u (completed spec false u) else taken spec t true u n)
      by true = term_honest t u (completed spec false u) (λ x. tt)
      by false = taken_honest true n

  -- a new element behind so many
  grown_honest : (k : ℕ) → IsHonest (at_spine spec t u message.NotInList (grown spec t k))
  grown_honest k = spine_honest message.NotInList (λ e. cc) (grown spec t k) (λ p y. tt)

  inserted_honest : (n : ℕ) (after : Bool) → IsHonest (inserted spec t u n after)
  inserted_honest n after = term_honest t u
      (λ x. if nat_eq n 1 && is_empty_list spec x then filled spec u x else at_spine spec t u message.NotInList (grown spec t (if after then n else 0)))
      (λ x. by x (nat_eq n 1 && is_empty_list spec x))
    where
      by : (x : Term) (b : Bool) → IsHonest (if b then filled spec u x else at_spine spec t u message.NotInList (grown spec t (if after then n else 0)))
      by x true = tt
      by x false = grown_honest (if after then n else 0)

  over_honest : (n : ℕ) (clip : Clip) (p : Place) (x : Term) → IsHonest (pasted_over spec t n clip p x)
  over_honest n clip p x = by (suits spec clip x)
    where
      by : (b : Bool) → IsHonest (if b then Put p (joined_before spec clip x (rest_behind n x)) (record { place = 0 ∷ p; count = clip.count }) else Refused message.Phylum)
      by true = tt
      by false = λ e. cc

  pasted_honest : (n : ℕ) (o : Option Clip) → IsHonest (pasted spec t u n o)
  pasted_honest n None = λ e. cc
  pasted_honest n (Some clip) = term_honest t u
      (λ x. if nat_eq n 1 && clip.phylum == phylum_in spec x then Put u clip.term (picked_in clip u) else at_spine spec t u message.Phylum (pasted_over spec t n clip))
      (λ x. by (nat_eq n 1 && clip.phylum == phylum_in spec x))
    where
      by : (b : Bool) → IsHonest (if b then Put u clip.term (picked_in clip u) else at_spine spec t u message.Phylum (pasted_over spec t n clip))
      by true = tt
      by false = spine_honest message.Phylum (λ e. cc) (pasted_over spec t n clip) (over_honest n clip)

limited_honest : (t : Term) (c : Choice) → IsHonest c → IsHonest (limited t c)
limited_honest t (Refused m) wrong = wrong
limited_honest t (Put at s select) ok = by (nat_le (nodes_of (put t at s)) 65536 && nat_le (height_of (put t at s)) 1024)
  where
    by : (b : Bool) → IsHonest (if b then Put at s select else Refused message.Size)
    by true = tt
    by false = λ e. cc

-- a subterm has come to a place of a state's term, and what that evaluates
pub record Replaces (spec : Spec) (height : ℕ) (st : State) (t : Turn) : Type 0 where
  pub place : Place
  pub subterm : Term
  pub select : Selection
  pub state : t.state ≡ replaced spec height place subterm select st
  pub set : t.set ≡ evaluated spec st.term place subterm
  pub fine : t.message ≡ message.Fine

-- a way has gone along the nearest change
pub record Goes (spec : Spec) (height : ℕ) (d : Direction) (st : State) (t : Turn) : Type 0 where
  pub change : Change
  pub others : List Change
  pub nearest : ahead d st ≡ change ∷ others
  pub state : t.state ≡ gone spec height d st
  pub set : t.set ≡ evaluated_along d spec st.term change
  pub fine : t.message ≡ message.Fine

nothing_there : (d : Direction) → chosen d message.NothingToUndo message.NothingToRedo ≢ message.Fine
nothing_there Back = λ e. cc
nothing_there Forth = λ e. cc

-- or it is refused, nothing is evaluated, and the state stays but for the point of a text that is typed
abbrev pub Refuses : State → Turn → Type 0
Refuses st t = (t.message ≢ message.Fine) × (t.set ≡ []) × ((t.state ≡ st) ⊎ ((k : ℕ) × (t.state ≡ pointed k st)))

module _ (spec : Spec) (height : ℕ) (clip : Option Clip) (st : State) where
  abbrev pub Replacing : Turn → Type 0
  Replacing t = Refuses st t ⊎ Replaces spec height st t

  refuses : (m : Message) → m ≢ message.Fine → Replacing (says clip m st)
  refuses m wrong = inl (wrong, refl, inl refl)

  replaces_so : (copied : Option Clip) (choice : Choice) → IsHonest choice → Replacing (replaces spec height clip st copied choice)
  replaces_so copied (Refused m) wrong = refuses m wrong
  replaces_so copied (Put u s select) ok = inr (record { place = u; subterm = s; select = selection_of select; state = refl; set = refl; fine = refl })

  puts_so : (choice : Choice) → IsHonest choice → Replacing (puts spec height clip st choice)
  puts_so choice ok = replaces_so clip (limited st.term choice) (limited_honest st.term choice ok)

  if_so : (b : Bool) (m : Message) (t : Turn) → m ≢ message.Fine → Replacing t → Replacing (refused_if clip st b m t)
  if_so true m t wrong so = refuses m wrong
  if_so false m t wrong so = so

  found_so : (m : Message) → m ≢ message.Fine → (f : ℕ → Turn) → ((entry : ℕ) → Replacing (f entry)) → (o : Option ℕ) → Replacing (found_or clip st m f o)
  found_so m wrong f each None = refuses m wrong
  found_so m wrong f each (Some entry) = each entry

  enters_so : (x : Entered) → Replacing (enters spec height clip st x)
  enters_so (BadByte k) = refuses (message.ByteAt k) (λ e. cc)
  enters_so (NoToken k) = refuses (message.LexicalAt k) (λ e. cc)
  enters_so (Stopped k) = refuses (message.ParseAt k) (λ e. cc)
  enters_so (Faulted why) = refuses (message.Result why) (λ e. cc)
  enters_so (Typed v) = puts_so (typed_in spec st.term (selected_place st) v) (typed_honest spec st.term (selected_place st) v)

  entered_so : (x : Entered) → Replacing (enters_typed spec height clip st x)
  entered_so (NoToken k) = inl ((λ e. cc), refl, inr (k, refl))
  entered_so (Stopped k) = inl ((λ e. cc), refl, inr (k, refl))
  entered_so (BadByte k) = enters_so (BadByte k)
  entered_so (Faulted why) = enters_so (Faulted why)
  entered_so (Typed v) = enters_so (Typed v)

  module _ (reads : Reads) where
    allowed_so : (c : Command) → IsTrue (is_replacement c) → Replacing (allowed_turn spec height reads clip st c)
    allowed_so (command.Do name) is = puts_so (done spec st.term (selected_place st) name) (done_honest spec st.term (selected_place st) name)
    allowed_so (command.ReplaceAll name) is = puts_so (everywhere spec st.term (selected_place st) name) (everywhere_honest spec st.term (selected_place st) name)
    allowed_so command.Delete is = puts_so (deleted spec st.term (selected_place st) (count_here st)) (deleted_honest spec st.term (selected_place st) (count_here st))
    allowed_so command.Remove is = replaces_so clip (removed spec st.term (selected_place st) (count_here st)) (taken_honest spec st.term (selected_place st) false (count_here st))
    allowed_so command.InsertBefore is =
        puts_so (inserted spec st.term (selected_place st) (count_here st) false) (inserted_honest spec st.term (selected_place st) (count_here st) false)
    allowed_so command.InsertAfter is = puts_so (inserted spec st.term (selected_place st) (count_here st) true) (inserted_honest spec st.term (selected_place st) (count_here st) true)
    allowed_so command.Cut is =
        let choice = deleted spec st.term (selected_place st) (count_here st) in
        replaces_so (Some (copied_of spec st)) (limited st.term choice) (limited_honest st.term choice (deleted_honest spec st.term (selected_place st) (count_here st)))
    allowed_so command.Paste is = puts_so (pasted spec st.term (selected_place st) (count_here st) clip) (pasted_honest spec st.term (selected_place st) (count_here st) clip)
    allowed_so (command.Text text) is =
        let enter = λ (entry : ℕ). enters spec height clip st (reads entry text) in
        if_so (not (is_editable_here spec st)) message.NotEditable (found_or clip st message.NoEntry enter (entry_here spec st)) (λ e. cc)
        (found_so message.NoEntry (λ e. cc) enter (λ entry. enters_so (reads entry text)) (entry_here spec st))
    allowed_so command.Enter is = refuses message.NotInText (λ e. cc)
    allowed_so c is = absurd (false≢true is)

    typing_so : (cap : Captured) (c : Command) → IsTrue (is_replacement c) → Replacing (typing_turn spec height reads clip st cap c)
    typing_so cap (command.Do name) is = refuses message.InText (λ e. cc)
    typing_so cap (command.ReplaceAll name) is = refuses message.InText (λ e. cc)
    typing_so cap command.Delete is = refuses message.InText (λ e. cc)
    typing_so cap command.Remove is = refuses message.InText (λ e. cc)
    typing_so cap command.InsertBefore is = refuses message.InText (λ e. cc)
    typing_so cap command.InsertAfter is = refuses message.InText (λ e. cc)
    typing_so cap command.Cut is = refuses message.InText (λ e. cc)
    typing_so cap command.Paste is = refuses message.InText (λ e. cc)
    typing_so cap (command.Text text) is = refuses message.InText (λ e. cc)
    typing_so cap command.Enter is = found_so message.NoEntry (λ e. cc) (λ entry. enters_typed spec height clip st (reads entry cap.text)) (λ entry. entered_so (reads entry cap.text)) (entry_here spec st)
    typing_so cap c is = absurd (false≢true is)

    -- a command that puts a subterm in the place of another, or is refused
    pub replacements : (c : Command) → IsTrue (is_replacement c) → Replacing (turn spec height reads clip st c)
    unfolding turn
    replacements c is = by st.capture
      where
        by : (o : Option Captured) → Replacing (option_map_or (λ cap. typing_turn spec height reads clip st cap c) o (plain_turn spec height reads clip st c))
        by None = if_so (wants_one c && nat_lt 1 (count_here st)) message.InRun (allowed_turn spec height reads clip st c) (λ e. cc) (allowed_so c is)
        by (Some cap) = typing_so cap c is

    -- a command that goes along a change, or is refused
    abbrev pub Going : Direction → Turn → Type 0
    Going d t = Refuses st t ⊎ Goes spec height d st t

    travels_so : (d : Direction) (cs : List Change) → ahead d st ≡ cs → Going d (travels spec height clip st d cs)
    travels_so d [] near = inl (nothing_there d, refl, inl refl)
    travels_so d (x ∷ xs) near = inr (record { change = x; others = xs; nearest = near; state = refl; set = refl; fine = refl })

    pub undoes : Going Back (turn spec height reads clip st command.Undo)
    unfolding turn
    undoes = by st.capture
      where
        by : (o : Option Captured) → Going Back (option_map_or (λ cap. typing_turn spec height reads clip st cap command.Undo) o (plain_turn spec height reads clip st command.Undo))
        by None = travels_so Back st.past refl
        by (Some cap) = inl ((λ e. cc), refl, inl refl)

    pub redoes : Going Forth (turn spec height reads clip st command.Redo)
    unfolding turn
    redoes = by st.capture
      where
        by : (o : Option Captured) → Going Forth (option_map_or (λ cap. typing_turn spec height reads clip st cap command.Redo) o (plain_turn spec height reads clip st command.Redo))
        by None = travels_so Forth st.future refl
        by (Some cap) = inl ((λ e. cc), refl, inl refl)

-- all other turns evaluate nothing
module _ (clip : Option Clip) (st : State) where
  if_quiet : (b : Bool) (m : Message) (t : Turn) → t.set ≡ [] → (refused_if clip st b m t).set ≡ []
  if_quiet true m t quiet = refl
  if_quiet false m t quiet = quiet

  found_quiet : {A : Type 0} (m : Message) (f : A → Turn) (o : Option A) → ((x : A) → (f x).set ≡ []) → (found_or clip st m f o).set ≡ []
  found_quiet m f None each = refl
  found_quiet m f (Some x) each = each x

  extends_quiet : (e : Extended) → (extends clip st e).set ≡ []
  extends_quiet Done = refl
  extends_quiet NotInList = refl
  extends_quiet NoPlace = refl

  types_quiet : (o : Option ℕ) (bytes : Bytes) → (types_unless clip st o bytes).set ≡ []
  types_quiet None bytes = refl
  types_quiet (Some k) bytes = refl

  state_quiet : (m : Message) (o : Option State) → (found_or clip st m (becomes clip) o).set ≡ []
  state_quiet m o = found_quiet m (becomes clip) o (λ x. refl)

  module _ (spec : Spec) (height : ℕ) (reads : Reads) where
    allowed_quiet : (c : Command) → IsTrue (evaluates_nothing c) → (allowed_turn spec height reads clip st c).set ≡ []
    allowed_quiet command.Next is = state_quiet message.NoPlace (moved spec height Next st)
    allowed_quiet command.Prev is = state_quiet message.NoPlace (moved spec height Prev st)
    allowed_quiet command.Up is = state_quiet message.NoPlace (moved spec height Up st)
    allowed_quiet command.First is = state_quiet message.NoPlace (moved spec height First st)
    allowed_quiet command.Sibling is = state_quiet message.NoPlace (moved spec height Sibling st)
    allowed_quiet (command.Goto line column) is = state_quiet message.NoPlace (picked spec height line column st)
    allowed_quiet command.Extend is = extends_quiet (extension spec st)
    allowed_quiet command.Shrink is = if_quiet (nat_eq (count_here st) 1) message.NoPlace (becomes clip (shrunk st)) refl
    allowed_quiet (command.Find name) is =
        if_quiet (not (is_known spec name)) message.Unknown (found_or clip st message.NoMatch (becomes clip) (found_next spec height name st)) (state_quiet message.NoMatch (found_next spec height name st))
    allowed_quiet (command.Do name) is = absurd (false≢true is)
    allowed_quiet (command.ReplaceAll name) is = absurd (false≢true is)
    allowed_quiet command.Delete is = absurd (false≢true is)
    allowed_quiet command.Remove is = absurd (false≢true is)
    allowed_quiet command.InsertBefore is = absurd (false≢true is)
    allowed_quiet command.InsertAfter is = absurd (false≢true is)
    allowed_quiet command.Cut is = absurd (false≢true is)
    allowed_quiet command.Paste is = absurd (false≢true is)
    allowed_quiet (command.Text text) is = absurd (false≢true is)
    allowed_quiet (command.TypeIn text) is =
        let types = λ (entry : ℕ). types_unless clip st (bad_byte text) text in
        if_quiet (not (is_editable_here spec st)) message.NotEditable (found_or clip st message.NoEntry types (entry_here spec st))
        (found_quiet message.NoEntry types (entry_here spec st) (λ entry. types_quiet (bad_byte text) text))
    allowed_quiet command.Alternate is = state_quiet message.NoAlternate (marked spec height Alternate st)
    allowed_quiet command.Elide is = state_quiet message.NoAlternate (marked spec height Elide st)
    allowed_quiet (command.View None) is = refl
    allowed_quiet (command.View (Some name)) is = found_quiet message.Unknown (λ v. becomes clip (viewed spec height v st)) (view_named spec name) (λ v. refl)
    allowed_quiet command.Undo is = absurd (false≢true is)
    allowed_quiet command.Redo is = absurd (false≢true is)
    allowed_quiet c is = refl

    typing_quiet : (cap : Captured) (c : Command) → IsTrue (evaluates_nothing c) → (typing_turn spec height reads clip st cap c).set ≡ []
    typing_quiet cap (command.TypeIn text) is = types_quiet (bad_byte text) text
    typing_quiet cap command.Erase is = if_quiet (nat_eq cap.point 0) message.NoPlace (becomes clip (erased st)) refl
    typing_quiet cap command.Enter is = absurd (false≢true is)
    typing_quiet cap c is = refl

    pub turn_quiet : (c : Command) → IsTrue (evaluates_nothing c) → (turn spec height reads clip st c).set ≡ []
    unfolding turn
    turn_quiet c is = by st.capture
      where
        by : (o : Option Captured) → (option_map_or (λ cap. typing_turn spec height reads clip st cap c) o (plain_turn spec height reads clip st c)).set ≡ []
        by None = if_quiet (wants_one c && nat_lt 1 (count_here st)) message.InRun (allowed_turn spec height reads clip st c) (allowed_quiet c is)
        by (Some cap) = typing_quiet cap c is
