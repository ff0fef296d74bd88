-- The table of commands in the current buffer: of each its refusals in their order, and what it does.
use Rattle.std.specs.Prelude.{ℕ, suc, Bool, true, false, not, nat_eq, nat_lt, ◌&&◌, List, [], ◌∷◌, Option, None, Some, option_map, position, bytes_eq}
use Rattle.std.specs.Option.{option_map_or}
use Rattle.sg_kinds.specs.Values.{Bytes}
use Rattle.sg_kinds.specs.Terms.{Term}
use Rattle.sg_kinds.specs.Places.{Place}
use Rattle.sg_kinds.specs.Nets.{Reference}
use Rattle.sg_kinds.specs.declared.spec.Spec.{Spec}
use Rattle.sg_groves.specs.Evaluated.{evaluated}
use Rattle.sg_changes.specs.Captured.{Captured}
use Rattle.sg_changes.specs.Changes.{Change, Put as Putting, Mark as Marking, chosen, part_of}
use Rattle.sg_changes.specs.declared.direction.Direction.{Direction}
use Rattle.sg_changes.specs.declared.direction.Direction.TheVariants.{Back, Forth}
use Rattle.sg_script.specs.declared.message.Message.TheVariants as message
use Rattle.sg_script.specs.declared.command.Command.{Command}
use Rattle.sg_script.specs.declared.command.Command.TheVariants as command
use Rattle.sg_changes.specs.declared.spot.Selection.{Selection}
use Rattle.sg_search.specs.Found.{is_known, found_behind}
use Rattle.sg_states.specs.Selections.{path_to}
use Rattle.sg_states.specs.States.{State, selected_place, moved, picked, marked, replaced, selected, extension, extended, shrunk, shown_spec, viewed, gone, typed, erased, pointed, ended}
use Rattle.sg_states.specs.declared.marks.Extended.{Extended}
use Rattle.sg_states.specs.declared.marks.Extended.TheVariants.{Done, NotInList, NoPlace}
use Rattle.sg_states.specs.declared.marks.Mark.{Mark}
use Rattle.sg_states.specs.declared.marks.Mark.TheVariants.{Alternate, Elide}
use Rattle.sg_states.specs.declared.marks.Move.{Move}
use Rattle.sg_states.specs.declared.marks.Move.TheVariants.{Next, Prev, Up, First, Sibling}
use Rattle.sg_edits.specs.Choice.{Choice, Refused, Put, Picked, limited}
use Rattle.sg_edits.specs.Edits.{phylum_in, is_editable, clip_of, done, everywhere, deleted, pasted, removed, inserted, typed as typed_in}
use Rattle.sg_edits.specs.declared.clip.Clip.{Clip}
use Rattle.sg_input.specs.Entered.{Entered, BadByte, NoToken, Stopped, Faulted, Typed, entry_at, bad_byte}
use Rattle.sg_commands.specs.Turn.{Turn, Reads, says, becomes, refused_if, found_or}

-- how many are selected: elements of a list, or one node
abbrev pub count_here : State → ℕ
count_here st = st.spot.selection.count

-- the selected term, of a run its first element's; the entry of its phylum; whether it may be typed in, in the view
abbrev pub selected_term : State → Term
selected_term st = part_of st.term (selected_place st)

abbrev pub entry_here : Spec → State → Option ℕ
entry_here spec st = entry_at spec (phylum_in spec (selected_term st))

abbrev pub is_editable_here : Spec → State → Bool
is_editable_here spec st = is_editable (shown_spec spec st) (selected_term st)

-- what is evaluated where a way goes along a change
abbrev pub evaluated_along : Direction → Spec → Term → Change → List (Reference Place)
evaluated_along d spec t (Putting u old new before after) = evaluated spec t u (chosen d old new)
evaluated_along d spec t (Marking u old new before after) = []

-- the first place behind the selected one that rests in the view and at which a transformation of the name applies,
-- selected
abbrev pub found_next : Spec → ℕ → Bytes → State → Option State
found_next spec height name st =
    option_map (λ u. selected spec height u st) (found_behind spec st.spot.view name st.term (selected_place st))

-- the number of the view of a name, from 1 on
abbrev pub view_named : Spec → Bytes → Option ℕ
view_named spec name = option_map suc (position (bytes_eq name) spec.views.names)

-- whether a command wants one node selected
abbrev pub wants_one : Command → Bool
wants_one (command.Do name) = true
wants_one (command.ReplaceAll name) = true
wants_one (command.Text text) = true
wants_one (command.TypeIn text) = true
wants_one command.Alternate = true
wants_one command.Elide = true
wants_one other = false

-- the selection of what a choice selects
abbrev pub selection_of : Picked → Selection
selection_of s = record { path = path_to s.place; count = s.count }

module _ (clip : Option Clip) (st : State) where
  -- one more element of the list is selected, and one less
  abbrev pub extends : Extended → Turn
  extends Done = becomes clip (extended st)
  extends NotInList = says clip message.NotInList st
  extends NoPlace = says clip message.NoPlace st

  abbrev pub shrinks : Turn
  shrinks = refused_if clip st (nat_eq (count_here st) 1) message.NoPlace (becomes clip (shrunk st))

  -- bytes typed in
  abbrev pub types_unless : Option ℕ → Bytes → Turn
  types_unless None bytes = becomes clip (typed bytes st)
  types_unless (Some k) bytes = says clip (message.ByteAt k) st

  abbrev pub types : Bytes → Turn
  types bytes = types_unless (bad_byte bytes) bytes

  -- a byte taken away
  abbrev pub erases : Captured → Turn
  erases c = refused_if clip st (nat_eq c.point 0) message.NoPlace (becomes clip (erased st))

module _ (spec : Spec) (clip : Option Clip) (st : State) where
  -- a node that may be typed in, and its entry
  abbrev pub enterable : (ℕ → Turn) → Turn
  enterable enters = refused_if clip st (not (is_editable_here spec st)) message.NotEditable
      (found_or clip st message.NoEntry enters (entry_here spec st))

-- what is copied
abbrev pub copied_of : Spec → State → Clip
copied_of spec st = clip_of spec st.term (selected_place st) (count_here st)

module _ (spec : Spec) (height : ℕ) (clip : Option Clip) (st : State) where
  -- moves of the selection
  abbrev pub goes : Move → Turn
  goes move = found_or clip st message.NoPlace (becomes clip) (moved spec height move st)

  abbrev pub picks : ℕ → ℕ → Turn
  picks line column = found_or clip st message.NoPlace (becomes clip) (picked spec height line column st)

  -- the next place of a transformation's name
  abbrev pub finds : Bytes → Turn
  finds name = refused_if clip st (not (is_known spec name)) message.Unknown
      (found_or clip st message.NoMatch (becomes clip) (found_next spec height name st))

  -- the nearest of the changes that way gone along: the newest one undone, or the next one done again
  abbrev pub travels : Direction → List Change → Turn
  travels d [] = says clip (chosen d message.NothingToUndo message.NothingToRedo) st
  travels d (c ∷ cs) = record (becomes clip (gone spec height d st)) { set = evaluated_along d spec st.term c }

  -- the view of a name, and that or the ordinary one
  abbrev pub views_named : Bytes → Turn
  views_named name =
      found_or clip st message.Unknown (λ v. becomes clip (viewed spec height v st)) (view_named spec name)

  abbrev pub views : Option Bytes → Turn
  views None = becomes clip (viewed spec height 0 st)
  views (Some name) = views_named name

  -- a mark turned
  abbrev pub marks : Mark → Turn
  marks mark = found_or clip st message.NoAlternate (becomes clip) (marked spec height mark st)

  -- a replacement, or why there is none; with what is copied then
  abbrev pub replaces : Option Clip → Choice → Turn
  replaces copied (Refused m) = says clip m st
  replaces copied (Put u s select) = record {
    state = replaced spec height u s (selection_of select) st;
    clip = copied;
    message = message.Fine;
    set = evaluated spec st.term u s;
  }

  abbrev pub puts : Choice → Turn
  puts choice = replaces clip (limited st.term choice)

  abbrev pub cuts : Turn
  cuts =
      replaces (Some (copied_of spec st)) (limited st.term (deleted spec st.term (selected_place st) (count_here st)))

  -- a text that an entry read; where it was typed, the point goes where the reading failed
  abbrev pub enters : Entered → Turn
  enters (BadByte k) = says clip (message.ByteAt k) st
  enters (NoToken k) = says clip (message.LexicalAt k) st
  enters (Stopped k) = says clip (message.ParseAt k) st
  enters (Faulted why) = says clip (message.Result why) st
  enters (Typed v) = puts (typed_in spec st.term (selected_place st) v)

  abbrev pub enters_typed : Entered → Turn
  enters_typed (NoToken k) = says clip (message.LexicalAt k) (pointed k st)
  enters_typed (Stopped k) = says clip (message.ParseAt k) (pointed k st)
  enters_typed read = enters read

  -- by the entry of the node where it was typed
  abbrev pub enters_captured : (ℕ → Entered) → Turn
  enters_captured read = found_or clip st message.NoEntry (λ entry. enters_typed (read entry)) (entry_here spec st)

-- the table; the commands of sessions and files leave the buffer
module _ (spec : Spec) (height : ℕ) (reads : Reads) (clip : Option Clip) (st : State) where
  -- while nothing is being typed, and one node is selected where a command wants one
  abbrev pub allowed_turn : Command → Turn
  allowed_turn command.Next = goes spec height clip st Next
  allowed_turn command.Prev = goes spec height clip st Prev
  allowed_turn command.Up = goes spec height clip st Up
  allowed_turn command.First = goes spec height clip st First
  allowed_turn command.Sibling = goes spec height clip st Sibling
  allowed_turn (command.Goto line column) = picks spec height clip st line column
  allowed_turn command.Extend = extends clip st (extension spec st)
  allowed_turn command.Shrink = shrinks clip st
  allowed_turn (command.Find name) = finds spec height clip st name
  allowed_turn (command.Do name) = puts spec height clip st (done spec st.term (selected_place st) name)
  allowed_turn (command.ReplaceAll name) = puts spec height clip st (everywhere spec st.term (selected_place st) name)
  allowed_turn command.Delete = puts spec height clip st (deleted spec st.term (selected_place st) (count_here st))
  allowed_turn command.Remove =
      replaces spec height clip st clip (removed spec st.term (selected_place st) (count_here st))
  allowed_turn command.InsertBefore =
      puts spec height clip st (inserted spec st.term (selected_place st) (count_here st) false)
  allowed_turn command.InsertAfter =
      puts spec height clip st (inserted spec st.term (selected_place st) (count_here st) true)
  allowed_turn command.Cut = cuts spec height clip st
  allowed_turn command.Copy = becomes (Some (copied_of spec st)) st
  allowed_turn command.Paste =
      puts spec height clip st (pasted spec st.term (selected_place st) (count_here st) clip)
  allowed_turn (command.Text text) =
      enterable spec clip st (λ entry. enters spec height clip st (reads entry text))
  allowed_turn (command.TypeIn text) = enterable spec clip st (λ entry. types clip st text)
  allowed_turn command.Erase = says clip message.NotInText st
  allowed_turn command.Enter = says clip message.NotInText st
  allowed_turn command.Abandon = says clip message.NotInText st
  allowed_turn command.Alternate = marks spec height clip st Alternate
  allowed_turn command.Elide = marks spec height clip st Elide
  allowed_turn command.Undo = travels spec height clip st Back st.past
  allowed_turn command.Redo = travels spec height clip st Forth st.future
  allowed_turn (command.View name) = views spec height clip st name
  allowed_turn other = becomes clip st

  -- while nothing is being typed
  abbrev pub plain_turn : Command → Turn
  plain_turn command =
      refused_if clip st (wants_one command && nat_lt 1 (count_here st)) message.InRun (allowed_turn command)

  -- and while this text is
  abbrev pub typing_turn : Captured → Command → Turn
  typing_turn c (command.TypeIn text) = types clip st text
  typing_turn c command.Erase = erases clip st c
  typing_turn c command.Enter = enters_captured spec height clip st (λ entry. reads entry c.text)
  typing_turn c command.Abandon = becomes clip (ended st)
  typing_turn c command.Show = becomes clip st
  typing_turn c (command.New name) = becomes clip st
  typing_turn c (command.Load name file) = becomes clip st
  typing_turn c (command.Switch name) = becomes clip st
  typing_turn c (command.Save file) = becomes clip st
  typing_turn c (command.SaveText file) = becomes clip st
  typing_turn c other = says clip message.InText st

-- a command
unfoldable pub turn : Spec → ℕ → Reads → Option Clip → State → Command → Turn
turn spec height reads clip st command =
    option_map_or (λ c. typing_turn spec height reads clip st c command) st.capture
    (plain_turn spec height reads clip st command)
