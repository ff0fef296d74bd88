-- What is chosen, and read, in a buffer, and the turns of it.
use Rattle.std.specs.Prelude.{ℕ, ◌≤◌, Option, Result, Ok, Err, ⊤}
use Rattle.sg_kinds.specs.Values.{Bytes, Value}
use Rattle.sg_kinds.specs.Terms.{Term}
use Rattle.sg_kinds.specs.Places.{Place}
use Rattle.sg_kinds.specs.Fits.{Fits}
use Rattle.sg_kinds.specs.Plain.{plain}
use Rattle.sg_kinds.specs.declared.spec.Spec.{Spec}
use Rattle.sg_script.specs.declared.message.Message.TheVariants as message
use Rattle.sg_states.specs.States.{selected_place}
use Rattle.sg_buffer.specs.Held.{Held, state_of}
use Rattle.sg_changes.specs.declared.spot.Selection.{Selection}
use Rattle.sg_states.specs.Selections.{place_in}
use Rattle.sg_edits.specs.Choice.{Choice, Picked}
use Rattle.sg_edits.specs.Edits.{phylum_in}
use Rattle.sg_edits.specs.declared.clip.Clip.{Clip}
use Rattle.sg_input.specs.Entered.{Entered}
use Rattle.sg_input.specs.declared.entering.EntryFault.{EntryFault}
use Rattle.sg_input.specs.declared.entering.EntryFault.TheVariants as fault
use Rattle.sg_commands.specs.Turn.{Turn, Reads, found_or}
use Rattle.sg_commands.specs.Turns.{count_here, enterable, enters, enters_captured, enters_typed, puts, replaces, selected_term}

-- what is chosen of its term and its selected place
abbrev pub chosen_in : Held → (Spec → Term → Place → Choice) → Choice
chosen_in b choice = choice b.grove.spec (state_of b).term (selected_place (state_of b))

-- and of how many are selected
abbrev pub chosen_of : Held → (Spec → Term → Place → ℕ → Choice) → Choice
chosen_of b choice = chosen_in b (λ spec t u. choice spec t u (count_here (state_of b)))

-- a selection as a choice says it
abbrev pub picked_of : Selection → Picked
picked_of s = record { place = place_in s; count = s.count }

-- the turn of a choice, within the limits, and of one that is in them
abbrev pub puts_in : Held → Option Clip → Choice → Turn
puts_in b clip choice = puts b.grove.spec b.height clip (state_of b) choice

abbrev pub replaces_in : Held → Option Clip → Choice → Turn
replaces_in b clip choice = replaces b.grove.spec b.height clip (state_of b) clip choice

-- the plain term of a value fits the selected node's phylum
abbrev pub FitsHere : Held → Value → Type 0
FitsHere b v = let p = phylum_in b.grove.spec (selected_term (state_of b)) in
    Fits b.grove.spec (plain b.grove.spec v p) p

-- a text of so many bytes that is not read fails in it
abbrev pub StopsWithin : ℕ → Result Value EntryFault → Type 0
StopsWithin n (Ok v) = ⊤
StopsWithin n (Err (fault.Lexical k)) = k ≤ n
StopsWithin n (Err (fault.Parse k)) = k ≤ n
StopsWithin n (Err e) = ⊤

-- the turns of a text that was read, of `text` and of `enter`
abbrev pub enters_in : Held → Option Clip → Entered → Turn
enters_in b clip a = enters_typed b.grove.spec b.height clip (state_of b) a

abbrev pub text_turn : Held → Option Clip → Reads → Bytes → Turn
text_turn b clip reads bytes = let st = state_of b in
    enterable b.grove.spec clip st (λ entry. enters b.grove.spec b.height clip st (reads entry bytes))

abbrev pub entry_turn : Held → Option Clip → Reads → Turn
entry_turn b clip reads = let st = state_of b in found_or clip st message.NotInText
    (λ c. enters_captured b.grove.spec b.height clip st (λ entry. reads entry c.text)) st.capture
