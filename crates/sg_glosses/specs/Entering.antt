-- Where a text may be entered.
use Rattle.std.specs.Prelude.{◌≡◌, ◌≤◌, ℕ, true, None, Some}
use Rattle.sg_kinds.specs.Values.{Bytes, Value}
use Rattle.sg_kinds.specs.Terms.{Term}
use Rattle.sg_kinds.specs.Places.{put, sub}
use Rattle.sg_kinds.specs.Plain.{plain}
use Rattle.sg_kinds.specs.Sound.{IsSmall}
use Rattle.sg_kinds.specs.declared.spec.Spec.{Spec}
use Rattle.sg_changes.specs.Captured.{Captured}
use Rattle.sg_states.specs.States.{State, selected_place, shown_spec}
use Rattle.sg_edits.specs.Edits.{is_editable, phylum_in}
use Rattle.sg_input.specs.Entered.{Gives, IsFault, entry_at}
use Rattle.sg_commands.specs.Turns.{count_here}
use Rattle.sg_editor.specs.Ask.{Step}
use Rattle.sg_editor.specs.Session.{Session, current_of}

-- a text has a meaning at the selected node of a state: the node's phylum has an entry, which derives the text with a
-- value that is no fault, and the term with that value's plain term in the node's place is in the limits
pub record HasMeaning (spec : Spec) (st : State) (old : Term) (text : Bytes) : Type 0 where
  pub entry : ℕ
  pub entry_is : entry_at spec (phylum_in spec old) ≡ Some entry
  pub value : Value
  pub derived : Gives spec entry text value
  pub no_fault : IsFault value → ⊥
  pub small : IsSmall (put st.term (selected_place st) (plain spec value (phylum_in spec old)))

-- `text` may be done: there is a current buffer, in which nothing is being typed, no run is selected, and the selected
-- node is shown in an editable scheme, and the text has a meaning there
pub record CanText (spec : Spec) (s : Session) (text : Bytes) : Type 0 where
  pub name : Bytes
  pub state : State
  pub current : current_of s ≡ Some (name, state)
  pub resting : state.capture ≡ None
  pub one : count_here state ≤ 1
  pub old : Term
  pub selected : sub state.term (selected_place state) ≡ Some old
  pub editable : is_editable (shown_spec spec state) old ≡ true
  pub meaning : HasMeaning spec state old text

-- `enter` may be done: there is a current buffer in which a text is being typed, and it has a meaning where it is typed
pub record CanEnter (spec : Spec) (s : Session) : Type 0 where
  pub name : Bytes
  pub state : State
  pub current : current_of s ≡ Some (name, state)
  pub typed : Captured
  pub typing : state.capture ≡ Some typed
  pub old : Term
  pub selected : sub state.term (selected_place state) ≡ Some old
  pub meaning : HasMeaning spec state old typed.text

-- `text` was done: the term has the plain term of the text's value in the place of the selected node
pub record HasText (spec : Spec) (s : Session) (text : Bytes) (step : Step) : Type 0 where
  pub could : CanText spec s text
  pub new : State
  pub after : current_of step.session ≡ Some (could.name, new)
  pub term : new.term ≡ put could.state.term (selected_place could.state)
      (plain spec could.meaning.value (phylum_in spec could.old))

-- and so was `enter`
pub record HasEnter (spec : Spec) (s : Session) (step : Step) : Type 0 where
  pub could : CanEnter spec s
  pub new : State
  pub after : current_of step.session ≡ Some (could.name, new)
  pub term : new.term ≡ put could.state.term (selected_place could.state)
      (plain spec could.meaning.value (phylum_in spec could.old))
