-- What is kept of a buffer by all commands: what is being typed may be entered where it is typed.
use Rattle.std.specs.Prelude.{◌≡◌, true, ⊤, MatchOption, IsTrue, is_some}
use Rattle.sg_kinds.specs.Values.{is_text}
use Rattle.sg_kinds.specs.declared.spec.Spec.{Spec}
use Rattle.sg_changes.specs.Captured.{Captured}
use Rattle.sg_states.specs.States.{State}
use Rattle.sg_commands.specs.Turns.{entry_here, is_editable_here}

-- the bytes of what is being typed are allowed, and the selected node may be typed in and has an entry
pub record MayEnter (spec : Spec) (st : State) (c : Captured) : Type 0 where
  pub text : IsTrue (is_text c.text)
  pub editable : is_editable_here spec st ≡ true
  pub entry : is_some (entry_here spec st) ≡ true

pub record IsTyping (spec : Spec) (st : State) : Type 0 where
  pub typed : MatchOption st.capture ⊤ (MayEnter spec st)
