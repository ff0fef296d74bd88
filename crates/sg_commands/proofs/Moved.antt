-- Calls of a buffer that may find nothing to do are turns.
use Rattle.std.specs.Prelude.{◌≡◌, refl, Bool, true, false, if◌then◌else◌, List, Option, None, Some, MatchOption}
use Rattle.std.proofs.Common.{inl, sym, subst}
use Rattle.sg_eval.specs.declared.journal.Instance.{Instance}
use Rattle.sg_script.specs.declared.message.Message.{Message}
use Rattle.sg_script.specs.declared.message.Message.TheVariants as message
use Rattle.sg_states.specs.States.{State}
use Rattle.sg_buffer.specs.Held.{Held, state_of}
use Rattle.sg_edits.specs.declared.clip.Clip.{Clip}
use Rattle.sg_commands.specs.Did.{Did, GaveUp}
use Rattle.sg_commands.specs.Turn.{Turn, becomes, found_or, says}
use Rattle.sg_commands.proofs.Putting.{nothing_gained, refused_did}

-- what is said, by whether it was done
abbrev pub said_of : Bool → Message → Message
said_of done m = if done then message.Fine else m

module _ (old new : Held) (clip : Option Clip) (now : List Instance) where
  -- another state
  pub done_did : (m : Message) (st : State) → state_of new ≡ st → Did (says clip m st) m new clip now now
  done_did m st state = record {
    message = refl;
    state = state;
    copied = refl;
    evaluated = nothing_gained new.grove new.root st.term now now refl;
  }

  -- the state that is found, if one is
  pub found_did : (m : Message) (o : Option State) (r : Bool)
      → MatchOption o ((r ≡ false) × (new ≡ old)) (λ st. (r ≡ true) × (state_of new ≡ st))
      → Did (found_or clip (state_of old) m (becomes clip) o) (said_of r m) new clip now now
  found_did m None r answered =
      subst (λ b. Did (says clip m (state_of old)) (said_of b m) new clip now now) (sym answered.0)
      (refused_did old new clip now now m answered.1 refl)
  found_did m (Some st) r answered =
      subst (λ b. Did (becomes clip st) (said_of b m) new clip now now) (sym answered.0)
      (done_did message.Fine st answered.1)

  -- without memory
  pub stayed : (turn : Turn) → state_of new ≡ state_of old → GaveUp old.grove.spec turn old new clip clip now now
  stayed turn state = record { state = state; copied = refl; noted = inl refl }
