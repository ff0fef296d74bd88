-- The turns of a text that is entered.
use Rattle.std.specs.Prelude.{◌≡◌, refl, ℕ, true, false, not, cond, length, Option, Some, None, option_map, Result, IfSome, MatchOption, ⊤}
use Rattle.std.proofs.Common.{sym, ap, ◌∙◌, subst}
use Rattle.std.proofs.lemmas.Option.{none-some, same_Some}
use Rattle.sg_kinds.specs.Values.{Bytes, Value}
use Rattle.sg_kinds.specs.declared.spec.Spec.{Spec}
use Rattle.sg_changes.specs.Captured.{Captured}
use Rattle.sg_script.specs.declared.message.Message.TheVariants as message
use Rattle.sg_states.specs.States.{State, pointed}
use Rattle.sg_buffer.specs.Held.{Held, state_of}
use Rattle.sg_edits.specs.declared.clip.Clip.{Clip}
use Rattle.sg_input.specs.Entered.{Entered, BadByte, NoToken, Stopped, Faulted, Typed}
use Rattle.sg_input.specs.Parsed.{entered_of}
use Rattle.sg_input.specs.declared.entering.EntryFault.{EntryFault}
use Rattle.sg_commands.specs.Replaced.{entry_turn, enters_in, StopsWithin, text_turn}
use Rattle.sg_commands.specs.Turn.{found_or, says, Reads}
use Rattle.sg_commands.specs.Turns.{enters, enters_typed, entry_here, is_editable_here}

-- what is being typed in the state of a buffer
pub captured_is : (b : Held) → (state_of b).capture ≡ b.capture
unfolding state_of
captured_is b = refl

captured_none : (b : Held) → b.capture ≡ None → (state_of b).capture ≡ None
captured_none b none = captured_is b ∙ none

-- where nothing is typed no point is moved
pub unpointed : (k : ℕ) (st : State) → st.capture ≡ None → pointed k st ≡ st
unpointed k st none = ap (λ (o : Option Captured). let r : State = record st { capture = o } in r) (ap (option_map (λ (c : Captured). record c { point = k })) none ∙ sym none)

pub unpointed_in : (b : Held) (k : ℕ) → b.capture ≡ None → state_of b ≡ pointed k (state_of b)
unpointed_in b k none = sym (unpointed k (state_of b) (captured_none b none))

module _ (spec : Spec) (height : ℕ) (clip : Option Clip) (st : State) (none : st.capture ≡ None) where
  enters_same : (a : Entered) → enters spec height clip st a ≡ enters_typed spec height clip st a
  enters_same (BadByte k) = refl
  enters_same (NoToken k) = ap (says clip (message.LexicalAt k)) (sym (unpointed k st none))
  enters_same (Stopped k) = ap (says clip (message.ParseAt k)) (sym (unpointed k st none))
  enters_same (Faulted why) = refl
  enters_same (Typed v) = refl

-- what was read, told of its cases
pub told_of : (r s : Result Value EntryFault) (a : Entered) → r ≡ s → IfSome (entered_of r) (λ e. e ≡ a) → IfSome (entered_of s) (λ e. e ≡ a)
told_of r s a same told = subst (λ x. IfSome (entered_of x) (λ e. e ≡ a)) same told

pub point_within : (o : Option Captured) (r s : Result Value EntryFault) → r ≡ s → MatchOption o ⊤ (λ c. StopsWithin (length c.text) r) → MatchOption o ⊤ (λ c. StopsWithin (length c.text) s)
point_within o r s same within = subst (λ x. MatchOption o ⊤ (λ (c : Captured). StopsWithin (length c.text) x)) same within

module _ (b : Held) (clip : Option Clip) (reads : Reads) where
  abbrev spec : Spec
  spec = b.grove.spec

  abbrev st : State
  st = state_of b

  module _ (text : Bytes) where
    pub not_editable : is_editable_here spec st ≡ false → text_turn b clip reads text ≡ says clip message.NotEditable st
    not_editable not_there = ap (λ e. cond (not e) (says clip message.NotEditable st) (found_or clip st message.NoEntry (λ entry. enters spec b.height clip st (reads entry text)) (entry_here spec st))) not_there

    editable : is_editable_here spec st ≡ true → text_turn b clip reads text ≡ found_or clip st message.NoEntry (λ entry. enters spec b.height clip st (reads entry text)) (entry_here spec st)
    editable there = ap (λ e. cond (not e) (says clip message.NotEditable st) (found_or clip st message.NoEntry (λ entry. enters spec b.height clip st (reads entry text)) (entry_here spec st))) there

    pub no_entry : is_editable_here spec st ≡ true → entry_here spec st ≡ None → text_turn b clip reads text ≡ says clip message.NoEntry st
    no_entry there none = editable there ∙ ap (found_or clip st message.NoEntry (λ entry. enters spec b.height clip st (reads entry text))) none

    pub text_read : (entry : ℕ) → b.capture ≡ None → is_editable_here spec st ≡ true → entry_here spec st ≡ Some entry → text_turn b clip reads text ≡ enters_in b clip (reads entry text)
    text_read entry none there found =
        editable there ∙ ap (found_or clip st message.NoEntry (λ entry. enters spec b.height clip st (reads entry text))) found
        ∙ enters_same spec b.height clip st (captured_none b none) (reads entry text)

  pub not_in_text : b.capture ≡ None → entry_turn b clip reads ≡ says clip message.NotInText st
  not_in_text none = ap (found_or clip st message.NotInText (λ (c : Captured). found_or clip st message.NoEntry (λ entry. enters_in b clip (reads entry c.text)) (entry_here spec st))) (captured_none b none)

  module _ (c : Captured) (open_one : b.capture ≡ Some c) where
    in_text : entry_turn b clip reads ≡ found_or clip st message.NoEntry (λ entry. enters_in b clip (reads entry c.text)) (entry_here spec st)
    in_text = ap (found_or clip st message.NotInText (λ (c : Captured). found_or clip st message.NoEntry (λ entry. enters_in b clip (reads entry c.text)) (entry_here spec st))) (captured_is b ∙ open_one)

    pub entry_none : entry_here spec st ≡ None → entry_turn b clip reads ≡ says clip message.NoEntry st
    entry_none none = in_text ∙ ap (found_or clip st message.NoEntry (λ entry. enters_in b clip (reads entry c.text))) none

    pub entry_read : (entry : ℕ) (text : Bytes) → c.text ≡ text → entry_here spec st ≡ Some entry → entry_turn b clip reads ≡ enters_in b clip (reads entry text)
    entry_read entry text same found =
        in_text ∙ ap (found_or clip st message.NoEntry (λ entry. enters_in b clip (reads entry c.text))) found
        ∙ ap (λ x. enters_in b clip (reads entry x)) same

-- the text that is being typed
pub record IsTyped (o : Option Captured) (text : Bytes) : Type 0 where
  pub capture : Captured
  pub is : o ≡ Some capture
  pub text_is : capture.text ≡ text

pub typed_text : (o : Option Captured) (text : Bytes) → option_map (λ (c : Captured). c.text) o ≡ Some text → IsTyped o text
typed_text None text e = absurd (none-some text e)
typed_text (Some c) text e = record { capture = c; is = refl; text_is = same_Some c.text text e }

pub within_typed : (o : Option Captured) (text : Bytes) (r : Result Value EntryFault) → option_map (λ (c : Captured). c.text) o ≡ Some text → StopsWithin (length text) r → MatchOption o ⊤ (λ c. StopsWithin (length c.text) r)
within_typed None text r e within = tt
within_typed (Some c) text r e within = subst (λ x. StopsWithin (length x) r) (sym (same_Some c.text text e)) within
