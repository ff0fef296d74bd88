-- What is typed, and where it may be, as turns.
use Rattle.std.specs.Prelude.{◌≡◌, ◌↔◌, refl, ℕ, Bool, true, false, nat_eq, not, if◌then◌else◌, List, Option, None, Some, is_some, option_map, MatchOption, ⊤}
use Rattle.std.proofs.Common.{sym, ap, ◌∙◌, subst}
use Rattle.std.proofs.lemmas.Bool.{false≢true}
use Rattle.std.proofs.lemmas.Option.{none-some}
use Rattle.sg_kinds.specs.Values.{Bytes}
use Rattle.sg_kinds.specs.declared.spec.Spec.{Spec}
use Rattle.sg_kinds.proofs.Elementary.{eq_is}
use Rattle.sg_eval.specs.declared.journal.Instance.{Instance}
use Rattle.sg_changes.specs.Captured.{Captured}
use Rattle.sg_script.specs.declared.message.Message.TheVariants as message
use Rattle.sg_states.specs.States.{State, erased, shrunk, typed}
use Rattle.sg_states.specs.declared.marks.Extended.{Extended}
use Rattle.sg_states.specs.declared.marks.Extended.TheVariants.{Done, NotInList, NoPlace}
use Rattle.sg_buffer.specs.Buffers.{StandsFor}
use Rattle.sg_buffer.specs.Held.{Held, state_of}
use Rattle.sg_edits.specs.declared.clip.Clip.{Clip}
use Rattle.sg_input.specs.Entered.{bad_byte}
use Rattle.sg_commands.specs.Did.{Did}
use Rattle.sg_commands.specs.Turn.{Turn, becomes, found_or, refused_if, says}
use Rattle.sg_commands.specs.Turns.{count_here, enterable, entry_here, erases, is_editable_here, shrinks, types, types_unless}
use Rattle.sg_commands.proofs.Moved.{done_did, said_of}
use Rattle.sg_commands.proofs.Putting.{refused_did}

-- what is being typed, by its text
pub has_capture : (o : Option Captured) (text : Bytes) → option_map (λ (c : Captured). c.text) o ≡ Some text
    → (c : Captured) × (o ≡ Some c)
has_capture None text at = absurd (none-some text at)
has_capture (Some c) text at = (c, refl)

pub opened : (o : Option Captured) → is_some o ≡ true → (c : Captured) × (o ≡ Some c)
opened None test = absurd (false≢true test)
opened (Some c) test = (c, refl)

pub closed : (o : Option Captured) → is_some o ≡ false → o ≡ None
closed None test = refl
closed (Some c) test = absurd (false≢true (sym test))

-- an extension that is not done
pub no_list : (e : Extended) → e ≡ NotInList → e ≡ Done → ⊥
no_list e is done = cc

pub no_place : (e : Extended) → e ≡ NoPlace → e ≡ Done → ⊥
no_place e is done = cc

-- one node is selected where a text is being typed
pub alone_here : (b : Held) → StandsFor b (state_of b) → is_some (state_of b).capture ≡ true → count_here (state_of b) ≡ 1
alone_here b stands test =
    let c = opened (state_of b).capture test in
    sym stands.count ∙ subst (λ o. MatchOption o ⊤ (λ (x : Captured). b.count ≡ 1)) (stands.capture ∙ c.1) stands.alone

-- where a text may be typed
module _ (spec : Spec) (clip : Option Clip) (st : State) (enters : ℕ → Turn) where
  pub not_editable : is_editable_here spec st ≡ false → enterable spec clip st enters ≡ says clip message.NotEditable st
  not_editable test = ap (λ b. if not b then says clip message.NotEditable st
      else found_or clip st message.NoEntry enters (entry_here spec st)) test

  editable : is_editable_here spec st ≡ true
      → enterable spec clip st enters ≡ found_or clip st message.NoEntry enters (entry_here spec st)
  editable test = ap (λ b. if not b then says clip message.NotEditable st
      else found_or clip st message.NoEntry enters (entry_here spec st)) test

  pub no_entry : is_editable_here spec st ≡ true → entry_here spec st ≡ None
      → enterable spec clip st enters ≡ says clip message.NoEntry st
  no_entry test none = editable test ∙ ap (found_or clip st message.NoEntry enters) none

  pub has_entry : is_editable_here spec st ≡ true → (e : ℕ) → entry_here spec st ≡ Some e
      → enterable spec clip st enters ≡ enters e
  has_entry test e some = editable test ∙ ap (found_or clip st message.NoEntry enters) some

module _ (old new : Held) (clip : Option Clip) (now : List Instance) where
  -- one element less
  pub shrunk_did : (r : Bool) → (r ≡ false) ↔ (count_here (state_of old) ≡ 1)
      → (r ≡ false → new ≡ old) → (r ≡ true → state_of new ≡ shrunk (state_of old))
      → Did (shrinks clip (state_of old)) (said_of r message.NoPlace) new clip now now
  shrunk_did r one refused done = by r (nat_eq (count_here (state_of old)) 1) refl one.0 one.1 refused done
    where
      by : (r b : Bool) → nat_eq (count_here (state_of old)) 1 ≡ b → (r ≡ false → count_here (state_of old) ≡ 1)
          → (count_here (state_of old) ≡ 1 → r ≡ false) → (r ≡ false → new ≡ old) → (r ≡ true → state_of new ≡ shrunk (state_of old))
          → Did (refused_if clip (state_of old) b message.NoPlace (becomes clip (shrunk (state_of old)))) (said_of r message.NoPlace) new clip now now
      by false true test from to refused done = refused_did old new clip now now message.NoPlace (refused refl) refl
      by true true test from to refused done = absurd (false≢true (sym (to (eq_is (count_here (state_of old)) 1 test))))
      by true false test from to refused done = done_did old new clip now message.Fine (shrunk (state_of old)) (done refl)
      by false false test from to refused done = absurd (false≢true (sym test ∙ ap (λ n. nat_eq n 1) (from refl)))

  -- bytes typed
  module _ (bytes : Bytes) where
    pub bad_did : (k : ℕ) → Some k ≡ bad_byte bytes → new ≡ old
        → Did (types clip (state_of old) bytes) (message.ByteAt k) new clip now now
    bad_did k same stays =
        subst (λ o. Did (types_unless clip (state_of old) o bytes) (message.ByteAt k) new clip now now) same
        (refused_did old new clip now now (message.ByteAt k) stays refl)

    pub typed_did : None ≡ bad_byte bytes → state_of new ≡ typed bytes (state_of old)
        → Did (types clip (state_of old) bytes) message.Fine new clip now now
    typed_did same state =
        subst (λ o. Did (types_unless clip (state_of old) o bytes) message.Fine new clip now now) same
        (done_did old new clip now message.Fine (typed bytes (state_of old)) state)

  -- a byte taken away
  pub erased_did : (c : Captured) → old.capture ≡ Some c → (r : Bool)
      → (r ≡ false) ↔ MatchOption old.capture ⊤ (λ (x : Captured). x.point ≡ 0)
      → (r ≡ false → new ≡ old) → (r ≡ true → state_of new ≡ erased (state_of old))
      → Did (erases clip (state_of old) c) (said_of r message.NoPlace) new clip now now
  erased_did c some r none refused done =
      by r (nat_eq c.point 0) refl
      (λ no. subst (λ o. MatchOption o ⊤ (λ (x : Captured). x.point ≡ 0)) some (none.0 no))
      (λ zero. none.1 (subst (λ o. MatchOption o ⊤ (λ (x : Captured). x.point ≡ 0)) (sym some) zero))
      refused done
    where
      by : (r b : Bool) → nat_eq c.point 0 ≡ b → (r ≡ false → c.point ≡ 0) → (c.point ≡ 0 → r ≡ false)
          → (r ≡ false → new ≡ old) → (r ≡ true → state_of new ≡ erased (state_of old))
          → Did (if b then says clip message.NoPlace (state_of old) else becomes clip (erased (state_of old)))
          (said_of r message.NoPlace) new clip now now
      by false true test from to refused done = refused_did old new clip now now message.NoPlace (refused refl) refl
      by true true test from to refused done = absurd (false≢true (sym (to (eq_is c.point 0 test))))
      by true false test from to refused done = done_did old new clip now message.Fine (erased (state_of old)) (done refl)
      by false false test from to refused done =
          absurd (false≢true (sym test ∙ ap (λ n. nat_eq n 0) (from refl)))
