-- A command in the current buffer, as a turn of it.
use Rattle.std.specs.Prelude.{◌≡◌, ◌⊎◌, refl, ℕ, List, slice_get, slice_set, Option, None, Some, option_and_then, IsTrue}
use Rattle.std.proofs.Common.{sym, ap, ◌∙◌, subst, inl, inr, arith, length-set}
use Rattle.std.proofs.lemmas.Bool.{false≢true}
use Rattle.std.proofs.lemmas.List.{get_or-set_same}
use Rattle.std.proofs.lemmas.Option.{slice_get-get_or, slice_get_within}
use Rattle.sg_kinds.specs.Values.{Bytes}
use Rattle.sg_kinds.specs.declared.spec.Spec.{Spec}
use Rattle.sg_replies.specs.declared.reply.Reply.{Reply}
use Rattle.sg_script.specs.declared.command.Command.{Command}
use Rattle.sg_script.specs.declared.command.Command.TheVariants as command
use Rattle.sg_script.specs.declared.message.Message.TheVariants as message
use Rattle.sg_states.specs.States.{State}
use Rattle.sg_commands.specs.Turn.{Turn}
use Rattle.sg_commands.specs.Turns.{turn}
use Rattle.sg_editor.specs.Ask.{Ask, Readers, Step, Tells, ask, in_current, says, turned_at, turned_to}
use Rattle.sg_editor.specs.Session.{Session, current_of}
use Rattle.sg_editor.specs.Steps.{Comes, is_turn}

-- an element that was set is there
pub set_there : {X : Type 0} (xs : List X) (k : ℕ) (x y : X) → slice_get xs k ≡ Some x → slice_get (slice_set xs k y) k ≡ Some y
set_there xs k x y here =
    let low = slice_get_within xs k x here in
    let long = length-set xs k y in
    slice_get-get_or (slice_set xs k y) k y (omega (arith, low, long)) ∙ ap Some (get_or-set_same xs k y y low)

module _ (spec : Spec) (height : ℕ) (r : Readers) (s : Session) (c : Command) where
  turn_tells : IsTrue (is_turn c) → ask spec height r s c ≡ Tells (in_current spec height r s c s.current)
  unfolding ask
  turn_tells = by c
    where
      by : (c : Command) → IsTrue (is_turn c) → ask spec height r s c ≡ Tells (in_current spec height r s c s.current)
      by (command.New name) turns = absurd (false≢true turns)
      by (command.Load name file) turns = absurd (false≢true turns)
      by (command.Switch name) turns = absurd (false≢true turns)
      by command.Show turns = absurd (false≢true turns)
      by (command.Save file) turns = absurd (false≢true turns)
      by (command.SaveText file) turns = absurd (false≢true turns)
      by c turns = refl

  -- the turn of the current buffer that a step is
  pub record IsTurnOf (step : Step) : Type 0 where
    pub place : ℕ
    pub buffer : Bytes × State
    pub current : s.current ≡ Some place
    pub there : slice_get s.buffers place ≡ Some buffer
    pub is : step ≡ turned_to place buffer.0 s (turn spec height r.text s.clip buffer.1 c)

  -- or no buffer is current
  pub record HasNone (step : Step) : Type 0 where
    pub said : step ≡ says s message.NoBuffer
    pub none : current_of s ≡ None

  abbrev pub IsInCurrent : Step → Type 0
  IsInCurrent step = HasNone step ⊎ IsTurnOf step

  turned_place : (step : Step) (k : ℕ) → s.current ≡ Some k → (o : Option (Bytes × State)) → slice_get s.buffers k ≡ o → step ≡ turned_at spec height r s c k o → IsInCurrent step
  turned_place step k at None here is = inl (record { said = is; none = ap (option_and_then (slice_get s.buffers)) at ∙ here })
  turned_place step k at (Some b) here is = inr (record { place = k; buffer = b; current = at; there = here; is = is })

  in_place : (step : Step) (o : Option ℕ) → s.current ≡ o → step ≡ in_current spec height r s c o → IsInCurrent step
  in_place step None at is = inl (record { said = is; none = ap (option_and_then (slice_get s.buffers)) at })
  in_place step (Some k) at is = turned_place step k at (slice_get s.buffers k) refl is

  pub comes_current : (got : List Reply) (step : Step) → IsTrue (is_turn c) → Comes (ask spec height r s c) got step → IsInCurrent step
  comes_current got step turns comes =
      let told = subst (λ (a : Ask). Comes a got step) (turn_tells turns) comes in
      in_place step s.current refl told.1

  -- a step that is fine is a turn that is
  pub the_turn : (step : Step) → step.message ≡ message.Fine → IsInCurrent step → IsTurnOf step
  the_turn step fine (inl none) = absurd (let e = sym (ap (λ (x : Step). x.message) none.said) ∙ fine in cc)
  the_turn step fine (inr o) = o

  pub fine_turn : (step : Step) (o : IsTurnOf step) → step.message ≡ message.Fine → (turn spec height r.text s.clip o.buffer.1 c).message ≡ message.Fine
  fine_turn step o fine = sym (ap (λ (x : Step). x.message) o.is) ∙ fine

-- the current buffer before a turn, and after it
module _ (s : Session) (k : ℕ) (b : Bytes × State) (at : s.current ≡ Some k) (here : slice_get s.buffers k ≡ Some b) where
  pub current_before : current_of s ≡ Some b
  current_before = ap (option_and_then (slice_get s.buffers)) at ∙ here

  pub current_after : (step : Step) (t : Turn) → step ≡ turned_to k b.0 s t → current_of step.session ≡ Some (b.0, t.state)
  current_after step t is =
      ap (λ (x : Step). current_of x.session) is
      ∙ ap (option_and_then (slice_get (slice_set s.buffers k (b.0, t.state)))) at
      ∙ set_there s.buffers k b (b.0, t.state) here

  -- no other buffer is current
  pub current_only : (o : Bytes × State) → current_of s ≡ Some o → b ≡ o
  current_only o is = by (sym current_before ∙ is)
    where
      by : Some b ≡ Some o → b ≡ o
      by e = cc
