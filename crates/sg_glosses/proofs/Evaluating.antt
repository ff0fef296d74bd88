-- What a step evaluates.
use Rattle.std.specs.Prelude.{◌≡◌, ◌≢◌, ◌⊎◌, refl, ℕ, Bool, true, false, not, ◌||◌, nat_le, nat_lt, if◌then◌else◌, length, List, [], slice_get, Option, None, Some, is_some, Result, Ok, Err, IsTrue}
use Rattle.std.specs.Option.{option_map_or}
use Rattle.std.proofs.Common.{sym, ap, ◌∙◌, subst, inl, inr}
use Rattle.std.proofs.lemmas.Bool.{false≢true}
use Rattle.sg_kinds.specs.Values.{Bytes}
use Rattle.sg_kinds.specs.Completing.{completing}
use Rattle.sg_kinds.specs.Terms.{Term}
use Rattle.sg_kinds.specs.declared.spec.Spec.{Spec}
use Rattle.sg_kinds.proofs.Elementary.{slice_get-seam}
use Rattle.sg_changes.specs.Changes.{Put, part_of}
use Rattle.sg_changes.specs.declared.direction.Direction.{Direction}
use Rattle.sg_changes.specs.declared.direction.Direction.TheVariants.{Back, Forth}
use Rattle.sg_replies.specs.declared.reply.Reply.{Reply}
use Rattle.sg_replies.specs.declared.reply.Reply.TheVariants as reply
use Rattle.sg_saved.specs.Read.{Opened, FormAt, PhylumAt, TooLarge, Holds}
use Rattle.sg_script.specs.declared.message.Message.{Message}
use Rattle.sg_script.specs.declared.message.Message.TheVariants as message
use Rattle.sg_script.specs.declared.command.Command.{Command}
use Rattle.sg_script.specs.declared.command.Command.TheVariants as command
use Rattle.sg_states.specs.States.{State, begun}
use Rattle.sg_commands.specs.Turns.{turn}
use Rattle.sg_editor.specs.Ask.{Readers, Step, ask, barred, barred_by, fetched, keeps, loads, longest_file, most_buffers, most_loads, news, opened, opens, saved_form, saved_text, says, shows, switches}
use Rattle.sg_editor.specs.Session.{Session, buffer_named, with_load}
use Rattle.sg_editor.specs.Steps.{Comes, is_turn}
use Rattle.sg_glosses.specs.Evaluations.{HasGone, HasOpened, HasReplaced, evaluates_nothing, is_opening, is_replacement, is_travel}
use Rattle.sg_glosses.proofs.Currents.{IsInCurrent, IsTurnOf, comes_current, current_after, current_before}
use Rattle.sg_glosses.proofs.Outcomes.{Goes, Refuses, Replaces, redoes, replacements, turn_quiet, undoes}

-- a step that is refused and evaluates nothing, or is told as fine and is such a one
abbrev RefusedOr : Step → Type 0 → Type 0
RefusedOr step X = ((step.message ≢ message.Fine) × (step.set ≡ [])) ⊎ (X × (step.message ≡ message.Fine))

done : (step : Step) (X : Type 0) → RefusedOr step X → step.message ≡ message.Fine → X
done step X (inl refused) fine = absurd (refused.0 fine)
done step X (inr so) fine = so.0

unless : (step : Step) (X : Type 0) → RefusedOr step X → step.message ≢ message.Fine → step.set ≡ []
unless step X (inl refused) wrong = refused.1
unless step X (inr so) wrong = absurd (wrong so.1)

abbrev Opening : Spec → Step → Type 0
Opening spec step = RefusedOr step (HasOpened spec step)

module _ (spec : Spec) (name : Bytes) (s : Session) where
  opens_so : (t : Term) → Opening spec (opens spec name t s)
  opens_so t = inr (record { name = name; term = t; current = slice_get-seam s.buffers (name, begun t) []; set = refl }, refl)

  refuses : (m : Message) → m ≢ message.Fine → Opening spec (says s m)
  refuses m wrong = inl (wrong, refl)

  opened_so : (x : Opened) → Opening spec (opened spec name s x)
  opened_so (FormAt k) = refuses (message.FormAt k) (λ e. cc)
  opened_so (PhylumAt k) = refuses message.Phylum (λ e. cc)
  opened_so (TooLarge nodes depth) = refuses message.Size (λ e. cc)
  opened_so (Holds v) = opens_so _

  fetched_so : (height : ℕ) (r : Readers) (x : Reply) → Opening spec (fetched spec height r name s x)
  fetched_so height r (reply.Fetched bytes) = by (nat_lt longest_file (length bytes))
    where
      by : (long : Bool) → Opening spec (if long then says s message.LongFile else opened spec name s (r.file bytes))
      by true = refuses message.LongFile (λ e. cc)
      by false = opened_so (r.file bytes)
  fetched_so height r reply.FetchFailed = refuses message.ReadFault (λ e. cc)
  fetched_so height r reply.Kept = refuses message.ReadFault (λ e. cc)
  fetched_so height r reply.KeepFailed = refuses message.ReadFault (λ e. cc)

  news_so : Opening spec (news spec name s)
  news_so = by (is_some (buffer_named name s)) (nat_le most_buffers (length s.buffers))
    where
      by : (a b : Bool) → Opening spec (option_map_or (says s) (if a then Some message.NameInUse else (if b then Some message.TooManyBuffers else None)) (opens spec name (completing spec spec.root) s))
      by true b = refuses message.NameInUse (λ e. cc)
      by false true = refuses message.TooManyBuffers (λ e. cc)
      by false false = opens_so (completing spec spec.root)

module _ (spec : Spec) (height : ℕ) (r : Readers) (s : Session) (got : List Reply) (step : Step) where
  from_told : (told : Step) → step ≡ told → Opening spec told → Opening spec step
  from_told told is so = subst (Opening spec) (sym is) so

  barred_so : (name file : Bytes) (m : Message) → m ≢ message.Fine → Comes (loads spec height r name file s (Some m)) got step → Opening spec step
  barred_so name file m wrong comes = from_told (says s m) comes.1 (refuses spec name s m wrong)

  called_so : (name file : Bytes) → Comes (loads spec height r name file s None) got step → Opening spec step
  called_so name file comes = from_told (fetched spec height r name (with_load s) comes.0) comes.3 (fetched_so spec name (with_load s) height r comes.0)

  loads_so : (name file : Bytes) → Comes (loads spec height r name file s (barred name s)) got step → Opening spec step
  loads_so name file = by (is_some (buffer_named name s)) (nat_le most_buffers (length s.buffers))
    where
      last : (b : Bool) → Comes (loads spec height r name file s (if b then Some message.TooManyFiles else None)) got step → Opening spec step
      last true comes = barred_so name file message.TooManyFiles (λ e. cc) comes
      last false comes = called_so name file comes

      by : (a b : Bool) → Comes (loads spec height r name file s (barred_by s (if a then Some message.NameInUse else (if b then Some message.TooManyBuffers else None)))) got step → Opening spec step
      by true b comes = barred_so name file message.NameInUse (λ e. cc) comes
      by false true comes = barred_so name file message.TooManyBuffers (λ e. cc) comes
      by false false comes = last (nat_le most_loads s.loads) comes

  -- a command that makes a new buffer
  opening : (c : Command) → IsTrue (is_opening c) → Comes (ask spec height r s c) got step → Opening spec step
  unfolding ask
  opening (command.New name) is comes = from_told (news spec name s) comes.1 (news_so spec name s)
  opening (command.Load name file) is comes = loads_so name file comes
  opening c is comes = absurd (false≢true is)

  pub has_opened : (c : Command) → IsTrue (is_opening c) → Comes (ask spec height r s c) got step → step.message ≡ message.Fine → HasOpened spec step
  has_opened c is comes = done step (HasOpened spec step) (opening c is comes)

  -- a command that replaces
  abbrev Replacing : Type 0
  Replacing = RefusedOr step (HasReplaced spec s step)

  no_buffer : step ≡ says s message.NoBuffer → (step.message ≢ message.Fine) × (step.set ≡ [])
  no_buffer is = ((λ fine. let e = sym (ap (λ (x : Step). x.message) is) ∙ fine in cc), ap (λ (x : Step). x.set) is)

  refused_turn : (c : Command) (o : IsTurnOf spec height r s c step) → Refuses o.buffer.1 (turn spec height r.text s.clip o.buffer.1 c) → (step.message ≢ message.Fine) × (step.set ≡ [])
  refused_turn c o refused = (
    (λ fine. refused.0 (sym (ap (λ (x : Step). x.message) o.is) ∙ fine)),
    ap (λ (x : Step). x.set) o.is ∙ refused.1,
  )

  replaced_turn : (c : Command) (o : IsTurnOf spec height r s c step) → Replaces spec height o.buffer.1 (turn spec height r.text s.clip o.buffer.1 c) → HasReplaced spec s step
  replaced_turn c o rep =
      let t = turn spec height r.text s.clip o.buffer.1 c in
      record {
        name = o.buffer.0;
        old = o.buffer.1;
        new = t.state;
        before = current_before s o.place o.buffer o.current o.there;
        after = current_after s o.place o.buffer o.current o.there step t o.is;
        place = rep.place;
        subterm = rep.subterm;
        term = ap (λ (x : State). x.term) rep.state;
        newest =
            ap (λ (x : State). slice_get x.past 0) rep.state
            ∙ ap (λ (x : State). Some (Put rep.place (part_of o.buffer.1.term rep.place) rep.subterm o.buffer.1.spot x.spot)) (sym rep.state);
        set = ap (λ (x : Step). x.set) o.is ∙ rep.set;
      }

  replacement_turns : (c : Command) → IsTrue (is_replacement c) → IsTrue (is_turn c)
  replacement_turns (command.New name) is = absurd (false≢true is)
  replacement_turns (command.Load name file) is = absurd (false≢true is)
  replacement_turns (command.Switch name) is = absurd (false≢true is)
  replacement_turns command.Show is = absurd (false≢true is)
  replacement_turns (command.Save file) is = absurd (false≢true is)
  replacement_turns (command.SaveText file) is = absurd (false≢true is)
  replacement_turns c is = refl

  replacing : (c : Command) → IsTrue (is_replacement c) → Comes (ask spec height r s c) got step → Replacing
  replacing c is comes = by (comes_current spec height r s c got step (replacement_turns c is) comes)
    where
      from_turn : (o : IsTurnOf spec height r s c step) → Refuses o.buffer.1 (turn spec height r.text s.clip o.buffer.1 c) ⊎ Replaces spec height o.buffer.1 (turn spec height r.text s.clip o.buffer.1 c) → Replacing
      from_turn o (inl refused) = inl (refused_turn c o refused)
      from_turn o (inr rep) = inr (replaced_turn c o rep, ap (λ (x : Step). x.message) o.is ∙ rep.fine)

      by : IsInCurrent spec height r s c step → Replacing
      by (inl none) = inl (no_buffer none.said)
      by (inr o) = from_turn o (replacements spec height s.clip o.buffer.1 r.text c is)

  pub has_replaced : (c : Command) → IsTrue (is_replacement c) → Comes (ask spec height r s c) got step → step.message ≡ message.Fine → HasReplaced spec s step
  has_replaced c is comes = done step (HasReplaced spec s step) (replacing c is comes)

  -- a command that goes along a change
  abbrev Going : Direction → Type 0
  Going d = RefusedOr step (HasGone spec height d s step)

  gone_turn : (d : Direction) (c : Command) (o : IsTurnOf spec height r s c step) → Goes spec height d o.buffer.1 (turn spec height r.text s.clip o.buffer.1 c) → HasGone spec height d s step
  gone_turn d c o goes =
      let t = turn spec height r.text s.clip o.buffer.1 c in
      record {
        name = o.buffer.0;
        old = o.buffer.1;
        change = goes.change;
        others = goes.others;
        before = current_before s o.place o.buffer o.current o.there;
        nearest = goes.nearest;
        after = current_after s o.place o.buffer o.current o.there step t o.is ∙ ap (λ (x : State). Some (o.buffer.0, x)) goes.state;
        set = ap (λ (x : Step). x.set) o.is ∙ goes.set;
      }

  going : (d : Direction) (c : Command)
      → ((st : State) → Refuses st (turn spec height r.text s.clip st c) ⊎ Goes spec height d st (turn spec height r.text s.clip st c))
      → IsInCurrent spec height r s c step → Going d
  going d c each (inl none) = inl (no_buffer none.said)
  going d c each (inr o) = by (each o.buffer.1)
    where
      by : Refuses o.buffer.1 (turn spec height r.text s.clip o.buffer.1 c) ⊎ Goes spec height d o.buffer.1 (turn spec height r.text s.clip o.buffer.1 c) → Going d
      by (inl refused) = inl (refused_turn c o refused)
      by (inr goes) = inr (gone_turn d c o goes, ap (λ (x : Step). x.message) o.is ∙ goes.fine)

  undoing : Comes (ask spec height r s command.Undo) got step → Going Back
  undoing comes = going Back command.Undo (λ st. undoes spec height s.clip st r.text) (comes_current spec height r s command.Undo got step refl comes)

  redoing : Comes (ask spec height r s command.Redo) got step → Going Forth
  redoing comes = going Forth command.Redo (λ st. redoes spec height s.clip st r.text) (comes_current spec height r s command.Redo got step refl comes)

  pub has_undone : Comes (ask spec height r s command.Undo) got step → step.message ≡ message.Fine → HasGone spec height Back s step
  has_undone comes = done step (HasGone spec height Back s step) (undoing comes)

  pub has_redone : Comes (ask spec height r s command.Redo) got step → step.message ≡ message.Fine → HasGone spec height Forth s step
  has_redone comes = done step (HasGone spec height Forth s step) (redoing comes)

  -- all others
  set_of : (told : Step) → step ≡ told → told.set ≡ [] → step.set ≡ []
  set_of told is none = ap (λ (x : Step). x.set) is ∙ none

  kept_quiet : (file : Bytes) (b : Result Bytes Message) → Comes (keeps file s b) got step → step.set ≡ []
  kept_quiet file (Ok bytes) comes = ap (λ (x : Step). x.set) comes.3
  kept_quiet file (Err m) comes = ap (λ (x : Step). x.set) comes.1

  switched_quiet : (o : Option ℕ) → (option_map_or (λ (k : ℕ). says (record s { current = Some k }) message.Fine) o (says s message.NoBuffer)).set ≡ []
  switched_quiet None = refl
  switched_quiet (Some k) = refl

  current_quiet : (c : Command) → IsTrue (evaluates_nothing c) → IsInCurrent spec height r s c step → step.set ≡ []
  current_quiet c is (inl none) = ap (λ (x : Step). x.set) none.said
  current_quiet c is (inr o) = ap (λ (x : Step). x.set) o.is ∙ turn_quiet s.clip o.buffer.1 spec height r.text c is

  pub quiet : (c : Command) → IsTrue (evaluates_nothing c) → Comes (ask spec height r s c) got step → step.set ≡ []
  unfolding ask
  quiet (command.New name) is comes = absurd (false≢true is)
  quiet (command.Load name file) is comes = absurd (false≢true is)
  quiet (command.Save file) is comes = kept_quiet file (saved_form spec s) comes
  quiet (command.SaveText file) is comes = kept_quiet file (saved_text spec s) comes
  quiet (command.Switch name) is comes = set_of (switches name s) comes.1 (switched_quiet (buffer_named name s))
  quiet command.Show is comes = set_of (shows s) comes.1 refl
  quiet c is comes = current_quiet c is (comes_current spec height r s c got step refl comes)

  -- a command that is not told as fine
  travel_unless : (c : Command) → IsTrue (is_travel c) → Comes (ask spec height r s c) got step → step.message ≢ message.Fine → step.set ≡ []
  travel_unless command.Undo is comes = unless step (HasGone spec height Back s step) (undoing comes)
  travel_unless command.Redo is comes = unless step (HasGone spec height Forth s step) (redoing comes)
  travel_unless c is comes = absurd (false≢true is)

  pub refused_quiet : (c : Command) → Comes (ask spec height r s c) got step → step.message ≢ message.Fine → step.set ≡ []
  refused_quiet c comes wrong = by (is_opening c) refl (is_replacement c) refl (is_travel c) refl
    where
      by : (o : Bool) → is_opening c ≡ o → (p : Bool) → is_replacement c ≡ p → (t : Bool) → is_travel c ≡ t → step.set ≡ []
      by true is p others t travels = unless step (HasOpened spec step) (opening c is comes) wrong
      by false closed true is t travels = unless step (HasReplaced spec s step) (replacing c is comes) wrong
      by false closed false never true is = travel_unless c is comes wrong
      by false closed false never false still = quiet c (λ i. not (closed i || never i || still i)) comes
