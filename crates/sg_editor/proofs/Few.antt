-- A session keeps at most 64 buffers, no two of one name.
use Rattle.std.specs.Prelude.{◌≡◌, ◌≢◌, refl, ℕ, zero, suc, ◌+◌, ◌<◌, Bool, true, false, nat_le, nat_lt, if◌then◌else◌, bytes_eq, get_or, length, List, [], ◌∷◌, slice_get, Option, None, Some, is_some, Result, Ok, Err, AllPairs}
use Rattle.std.specs.List.{position_from}
use Rattle.std.specs.Option.{option_map_or}
use Rattle.std.proofs.Common.{sym, ap, ◌∙◌, subst, arith, length-append}
use Rattle.std.proofs.lemmas.List.{map-append, length-set}
use Rattle.std.proofs.lemmas.Iterator.Adapters.{position_from-zero}
use Rattle.std.proofs.lemmas.Option.{get_or_from_slice_get}
use Rattle.std.proofs.lemmas.List.Quantifiers.{all_pairs_push}
use Rattle.std.proofs.Math.Seq.{map-set_same}
use Rattle.std.proofs.lemmas.Bool.{false≢true}
use Rattle.std.proofs.lemmas.Bool.Decides.{nat_tests}
use Rattle.sg_kinds.specs.Values.{Bytes}
use Rattle.sg_kinds.specs.Terms.{Term}
use Rattle.sg_kinds.specs.Completing.{completing}
use Rattle.sg_kinds.specs.declared.spec.Spec.{Spec}
use Rattle.sg_kinds.proofs.Elementary.{bytes_itself}
use Rattle.sg_replies.specs.declared.reply.Reply.{Reply}
use Rattle.sg_replies.specs.declared.reply.Reply.TheVariants as reply
use Rattle.sg_saved.specs.Read.{Opened, FormAt, PhylumAt, TooLarge, Holds}
use Rattle.sg_script.specs.declared.message.Message.{Message}
use Rattle.sg_script.specs.declared.message.Message.TheVariants as message
use Rattle.sg_script.specs.declared.command.Command.{Command}
use Rattle.sg_script.specs.declared.command.Command.TheVariants as command
use Rattle.sg_states.specs.States.{State, begun}
use Rattle.sg_commands.specs.Turns.{turn}
use Rattle.sg_editor.specs.Ask.{Readers, Step, ask, barred, barred_by, fetched, in_current, keeps, loads, longest_file, most_buffers, news, opened, opens, says, saved_form, saved_text, switches, taken, turned_at}
use Rattle.sg_editor.specs.Buffers.{HasFewBuffers, names_in}
use Rattle.sg_editor.specs.Session.{Session, start, buffer_named, has_name, with_buffer, with_load, with_state}
use Rattle.sg_editor.specs.Steps.{Comes}

-- no buffer has a name of which none is found
not_named : (name : Bytes) (bs : List (Bytes × State)) (i : ℕ) → position_from (has_name name) i bs ≡ None → (k : ℕ) (d : Bytes) → k < length (names_in bs) → get_or (names_in bs) k d ≢ name
not_named name [] i none k d less = absurd (omega arith)
not_named name (b ∷ bs) i none k d less = by (bytes_eq name b.0) refl none (not_named name bs (i + 1)) k less
  where
    by : (t : Bool) → bytes_eq name b.0 ≡ t → (if t then Some i else position_from (has_name name) (i + 1) bs) ≡ None
        → (position_from (has_name name) (i + 1) bs ≡ None → (k : ℕ) (d : Bytes) → k < length (names_in bs) → get_or (names_in bs) k d ≢ name)
        → (k : ℕ) → k < suc (length (names_in bs)) → get_or (b.0 ∷ names_in bs) k d ≢ name
    by true same e behind k less = absurd (cc e)
    by false same e behind zero less = λ is. false≢true (sym same ∙ ap (bytes_eq name) is ∙ bytes_itself name)
    by false same e behind (suc k) less = behind e k d (omega arith)

-- where a name may be taken, a buffer more is not too many
module _ (s : Session) (few : HasFewBuffers s) where
  more_few : (name : Bytes) (t : Term) → buffer_named name s ≡ None → nat_le most_buffers (length s.buffers) ≡ false → HasFewBuffers (with_buffer name t s)
  more_few name t none room =
      let less : length s.buffers < 64 = grind (arith, nat_tests) in
      let new : List (Bytes × State) = (name, begun t) ∷ [] in
      record {
        few = omega (arith, length-append s.buffers new, less);
        distinct = subst (AllPairs ◌≢◌) (sym (map-append (λ (b : Bytes × State). b.0) s.buffers new))
            (all_pairs_push ◌≢◌ (names_in s.buffers) name few.distinct (not_named name s.buffers 0 (sym (position_from-zero (has_name name) s.buffers) ∙ none)));
      }

  -- a buffer in another state
  same_few : (k : ℕ) (b : Bytes × State) (st : State) → slice_get s.buffers k ≡ Some b → HasFewBuffers (with_state k b.0 st s)
  same_few k b st here = record {
    few = omega (arith, length-set s.buffers k (b.0, st), few.few);
    distinct = subst (AllPairs ◌≢◌)
        (sym (map-set_same (λ (b : Bytes × State). b.0) s.buffers k (b.0, st) b (sym (ap (λ (b : Bytes × State). b.0) (get_or_from_slice_get s.buffers k b b here))))) few.distinct;
  }

module _ (spec : Spec) (s : Session) (few : HasFewBuffers s) where
  opens_few : (name : Bytes) (t : Term) → taken name s ≡ None → HasFewBuffers (opens spec name t s).session
  opens_few name t free = by (buffer_named name s) refl free
    where
      room : (b : Bool) → nat_le most_buffers (length s.buffers) ≡ b → buffer_named name s ≡ None → (if b then Some message.TooManyBuffers else None) ≡ None → HasFewBuffers (with_buffer name t s)
      room true full none e = absurd (cc)
      room false full none e = more_few s few name t none full

      by : (o : Option ℕ) → buffer_named name s ≡ o → (if is_some o then Some message.NameInUse else (if nat_le most_buffers (length s.buffers) then Some message.TooManyBuffers else None)) ≡ None → HasFewBuffers (with_buffer name t s)
      by (Some k) found e = absurd (cc)
      by None none e = room (nat_le most_buffers (length s.buffers)) refl none e

  news_few : (name : Bytes) → HasFewBuffers (news spec name s).session
  news_few name = by (taken name s) refl
    where
      by : (o : Option Message) → taken name s ≡ o → HasFewBuffers (option_map_or (says s) o (opens spec name (completing spec spec.root) s)).session
      by (Some m) free = few
      by None free = opens_few name (completing spec spec.root) free

  opened_few : (name : Bytes) → taken name s ≡ None → (x : Opened) → HasFewBuffers (opened spec name s x).session
  opened_few name free (FormAt k) = few
  opened_few name free (PhylumAt k) = few
  opened_few name free (TooLarge nodes depth) = few
  opened_few name free (Holds v) = opens_few name _ free

  fetched_few : (height : ℕ) (r : Readers) (name : Bytes) → taken name s ≡ None → (x : Reply) → HasFewBuffers (fetched spec height r name s x).session
  fetched_few height r name free (reply.Fetched bytes) = by (nat_lt longest_file (length bytes))
    where
      by : (long : Bool) → HasFewBuffers (if long then says s message.LongFile else opened spec name s (r.file bytes)).session
      by true = few
      by false = opened_few name free (r.file bytes)
  fetched_few height r name free reply.FetchFailed = few
  fetched_few height r name free reply.Kept = few
  fetched_few height r name free reply.KeepFailed = few

  switched_few : (o : Option ℕ) → HasFewBuffers (option_map_or (λ (k : ℕ). says (record s { current = Some k }) message.Fine) o (says s message.NoBuffer)).session
  switched_few None = few
  switched_few (Some k) = record { few = few.few; distinct = few.distinct }

  current_few : (height : ℕ) (r : Readers) (c : Command) (o : Option ℕ) → HasFewBuffers (in_current spec height r s c o).session
  current_few height r c None = few
  current_few height r c (Some k) = by (slice_get s.buffers k) refl
    where
      by : (o : Option (Bytes × State)) → slice_get s.buffers k ≡ o → HasFewBuffers (turned_at spec height r s c k o).session
      by None here = few
      by (Some b) here = let t = turn spec height r.text s.clip b.1 c in let same = same_few s few k b t.state here in record { few = same.few; distinct = same.distinct }

-- after a step
from_step : (told step : Step) → step ≡ told → HasFewBuffers told.session → HasFewBuffers step.session
from_step told step is few = subst (λ (x : Step). HasFewBuffers x.session) (sym is) few

kept_few : (s : Session) (file : Bytes) (r : Result Bytes Message) (got : List Reply) (step : Step) → HasFewBuffers s → Comes (keeps file s r) got step → HasFewBuffers step.session
kept_few s file (Ok bytes) got step few comes = from_step (says s _) step comes.3 few
kept_few s file (Err m) got step few comes = from_step (says s m) step comes.1 few

module _ (spec : Spec) (height : ℕ) (r : Readers) (s : Session) (got : List Reply) (step : Step) where
  -- a load that calls the shelf has room for a buffer of its name
  not_barred : (o : Option Message) → barred_by s o ≡ None → o ≡ None
  not_barred None e = refl
  not_barred (Some m) e = absurd (cc)

  loaded_few : (name file : Bytes) (o : Option Message) → HasFewBuffers s → barred name s ≡ o → Comes (loads spec height r name file s o) got step → HasFewBuffers step.session
  loaded_few name file (Some m) few is comes = from_step (says s m) step comes.1 few
  loaded_few name file None few is comes =
      let counted : HasFewBuffers (with_load s) = record { few = few.few; distinct = few.distinct } in
      from_step (fetched spec height r name (with_load s) comes.0) step comes.3
      (fetched_few spec (with_load s) counted height r name (not_barred (taken name s) is) comes.0)

  pub stay_few : (c : Command) → HasFewBuffers s → Comes (ask spec height r s c) got step → HasFewBuffers step.session
  unfolding ask
  stay_few (command.Load name file) few comes = loaded_few name file (barred name s) few refl comes
  stay_few (command.Save file) few comes = kept_few s file (saved_form spec s) got step few comes
  stay_few (command.SaveText file) few comes = kept_few s file (saved_text spec s) got step few comes
  stay_few (command.New name) few comes = from_step (news spec name s) step comes.1 (news_few spec s few name)
  stay_few (command.Switch name) few comes = from_step (switches name s) step comes.1 (switched_few spec s few (buffer_named name s))
  stay_few command.Show few comes = from_step _ step comes.1 few
  stay_few c few comes = from_step (in_current spec height r s c s.current) step comes.1 (current_few spec s few height r c s.current)

pub begin_few : HasFewBuffers start
begin_few = record { few = omega arith; distinct = λ i j d less within. absurd (omega arith) }
