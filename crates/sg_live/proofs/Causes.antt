-- The causes of a status
use Rattle.std.proofs.Common.{◌≡◌, ◌≤◌, ◌⊎◌, inl, inr, ℕ, ◌+◌, ◌-◌, ◌^◌, List, ◌∷◌, ◌++◌, length, Option, Some, None, refl, arith, length-append}
use Rattle.sg_outside.specs.Count.{Rose}
use Rattle.sg_kinds.specs.declared.spec.Spec.{Spec}
use Rattle.sg_load.specs.Verdict.Verdict.{Refused, Accepted}
use Rattle.sg_replies.specs.declared.reply.Reply.{Reply}
use Rattle.sg_replies.specs.declared.reply.Reply.TheVariants.{Fetched, FetchFailed, Kept, KeepFailed}
use Rattle.sg_outside.specs.Shelf.{ShelfState}
use Rattle.sg_replies.specs.Calls.{Replied}
use Rattle.sg_editor.specs.Session.{Session, start}
use Rattle.sg_output.specs.declared.status.Status.{Status}
use Rattle.sg_output.specs.declared.status.Status.TheVariants.{Done, Memory, Usage, ReadFault, SpecFault, SinkFault}
use Rattle.sg_output.specs.OutputOf.{read_fault_text, whole_file}
use Rattle.sg_output.specs.Session.{Desk, desk}
use Rattle.sg_console.specs.Console.{Event, noted}
use Rattle.sg_console.specs.Console.Event.{Put}
use Rattle.sg_live.specs.Opening.{Said, IsNoneOf, Brings}
use Rattle.sg_live.specs.Outside.{Outside, outside, all_noted}
use Rattle.sg_live.specs.Turns.{AreTurns, none, more, IsEnding, ended, lost_input, lost_both, unput, worn, Talked, IsEndOrFault}
use Rattle.sg_live.specs.Words.{Job}
use Rattle.sg_live.specs.Lived.{IsRunOf, unfetched, unopened, opened, IsSession, IsRunOfWords, IsSpecRefused, IsSpecAccepted, IsLiveStatus, HasNotBegunOrWornOut}

-- each line has an event
turns_length : (d : Desk) (s : Session) (at : ShelfState) (k : ℕ) (t : Session) (to : ShelfState) (events : List Event) (n : ℕ) → AreTurns d s at k t to events n → k ≤ length events
turns_length d s at k t to events n none = omega arith
turns_length d s at k t to events n (more j u v by there before after e x y first last) =
    let h = turns_length d s at j u by before x first in
    let long : length (before ++ e ∷ after) ≡ length before + length (e ∷ after) = length-append before (e ∷ after) in
    omega (arith, h)

-- how a session may end
pub data End (lines : ℕ) (status : Status) : Type 0 where
  at_end : status ≡ Done → End lines status
  no_write : status ≡ SinkFault → End lines status
  no_read : status ≡ ReadFault → End lines status
  too_many : status ≡ Memory → 2 ^ 64 - 1 ≤ lines → End lines status

end_of : (d : Desk) (s : Session) (at : ShelfState) (lines : ℕ) (events : List Event) (to : ShelfState) (n : ℕ) (status : Status) → IsEnding d s at lines events to n status → End lines status
end_of d s at lines events to n status ended = at_end refl
end_of d s at lines events to n status lost_input = no_read refl
end_of d s at lines events to n status lost_both = no_write refl
end_of d s at lines events to n status (unput e t to' piece m turn) = no_write refl
end_of d s at lines events to n status (worn h) = too_many refl h

-- and a run
pub data Cause (j : Option Job) (old : Outside) (status : Status) (new : Outside) : Type 0 where
  no_job : j ≡ None → status ≡ Usage → Cause j old status new
  silent : status ≡ Memory → new.console ≡ old.console → Cause j old status new
  finished : status ≡ Done → Cause j old status new
  worn_out : status ≡ Memory → (events : List Event) → 2 ^ 64 - 1 ≤ length events → new.console.history ≡ all_noted events old.console.history → Cause j old status new
  put_failed : status ≡ SinkFault → Rose old.console.faults new.console.faults → Cause j old status new
  missing : status ≡ ReadFault → Rose old.shelf.faults new.shelf.faults → Cause j old status new
  unread : status ≡ ReadFault → Rose old.console.faults new.console.faults → Cause j old status new
  faulty : status ≡ SpecFault → IsSpecRefused j old → Cause j old status new

module _ (old new : Outside) (status : Status) where
  of_text : (j : Option Job) (text : List ℕ) (meant : Status) → Said text meant old.console status new.console → (status ≡ meant → Cause j old status new) → Cause j old status new
  of_text j text meant said to_cause = by said.either
    where
      by : ((status ≡ meant) × (new.console.history ≡ noted (Put text) old.console.history))
          ⊎ ((status ≡ SinkFault) × (new.console.history ≡ old.console.history) × Rose old.console.faults new.console.faults) → Cause j old status new
      by (inl h) = to_cause h.0
      by (inr h) = put_failed h.0 h.2

  rose_of : IsEndOrFault status old new → (status ≡ Done → ⊥) → (status ≡ Memory → ⊥) → Rose old.console.faults new.console.faults
  rose_of (inl is) done memory = absurd (done is)
  rose_of (inr (inl is)) done memory = absurd (memory is)
  rose_of (inr (inr rose)) done memory = rose

  of_none : (j : Job) (reply : Reply) → Replied (whole_file j.spec) reply old.shelf new.shelf → IsNoneOf reply old.console status new.console → Cause (Some j) old status new
  of_none j (Fetched bytes) replied (inl quiet) = silent quiet.memory quiet.same
  of_none j (Fetched bytes) replied (inr (f, the, said)) = of_text (Some j) _ SpecFault said (λ is. faulty is (bytes, new.shelf, replied, (f, the)))
  of_none j FetchFailed replied said = of_text (Some j) read_fault_text ReadFault said (λ is. missing is replied.faults)
  of_none j Kept replied said = let never = replied.kind in absurd (cc)
  of_none j KeepFailed replied said = let never = replied.kind in absurd (cc)

  of_talked : (j : Job) (shelf : ShelfState) (d : Desk) → Talked d start (outside shelf old.console old.counted) status new → Cause (Some j) old status new
  of_talked j shelf d t = by (end_of d t.session t.shelf t.lines t.ending new.shelf t.evaluated_last status t.over)
    where
      by : End t.lines status → Cause (Some j) old status new
      by (at_end is) = finished is
      by (no_write is) = put_failed is (rose_of t.cause (λ e. cc) (λ e. cc))
      by (no_read is) = unread is (rose_of t.cause (λ e. cc) (λ e. cc))
      by (too_many is many) =
          let h = turns_length d start shelf t.lines t.session t.shelf t.events t.evaluated t.turns in
          let long : length (t.events ++ t.ending) ≡ length t.events + length t.ending = length-append t.events t.ending in
          worn_out is (t.events ++ t.ending) (omega (arith, h)) t.history

  of_session : (j : Job) (reply : Reply) (shelf : ShelfState) (spec : Spec) → Brings reply spec → IsSession j spec (outside shelf old.console old.counted) status new → Cause (Some j) old status new
  of_session j (Fetched bytes) shelf spec brings (inl (same, count, quiet)) = silent quiet.memory quiet.same
  of_session j (Fetched bytes) shelf spec brings (inr talks) = of_talked j shelf (desk spec j.width j.height brings.readers.0) (talks brings.readers.0 brings.readers.1)
  of_session j FetchFailed shelf spec brings h = absurd brings
  of_session j Kept shelf spec brings h = absurd brings
  of_session j KeepFailed shelf spec brings h = absurd brings

  of_run : (j : Job) → IsRunOf j old status new → Cause (Some j) old status new
  of_run j (unfetched shelf count quiet) = silent quiet.memory quiet.same
  of_run j (unopened reply replied count h) = of_none j reply replied h
  of_run j (opened reply shelf spec replied brings h) = of_session j reply shelf spec brings h

  pub cause_of : (j : Option Job) → IsRunOfWords j old status new → Cause j old status new
  cause_of None h = of_text None _ Usage h.said (λ is. no_job refl is)
  cause_of (Some j) h = of_run j h

  module _ (j : Option Job) (h : IsRunOfWords j old status new) where
    pub status_is : IsLiveStatus status
    status_is = by (cause_of j h)
      where
        by : Cause j old status new → IsLiveStatus status
        by (no_job nothing e) = inr (inr (inl e))
        by (silent e same) = inr (inl e)
        by (finished e) = inl e
        by (worn_out e events many told) = inr (inl e)
        by (put_failed e rose) = inr (inr (inr (inr (inr e))))
        by (missing e rose) = inr (inr (inr (inl e)))
        by (unread e rose) = inr (inr (inr (inl e)))
        by (faulty e refused) = inr (inr (inr (inr (inl e))))

    pub usage_cause : status ≡ Usage → j ≡ None
    usage_cause is = by (cause_of j h)
      where
        by : Cause j old status new → j ≡ None
        by (no_job nothing e) = nothing
        by (silent e same) = absurd (cc)
        by (finished e) = absurd (cc)
        by (worn_out e events many told) = absurd (cc)
        by (put_failed e rose) = absurd (cc)
        by (missing e rose) = absurd (cc)
        by (unread e rose) = absurd (cc)
        by (faulty e refused) = absurd (cc)

    pub read_cause : status ≡ ReadFault → Rose old.shelf.faults new.shelf.faults ⊎ Rose old.console.faults new.console.faults
    read_cause is = by (cause_of j h)
      where
        by : Cause j old status new → Rose old.shelf.faults new.shelf.faults ⊎ Rose old.console.faults new.console.faults
        by (no_job nothing e) = absurd (cc)
        by (silent e same) = absurd (cc)
        by (finished e) = absurd (cc)
        by (worn_out e events many told) = absurd (cc)
        by (put_failed e rose) = absurd (cc)
        by (missing e rose) = inl rose
        by (unread e rose) = inr rose
        by (faulty e refused) = absurd (cc)

    pub spec_cause : status ≡ SpecFault → IsSpecRefused j old
    spec_cause is = by (cause_of j h)
      where
        by : Cause j old status new → IsSpecRefused j old
        by (no_job nothing e) = absurd (cc)
        by (silent e same) = absurd (cc)
        by (finished e) = absurd (cc)
        by (worn_out e events many told) = absurd (cc)
        by (put_failed e rose) = absurd (cc)
        by (missing e rose) = absurd (cc)
        by (unread e rose) = absurd (cc)
        by (faulty e refused) = refused

    pub sink_cause : status ≡ SinkFault → Rose old.console.faults new.console.faults
    sink_cause is = by (cause_of j h)
      where
        by : Cause j old status new → Rose old.console.faults new.console.faults
        by (no_job nothing e) = absurd (cc)
        by (silent e same) = absurd (cc)
        by (finished e) = absurd (cc)
        by (worn_out e events many told) = absurd (cc)
        by (put_failed e rose) = rose
        by (missing e rose) = absurd (cc)
        by (unread e rose) = absurd (cc)
        by (faulty e refused) = absurd (cc)

    pub memory_cause : status ≡ Memory → HasNotBegunOrWornOut old new
    memory_cause is = by (cause_of j h)
      where
        by : Cause j old status new → HasNotBegunOrWornOut old new
        by (no_job nothing e) = absurd (cc)
        by (silent e same) = inl same
        by (finished e) = absurd (cc)
        by (worn_out e events many told) = inr (events, many, told)
        by (put_failed e rose) = absurd (cc)
        by (missing e rose) = absurd (cc)
        by (unread e rose) = absurd (cc)
        by (faulty e refused) = absurd (cc)

    pub complete : (Rose old.shelf.faults new.shelf.faults → ⊥) → (Rose old.console.faults new.console.faults → ⊥) → IsSpecAccepted j old → (status ≡ Done) ⊎ (status ≡ Memory)
    complete shelf console accepted = by (cause_of j h)
      where
        no_words : (i : Option Job) → i ≡ None → IsSpecAccepted i old → (status ≡ Done) ⊎ (status ≡ Memory)
        no_words None e a = absurd a
        no_words (Some i) e a = absurd (cc)

        not_both : (i : Option Job) → IsSpecRefused i old → IsSpecAccepted i old → (status ≡ Done) ⊎ (status ≡ Memory)
        not_both None r a = absurd r
        not_both (Some i) (bytes, at, replied, found) a =
            let good = a bytes at replied in
            let same : Accepted good.0 ≡ Refused found.0 = found.1.only (Accepted good.0) good.1 in
            absurd (cc)

        by : Cause j old status new → (status ≡ Done) ⊎ (status ≡ Memory)
        by (no_job nothing e) = no_words j nothing accepted
        by (silent e same) = inr e
        by (finished e) = inl e
        by (worn_out e events many told) = inr e
        by (put_failed e rose) = absurd (console rose)
        by (missing e rose) = absurd (shelf rose)
        by (unread e rose) = absurd (console rose)
        by (faulty e refused) = not_both j refused accepted
