-- Why a run ends as it does.
use Rattle.std.proofs.Common.{inl, inr, refl, sym, subst, Bool}
use Rattle.sg_kinds.specs.Values.{Bytes}
use Rattle.sg_load.specs.Verdict.{Verdict}
use Rattle.sg_load.specs.Verdict.Verdict.{Refused, Accepted}
use Rattle.sg_load.specs.Only.{IsTheVerdict}
use Rattle.sg_outside.specs.Shelf.{ShelfState}
use Rattle.sg_outside.specs.Sink.{SinkState}
use Rattle.sg_replies.specs.declared.reply.Reply.{Reply}
use Rattle.sg_replies.specs.declared.reply.Reply.TheVariants.{Fetched, FetchFailed, Kept, KeepFailed}
use Rattle.sg_replies.specs.Requests.Request.{Fetch}
use Rattle.sg_replies.specs.Calls.{Replied}
use Rattle.sg_explain.specs.declared.ending.Ending.{Ending}
use Rattle.sg_explain.specs.declared.ending.Ending.TheVariants.{Done, Memory, Usage, ReadFault, SpecFault, SinkFault}
use Rattle.sg_explain.specs.declared.explaining.Explanation.{Explanation}
use Rattle.sg_explain.specs.Answers.{IsTold, ending_of}
use Rattle.sg_explain.specs.Runs.{IsAnswered, IsCause, IsPut, IsRun, IsSilent, read_fault_text}

silent_cause : (file : Bytes) (s s' : ShelfState) (old : SinkState) (ending : Ending) (new : SinkState) → IsSilent old ending new → IsCause file s s' old new ending
silent_cause file s s' old ending new silent = subst (IsCause file s s' old new) (sym silent.memory) tt

unread_cause : (file : Bytes) (s s' : ShelfState) (old : SinkState) (ending : Ending) (new : SinkState)
    → Replied (Fetch file 1048577) FetchFailed s s' → IsPut read_fault_text ReadFault old ending new → IsCause file s s' old new ending
unread_cause file s s' old Done new replied put = let is = put.ends tt in absurd (cc)
unread_cause file s s' old Memory new replied put = tt
unread_cause file s s' old Usage new replied put = let is = put.ends tt in absurd (cc)
unread_cause file s s' old ReadFault new replied put = replied.faults
unread_cause file s s' old SpecFault new replied put = let is = put.ends tt in absurd (cc)
unread_cause file s s' old SinkFault new replied put = put.rose refl

-- the verdict is one with which the run is meant to end so
judged_cause : (file : Bytes) (s s' : ShelfState) (old : SinkState) (ending : Ending) (new : SinkState) (bytes text : Bytes) (v : Verdict)
    → Replied (Fetch file 1048577) (Fetched bytes) s s' → IsTheVerdict bytes v → IsPut text (ending_of v) old ending new → IsCause file s s' old new ending
judged_cause file s s' old Done new bytes text (Refused f) replied is put = let same = put.ends tt in absurd (cc)
judged_cause file s s' old Done new bytes text (Accepted spec) replied is put = (spec, record { bytes = bytes; replied = replied; verdict = is })
judged_cause file s s' old Memory new bytes text v replied is put = tt
judged_cause file s s' old Usage new bytes text (Refused f) replied is put = let same = put.ends tt in absurd (cc)
judged_cause file s s' old Usage new bytes text (Accepted spec) replied is put = let same = put.ends tt in absurd (cc)
judged_cause file s s' old ReadFault new bytes text (Refused f) replied is put = let same = put.ends tt in absurd (cc)
judged_cause file s s' old ReadFault new bytes text (Accepted spec) replied is put = let same = put.ends tt in absurd (cc)
judged_cause file s s' old SpecFault new bytes text (Refused f) replied is put = (f, record { bytes = bytes; replied = replied; verdict = is })
judged_cause file s s' old SpecFault new bytes text (Accepted spec) replied is put = let same = put.ends tt in absurd (cc)
judged_cause file s s' old SinkFault new bytes text v replied is put = put.rose refl

told_cause : (planned : Bool) (file : Bytes) (s s' : ShelfState) (old : SinkState) (ending : Ending) (new : SinkState) (bytes : Bytes) (e : Explanation)
    → Replied (Fetch file 1048577) (Fetched bytes) s s' → IsTold planned file bytes e → IsPut e.text e.ending old ending new → IsCause file s s' old new ending
told_cause planned file s s' old ending new bytes e replied told put =
    judged_cause file s s' old ending new bytes e.text told.verdict replied told.is (subst (λ meant. IsPut e.text meant old ending new) told.ending put)

answered_cause : (planned : Bool) (file : Bytes) (s s' : ShelfState) (old : SinkState) (ending : Ending) (new : SinkState) (reply : Reply)
    → Replied (Fetch file 1048577) reply s s' → IsAnswered planned file reply old ending new → IsCause file s s' old new ending
answered_cause planned file s s' old ending new (Fetched bytes) replied (inl told) = told_cause planned file s s' old ending new bytes told.0 replied told.1 told.2
answered_cause planned file s s' old ending new (Fetched bytes) replied (inr silent) = silent_cause file s s' old ending new silent
answered_cause planned file s s' old ending new FetchFailed replied put = unread_cause file s s' old ending new replied put
answered_cause planned file s s' old ending new Kept replied put = let no = replied.kind in absurd (cc)
answered_cause planned file s s' old ending new KeepFailed replied put = let no = replied.kind in absurd (cc)

pub run_cause : (planned : Bool) (file : Bytes) (s s' : ShelfState) (old : SinkState) (ending : Ending) (new : SinkState) → IsRun planned file s s' old ending new → IsCause file s s' old new ending
run_cause planned file s s' old ending new (inl fetched) = answered_cause planned file s s' old ending new fetched.reply fetched.replied fetched.answered
run_cause planned file s s' old ending new (inr unfetched) = silent_cause file s s' old ending new unfetched.silent
