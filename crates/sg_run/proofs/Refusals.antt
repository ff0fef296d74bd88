-- A run that came to an end of its own and is not done wrote the line that says why.
use Rattle.std.specs.Prelude.{◌≡◌, refl, ◌+◌, ℕ, Bool, true, false, if◌then◌else◌, List, [], ◌∷◌, length, sum, Option, None, Some, Result, Ok, Err, ⊤}
use Rattle.std.specs.Option.{option_map_or}
use Rattle.std.proofs.Common.{sym, ap, ◌∙◌, subst, inl, inr, arith, append-nil}
use Rattle.std.proofs.lemmas.Option.{none-some, same_Some}
use Rattle.sg_kinds.specs.declared.spec.Spec.{Spec}
use Rattle.sg_load.specs.Verdict.{Verdict}
use Rattle.sg_load.specs.Verdict.Verdict.{Accepted, Refused}
use Rattle.sg_outside.specs.Count.{tallied}
use Rattle.sg_outside.specs.Shelf.{KnownFiles}
use Rattle.sg_outside.specs.Sink.{appended}
use Rattle.sg_replies.specs.Requests.{Request, Fetch, Keep, Serves, fits}
use Rattle.sg_replies.specs.declared.reply.Reply.{Reply}
use Rattle.sg_replies.specs.declared.reply.Reply.TheVariants.{Fetched, FetchFailed, Kept, KeepFailed}
use Rattle.sg_report.specs.Attrs.{attr_of}
use Rattle.sg_report.specs.Reports.{report_of}
use Rattle.sg_report.specs.declared.answers.Report.{Report}
use Rattle.sg_report.specs.declared.answers.ReportFault.{ReportFault as NoReport}
use Rattle.sg_report.specs.declared.answers.ReportFault.TheVariants.{NoAttribute}
use Rattle.sg_report.specs.declared.attrs.Named.{Named}
use Rattle.sg_script.specs.Script.{script_of}
use Rattle.sg_script.specs.declared.command.Command.{Command}
use Rattle.sg_script.specs.declared.fault.ScriptFault.{ScriptFault as NoScript}
use Rattle.sg_editor.specs.Ask.{Ask, Tells, Asks}
use Rattle.sg_editor.specs.Session.{Session}
use Rattle.sg_output.specs.Filed.{filed, refusal, report_end, report_file, reported}
use Rattle.sg_output.specs.Job.{Job}
use Rattle.sg_output.specs.Job.Job.{Show, Check, Run, Load, Report as Reports}
use Rattle.sg_output.specs.Output.{Output, asked, before, joined, taking, text, unfinished}
use Rattle.sg_output.specs.OutputOf.{first_command, job_told, judged, opened, read_fault_text, scanned, script_missing_text, scripted, usage_text}
use Rattle.sg_output.specs.Ran.{IsWhole}
use Rattle.sg_output.specs.Reading.{Reading}
use Rattle.sg_output.specs.Session.{Desk, asks, desk, session, telling, turn}
use Rattle.sg_output.specs.World.{World}
use Rattle.sg_output.specs.declared.status.Status.{Status}
use Rattle.sg_output.specs.declared.status.Status.TheVariants.{Done, Usage, ReadFault, SpecFault, ScriptFault, ReportFault}
use Rattle.sg_run.specs.Sessions.{IsRefusal, SaysWhy}

-- a request that keeps nothing
abbrev pub IsFetch : Request → Type 0
IsFetch (Fetch name most) = ⊤
IsFetch (Keep name bytes) = ⊥

abbrev pub AreFetches : List Request → Type 0
AreFetches [] = ⊤
AreFetches (q ∷ requests) = IsFetch q × AreFetches requests

-- what is told is one such line
pub record IsLine (r : Reading) (status : Status) (t : Output) : Type 0 where
  pub line : List ℕ
  pub why : SaysWhy r status line
  pub blocks : t.blocks ≡ line ∷ []
  pub evs : t.evs ≡ []
  pub fetches : AreFetches t.requests

-- replies to fetches change no file
same_files : (requests : List Request) → AreFetches requests → (old : KnownFiles) (got : List Reply) (new : KnownFiles) → Serves old requests got new → new ≡ old
same_files [] all old [] new serves = serves
same_files [] all old (reply ∷ replies) new serves = absurd serves
same_files (Keep name bytes ∷ requests) all old got new serves = absurd all.0
same_files (Fetch name most ∷ []) all old [] new serves = serves
same_files (Fetch name most ∷ q ∷ requests) all old [] new serves = absurd serves
same_files (Fetch name most ∷ []) all old (reply ∷ replies) new serves = same_files [] all.1 old replies new serves.2
same_files (Fetch name most ∷ q ∷ requests) all old (reply ∷ replies) new serves = same_files (q ∷ requests) all.1 old replies new serves.2

-- a session whose status is told is done
turn_ends : (status : Status) (d : Desk) (commands : List Command) → ((s : Session) (got : List Reply) → (session d s commands got).status ≡ Some status → status ≡ Done)
    → (a : Ask) (got : List Reply) → (turn d (λ after more. session d after commands more) a got).status ≡ Some status → status ≡ Done
turn_ends status d commands rest (Tells step) got is = rest step.session got is
turn_ends status d commands rest (Asks request answer) [] is = absurd (none-some status is)
turn_ends status d commands rest (Asks request answer) (reply ∷ more) is = by (fits request reply) is
  where
    by : (b : Bool) → (if b then before (taking request) (before (telling d (answer reply)) (session d (answer reply).session commands more)) else unfinished request).status ≡ Some status → status ≡ Done
    by true is = rest (answer reply).session more is
    by false is = absurd (none-some status is)

ends : (status : Status) (d : Desk) (commands : List Command) (s : Session) (got : List Reply) → (session d s commands got).status ≡ Some status → status ≡ Done
ends status d [] s got is = sym (same_Some Done status is)
ends status d (c ∷ commands) s got is = turn_ends status d commands (ends status d commands) (asks d s c) got is

module _ (r : Reading) (status : Status) where
  -- of an output that ends so
  abbrev Says : Output → Type 0
  Says t = t.status ≡ Some status → IsLine r status t

  text_says : (why : Status) (bytes : List ℕ) → SaysWhy r why bytes → Says (text why bytes)
  text_says why bytes says is = record { line = bytes; why = subst (λ s. SaysWhy r s bytes) (same_Some why status is) says; blocks = refl; evs = refl; fetches = tt }

  asked_says : (name : List ℕ) (most : ℕ) (next : Reply → List Reply → Output) (got : List Reply) → ((reply : Reply) (more : List Reply) → Says (next reply more)) → Says (asked (Fetch name most) next got)
  asked_says name most next [] each is = absurd (none-some status is)
  asked_says name most next (reply ∷ more) each is = by (fits (Fetch name most) reply) is
    where
      by : (b : Bool) → (if b then before (taking (Fetch name most)) (next reply more) else unfinished (Fetch name most)).status ≡ Some status
          → IsLine r status (if b then before (taking (Fetch name most)) (next reply more) else unfinished (Fetch name most))
      by true is = let it = each reply more is in record { line = it.line; why = it.why; blocks = it.blocks; evs = it.evs; fetches = (tt, it.fetches) }
      by false is = absurd (none-some status is)

  judged_says : (next : Spec → Output) → ((spec : Spec) → Says (next spec)) → Says (judged r.verdict next)
  judged_says next each = by r.verdict refl
    where
      by : (v : Verdict) → r.verdict ≡ v → Says (judged v next)
      by (Refused f) verdict = text_says SpecFault _ (f, verdict, refl)
      by (Accepted spec) verdict = each spec

  opened_says : (next : Spec → List Reply → Output) → ((spec : Spec) (more : List Reply) → Says (next spec more)) → (reply : Reply) (more : List Reply) → Says (opened next r.verdict reply more)
  opened_says next each (Fetched bytes) more = judged_says (λ spec. next spec more) (λ spec. each spec more)
  opened_says next each FetchFailed more = text_says ReadFault read_fault_text (inl refl)
  opened_says next each Kept more = text_says ReadFault read_fault_text (inl refl)
  opened_says next each KeepFailed more = text_says ReadFault read_fault_text (inl refl)

  -- a run that is not done
  module _ (other : status ≡ Done → ⊥) where
    done_says : (t : Output) → t.status ≡ Some Done → Says t
    done_says t done is = absurd (other (same_Some status Done (sym is ∙ done)))

    session_says : (d : Desk) (commands : List Command) (s : Session) (got : List Reply) → Says (session d s commands got)
    session_says d commands s got is = absurd (other (ends status d commands s got is))

    scanned_says : (next : List Command → Output) → ((commands : List Command) → Says (next commands)) → (x : Result (List Command) NoScript) → Says (scanned x next)
    scanned_says next each (Ok commands) = each commands
    scanned_says next each (Err f) = text_says ScriptFault _ (f, refl)

    scripted_says : (next : List Command → List Reply → Output) → ((commands : List Command) (more : List Reply) → Says (next commands more)) → (reply : Reply) (more : List Reply) → Says (scripted next reply more)
    scripted_says next each (Fetched bytes) more = scanned_says (λ commands. next commands more) (λ commands. each commands more) (script_of bytes)
    scripted_says next each FetchFailed more = text_says ReadFault script_missing_text (inr (inl refl))
    scripted_says next each Kept more = text_says ReadFault script_missing_text (inr (inl refl))
    scripted_says next each KeepFailed more = text_says ReadFault script_missing_text (inr (inl refl))

    report_says : (x : Result Report NoReport) → Says (report_end x)
    report_says (Ok x) = done_says (report_end (Ok x)) refl
    report_says (Err f) = text_says ReportFault _ (f, refl)

    filed_says : (spec : Spec) (a : Named) (reply : Reply) (more : List Reply) → Says (filed r.readers spec a reply more)
    filed_says spec a (Fetched bytes) more = report_says (report_of spec r.readers.text r.readers.file a bytes)
    filed_says spec a FetchFailed more = text_says ReadFault _ (inr (inr refl))
    filed_says spec a Kept more = text_says ReadFault _ (inr (inr refl))
    filed_says spec a KeepFailed more = text_says ReadFault _ (inr (inr refl))

    reported_says : (file word : List ℕ) (spec : Spec) (got : List Reply) → Says (reported file word r.readers spec got)
    reported_says file word spec got = by (attr_of spec word)
      where
        by : (o : Option Named) → Says (option_map_or (λ a. asked (report_file file) (filed r.readers spec a) got) o (refusal NoAttribute))
        by None = text_says ReportFault _ (NoAttribute, refl)
        by (Some a) = asked_says file 4194305 (filed r.readers spec a) got (filed_says spec a)

    pub job_says : (j : Option Job) (got : List Reply) → Says (job_told j r got)
    job_says None got = text_says Usage usage_text refl
    job_says (Some (Show name)) got =
        asked_says name 1048577 _ got (opened_says _ (λ spec more. session_says (desk spec 80 24 r.readers) first_command _ more))
    job_says (Some (Check name)) got = asked_says name 1048577 _ got (opened_says _ (λ spec more. done_says _ refl))
    job_says (Some (Run name script width height)) got =
        asked_says name 1048577 _ got (opened_says _ (λ spec more.
        asked_says script 1048577 _ more (scripted_says _ (λ commands later. session_says (desk spec width height r.readers) commands _ later))))
    job_says (Some (Load n)) got = judged_says _ (λ spec. done_says _ refl)
    job_says (Some (Reports name file word)) got = asked_says name 1048577 _ got (opened_says _ (λ spec more. reported_says file word spec more))

    pub refused : (j : Option Job) (old new : World) (got : List Reply) → IsWhole (job_told j r got) old got status new → IsRefusal r old status new
    refused j old new got whole = by (job_told j r got) (job_says j got whole.finished) whole
      where
        by : (t : Output) → IsLine r status t → IsWhole t old got status new → IsRefusal r old status new
        by t it whole = record {
          line = it.line;
          why = it.why;
          written = whole.bytes ∙ ap (λ bs. appended old.sink.written (joined bs)) it.blocks ∙ ap (appended old.sink.written) (append-nil it.line);
          puts = whole.puts ∙ ap (λ (bs : List (List ℕ)). tallied (length bs) old.sink.puts) it.blocks;
          files = same_files t.requests it.fetches old.shelf.files got new.shelf.files whole.requests.files;
          evaluated = let e = whole.evaluated ∙ ap (λ (es : List ℕ). old.counted + sum es) it.evs in omega (arith, e);
        }
