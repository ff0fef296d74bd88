-- The causes of a status follow from what the run tells
use Rattle.std.proofs.Common.{◌≡◌, ◌≢◌, ◌⊎◌, inl, inr, ℕ, suc, ◌≤◌, List, [], ◌∷◌, ◌++◌, Option, Some, None, IsSome, Result, Ok, Err, Bool, true, false, if◌then◌else◌, refl, sym, ap, ◌∙◌, subst, length, arith}
use Rattle.std.specs.Option.{option_map_or}
use Rattle.sg_outside.specs.Count.{Rose, raised, raised_by}
use Rattle.sg_kinds.specs.declared.spec.Spec.{Spec}
use Rattle.sg_load.specs.Verdict.{Verdict, IsVerdict}
use Rattle.sg_load.specs.Verdict.Verdict.{Refused, Accepted}
use Rattle.sg_replies.specs.declared.reply.Reply.{Reply}
use Rattle.sg_replies.specs.declared.reply.Reply.TheVariants.{Fetched, FetchFailed, Kept, KeepFailed}
use Rattle.sg_replies.specs.Requests.{Request, failures, fits}
use Rattle.sg_outside.specs.Shelf.{ShelfState}
use Rattle.sg_replies.proofs.Laws.{≤-raised_by}
use Rattle.sg_script.specs.declared.command.Command.{Command}
use Rattle.sg_script.specs.declared.fault.ScriptFault.{ScriptFault as NoScript}
use Rattle.sg_script.specs.Script.{script_of}
use Rattle.sg_editor.specs.Session as editor
use Rattle.sg_editor.specs.Session.{start}
use Rattle.sg_editor.specs.Ask.{Ask}
use Rattle.sg_editor.specs.Ask.Ask.{Tells, Asks}
use Rattle.sg_output.specs.declared.status.Status.{Status}
use Rattle.sg_output.specs.declared.status.Status.TheVariants.{Done, Memory, Usage, ReadFault, SpecFault, ScriptFault, SinkFault, ReportFault}
use Rattle.sg_output.specs.Job.{Job}
use Rattle.sg_output.specs.Job.Job.{Show, Check, Run, Load, Report}
use Rattle.sg_output.specs.Output.{Output, before, taking, unfinished, asked}
use Rattle.sg_output.specs.Session.{Desk, desk, telling, turn, asks, session}
use Rattle.sg_output.specs.OutputOf.{first_command, scanned, with_spec, with_script, shown, checked, performed, job_told}
use Rattle.sg_output.specs.Reading.{Reading, IsVerdictIn, IsTheReading, IsRightFor, IsTheReadingFor}
use Rattle.sg_output.specs.Work.{told_once, work_told}
use Rattle.sg_report.specs.Attrs.{attr_of}
use Rattle.sg_report.specs.Reports.{report_of}
use Rattle.sg_report.specs.declared.attrs.Named.{Named}
use Rattle.sg_report.specs.declared.answers.Report.{Report as IsReport}
use Rattle.sg_report.specs.declared.answers.ReportFault.{ReportFault as NoReport}
use Rattle.sg_report.specs.declared.answers.ReportFault.TheVariants.{NoAttribute}
use Rattle.sg_workload.specs.Lines.{lines_text}
use Rattle.sg_workload.specs.Loads.{work, work_line}
use Rattle.sg_output.specs.World.{World}
use Rattle.sg_output.specs.Ran.{Ends}
use Rattle.sg_output.specs.Causes.{IsRead, LastFailed, FirstFetched, SecondFetched, HasFault, HasNoFault, IsNoScript, IsScript, AreScripts, IsNoReport, IsReportRefused, AreReports, IsAccepted, IsSpecRefused, IsSpecAccepted, IsUnjudged}
use Rattle.sg_output.specs.Filed.{report_file, refusal, report_end, filed, reported}
use Rattle.sg_output.specs.Judged.{judged}
use Rattle.sg_editor.specs.Ask.{Readers}
use Rattle.sg_output.proofs.Opened.{reading_of, the_reading_is_right}

-- what is told never ends so
abbrev Never : Status → (List Reply → Output) → Type 0
Never status f = (replies : List Reply) → (f replies).status ≡ Some status → ⊥

-- commands end with Done or want a reply
asked_never : (status : Status) (b : Bool) (q : Request) (t : Output) → (t.status ≡ Some status → ⊥) → (if b then before (taking q) t else unfinished q).status ≡ Some status → ⊥
asked_never status true q t never e = never e
asked_never status false q t never e = cc

turn_never : (status : Status) (d : Desk) (next : editor.Session → List Reply → Output) (a : Ask) → ((s : editor.Session) → Never status (next s)) → Never status (turn d next a)
turn_never status d next (Tells step) never replies e = never step.session replies e
turn_never status d next (Asks request answer) never [] e = cc
turn_never status d next (Asks request answer) never (reply ∷ more) e =
    asked_never status (fits request reply) request (before (telling d (answer reply)) (next (answer reply).session more)) (never (answer reply).session more) e

session_never : (status : Status) → status ≢ Done → (d : Desk) (commands : List Command) (s : editor.Session) → Never status (session d s commands)
session_never status other d [] s replies e = other (cc)
session_never status other d (c ∷ commands) s replies e =
    turn_never status d (λ after more. session d after commands more) (asks d s c) (session_never status other d commands) replies e

checked_never : (status : Status) → status ≢ Done → (spec : Spec) → Never status (checked spec)
checked_never status other spec replies e = other (cc)

-- a workload ends with Done, or with the fault of its language
lines_never : (status : Status) → status ≢ Done → status ≢ SpecFault → (n : ℕ) (r : Readers) (v : Verdict)
    → (judged v (λ spec. told_once (work_line spec r n) (work spec r n))).status ≡ Some status → ⊥
lines_never status done fault n r (Refused f) e = fault (cc)
lines_never status done fault n r (Accepted spec) e = done (cc)

work_never : (status : Status) → status ≢ Done → status ≢ SpecFault → (n : ℕ) (r : Reading) → (work_told n r).status ≡ Some status → ⊥
work_never status done fault n r e = lines_never status done fault n r.readers r.verdict e

lines_refused : (n : ℕ) (r : Readers) (v : Verdict) → IsVerdict lines_text v → (judged v (λ spec. told_once (work_line spec r n) (work spec r n))).status ≡ Some SpecFault → HasFault lines_text
lines_refused n r (Refused f) right is = (f, right)
lines_refused n r (Accepted spec) right is = absurd (cc)

-- what never ends so after the specification
spec_never : (status : Status) → status ≢ SpecFault → status ≢ ReadFault → (next : Spec → List Reply → Output) (name : List ℕ) (v : Verdict) → ((spec : Spec) → Never status (next spec)) → Never status (with_spec next name v)
spec_never status fault read next name v never [] e = cc
spec_never status fault read next name (Refused f) never (Fetched bytes ∷ rest) e = fault (cc)
spec_never status fault read next name (Accepted spec) never (Fetched bytes ∷ rest) e = never spec rest e
spec_never status fault read next name v never (FetchFailed ∷ rest) e = read (cc)
spec_never status fault read next name v never (Kept ∷ rest) e = cc
spec_never status fault read next name v never (KeepFailed ∷ rest) e = cc

scanned_never : (status : Status) → status ≢ ScriptFault → (r : Result (List Command) NoScript) (next : List Command → Output) → ((commands : List Command) → (next commands).status ≡ Some status → ⊥)
    → (scanned r next).status ≡ Some status → ⊥
scanned_never status other (Ok commands) next never e = never commands e
scanned_never status other (Err f) next never e = other (cc)

script_never : (status : Status) → status ≢ ScriptFault → status ≢ ReadFault → (next : List Command → List Reply → Output) (name : List ℕ) → ((commands : List Command) → Never status (next commands))
    → Never status (with_script next name)
script_never status other read next name never [] e = cc
script_never status other read next name never (Fetched bytes ∷ rest) e = scanned_never status other (script_of bytes) (λ commands. next commands rest) (λ commands. never commands rest) e
script_never status other read next name never (FetchFailed ∷ rest) e = read (cc)
script_never status other read next name never (Kept ∷ rest) e = cc
script_never status other read next name never (KeepFailed ∷ rest) e = cc

-- a report ends with Done, or is refused, or its file is missing
end_never : (status : Status) → status ≢ Done → status ≢ ReportFault → (x : Result IsReport NoReport) → (report_end x).status ≡ Some status → ⊥
end_never status done refused (Ok r) e = done (cc)
end_never status done refused (Err f) e = refused (cc)

file_never : (status : Status) → status ≢ Done → status ≢ ReportFault → status ≢ ReadFault → (r : Readers) (spec : Spec) (a : Named) (file : List ℕ) → Never status (asked (report_file file) (filed r spec a))
file_never status done refused read r spec a file [] e = cc
file_never status done refused read r spec a file (Fetched bytes ∷ rest) e = end_never status done refused (report_of spec r.text r.file a bytes) e
file_never status done refused read r spec a file (FetchFailed ∷ rest) e = read (cc)
file_never status done refused read r spec a file (Kept ∷ rest) e = cc
file_never status done refused read r spec a file (KeepFailed ∷ rest) e = cc

report_never : (status : Status) → status ≢ Done → status ≢ ReportFault → status ≢ ReadFault → (file word : List ℕ) (r : Readers) (spec : Spec) → Never status (reported file word r spec)
report_never status done refused read file word r spec replies e = by (attr_of spec word) e
  where
    by : (o : Option Named) → (option_map_or (λ a. asked (report_file file) (filed r spec a) replies) o (refusal NoAttribute)).status ≡ Some status → ⊥
    by None e = refused (cc)
    by (Some a) e = file_never status done refused read r spec a file replies e

pub usage_cause : (j : Option Job) (r : Reading) (replies : List Reply) → (job_told j r replies).status ≡ Some Usage → j ≡ None
usage_cause None r replies is = refl
usage_cause (Some (Show name)) r replies is = absurd (spec_never Usage (λ e. cc) (λ e. cc) (shown r.readers) name r.verdict (λ spec. session_never Usage (λ e. cc) (desk spec 80 24 r.readers) first_command start) replies is)
usage_cause (Some (Check name)) r replies is = absurd (spec_never Usage (λ e. cc) (λ e. cc) checked name r.verdict (checked_never Usage (λ e. cc)) replies is)
usage_cause (Some (Load n)) r replies is = absurd (work_never Usage (λ e. cc) (λ e. cc) n r is)
usage_cause (Some (Report name file word)) r replies is =
    absurd (spec_never Usage (λ e. cc) (λ e. cc) (reported file word r.readers) name r.verdict (report_never Usage (λ e. cc) (λ e. cc) (λ e. cc) file word r.readers) replies is)
usage_cause (Some (Run name script w h)) r replies is =
    absurd (spec_never Usage (λ e. cc) (λ e. cc) (performed script w h r.readers) name r.verdict
    (λ spec. script_never Usage (λ e. cc) (λ e. cc) (session (desk spec w h r.readers) start) script (λ commands. session_never Usage (λ e. cc) (desk spec w h r.readers) commands start)) replies is)

-- what ends with a failed fetch, where no reply is left over
abbrev FailsLast : (List Reply → Output) → Type 0
FailsLast f = (replies : List Reply) → (f replies).status ≡ Some ReadFault → (f replies).taken ≡ length replies → LastFailed replies

later_failed : (reply : Reply) (rest : List Reply) → LastFailed rest → LastFailed (reply ∷ rest)
later_failed reply rest last = (reply ∷ last.0, ap (λ (rs : List Reply). reply ∷ rs) last.1)

never_fails : (f : List Reply → Output) → Never ReadFault f → FailsLast f
never_fails f never replies is all = absurd (never replies is)

spec_fails : (next : Spec → List Reply → Output) (name : List ℕ) (v : Verdict) → ((spec : Spec) → FailsLast (next spec)) → FailsLast (with_spec next name v)
spec_fails next name v fails [] is all = absurd (cc)
spec_fails next name (Refused f) fails (Fetched bytes ∷ rest) is all = absurd (cc)
spec_fails next name (Accepted spec) fails (Fetched bytes ∷ rest) is all = later_failed (Fetched bytes) rest (fails spec rest is (omega (arith, all)))
spec_fails next name v fails (FetchFailed ∷ []) is all = ([], refl)
spec_fails next name v fails (FetchFailed ∷ more ∷ rest) is all = absurd (omega (arith, all))
spec_fails next name v fails (Kept ∷ rest) is all = absurd (cc)
spec_fails next name v fails (KeepFailed ∷ rest) is all = absurd (cc)

script_fails : (next : List Command → List Reply → Output) (name : List ℕ) → ((commands : List Command) → Never ReadFault (next commands)) → FailsLast (with_script next name)
script_fails next name never [] is all = absurd (cc)
script_fails next name never (Fetched bytes ∷ rest) is all =
    absurd (scanned_never ReadFault (λ e. cc) (script_of bytes) (λ commands. next commands rest) (λ commands. never commands rest) is)
script_fails next name never (FetchFailed ∷ []) is all = ([], refl)
script_fails next name never (FetchFailed ∷ more ∷ rest) is all = absurd (omega (arith, all))
script_fails next name never (Kept ∷ rest) is all = absurd (cc)
script_fails next name never (KeepFailed ∷ rest) is all = absurd (cc)

file_fails : (r : Readers) (spec : Spec) (a : Named) (file : List ℕ) → FailsLast (asked (report_file file) (filed r spec a))
file_fails r spec a file [] is all = absurd (cc)
file_fails r spec a file (Fetched bytes ∷ rest) is all = absurd (end_never ReadFault (λ e. cc) (λ e. cc) (report_of spec r.text r.file a bytes) is)
file_fails r spec a file (FetchFailed ∷ []) is all = ([], refl)
file_fails r spec a file (FetchFailed ∷ more ∷ rest) is all = absurd (omega (arith, all))
file_fails r spec a file (Kept ∷ rest) is all = absurd (cc)
file_fails r spec a file (KeepFailed ∷ rest) is all = absurd (cc)

-- what is told of an attribute, or of none
abbrev told_by : Readers → Spec → List ℕ → List Reply → Option Named → Output
told_by r spec file replies o = option_map_or (λ a. asked (report_file file) (filed r spec a) replies) o (refusal NoAttribute)

report_fails : (file word : List ℕ) (r : Readers) (spec : Spec) → FailsLast (reported file word r spec)
report_fails file word r spec replies is all = by (attr_of spec word) is all
  where
    by : (o : Option Named) → (told_by r spec file replies o).status ≡ Some ReadFault → (told_by r spec file replies o).taken ≡ length replies → LastFailed replies
    by None is all = absurd (cc)
    by (Some a) is all = file_fails r spec a file replies is all

pub read_cause : (j : Option Job) (r : Reading) (replies : List Reply) → (job_told j r replies).status ≡ Some ReadFault → (job_told j r replies).taken ≡ length replies → LastFailed replies
read_cause None r replies is all = absurd (cc)
read_cause (Some (Show name)) r replies is all =
    spec_fails (shown r.readers) name r.verdict (λ spec. never_fails (shown r.readers spec) (session_never ReadFault (λ e. cc) (desk spec 80 24 r.readers) first_command start)) replies is all
read_cause (Some (Check name)) r replies is all = spec_fails checked name r.verdict (λ spec. never_fails (checked spec) (checked_never ReadFault (λ e. cc) spec)) replies is all
read_cause (Some (Load n)) r replies is all = absurd (work_never ReadFault (λ e. cc) (λ e. cc) n r is)
read_cause (Some (Report name file word)) r replies is all = spec_fails (reported file word r.readers) name r.verdict (report_fails file word r.readers) replies is all
read_cause (Some (Run name script w h)) r replies is all =
    spec_fails (performed script w h r.readers) name r.verdict
    (λ spec. script_fails (session (desk spec w h r.readers) start) script (λ commands. session_never ReadFault (λ e. cc) (desk spec w h r.readers) commands start)) replies is all

-- a fault of the specification that was fetched
spec_refused : (next : Spec → List Reply → Output) (name : List ℕ) (v : Verdict) (replies : List Reply) → ((spec : Spec) → Never SpecFault (next spec)) → IsVerdictIn replies v
    → (with_spec next name v replies).status ≡ Some SpecFault → FirstFetched replies HasFault
spec_refused next name v [] never right is = absurd (cc)
spec_refused next name (Refused f) (Fetched bytes ∷ rest) never right is = (bytes, rest, refl, (f, right bytes rest refl))
spec_refused next name (Accepted spec) (Fetched bytes ∷ rest) never right is = absurd (never spec rest is)
spec_refused next name v (FetchFailed ∷ rest) never right is = absurd (cc)
spec_refused next name v (Kept ∷ rest) never right is = absurd (cc)
spec_refused next name v (KeepFailed ∷ rest) never right is = absurd (cc)

pub spec_cause : (j : Option Job) (r : Reading) (replies : List Reply) → IsRightFor j replies r → (job_told j r replies).status ≡ Some SpecFault → IsSpecRefused j replies
spec_cause None r replies right is = absurd (cc)
spec_cause (Some (Show name)) r replies right is =
    spec_refused (shown r.readers) name r.verdict replies (λ spec. session_never SpecFault (λ e. cc) (desk spec 80 24 r.readers) first_command start) right.verdict is
spec_cause (Some (Check name)) r replies right is = spec_refused checked name r.verdict replies (checked_never SpecFault (λ e. cc)) right.verdict is
spec_cause (Some (Load n)) r replies right is = lines_refused n r.readers r.verdict right.verdict is
spec_cause (Some (Report name file word)) r replies right is =
    spec_refused (reported file word r.readers) name r.verdict replies (report_never SpecFault (λ e. cc) (λ e. cc) (λ e. cc) file word r.readers) right.verdict is
spec_cause (Some (Run name script w h)) r replies right is =
    spec_refused (performed script w h r.readers) name r.verdict replies
    (λ spec. script_never SpecFault (λ e. cc) (λ e. cc) (session (desk spec w h r.readers) start) script (λ commands. session_never SpecFault (λ e. cc) (desk spec w h r.readers) commands start)) right.verdict is

-- a fault of the script that was fetched second
no_script : (r : Result (List Command) NoScript) (next : List Command → Output) → ((commands : List Command) → (next commands).status ≡ Some ScriptFault → ⊥) → (scanned r next).status ≡ Some ScriptFault
    → (f : NoScript) × (r ≡ Err f)
no_script (Ok commands) next never is = absurd (never commands is)
no_script (Err f) next never is = (f, refl)

script_stops : (next : List Command → List Reply → Output) (name : List ℕ) (replies : List Reply) → ((commands : List Command) → Never ScriptFault (next commands))
    → (with_script next name replies).status ≡ Some ScriptFault → FirstFetched replies IsNoScript
script_stops next name [] never is = absurd (cc)
script_stops next name (Fetched bytes ∷ rest) never is = (bytes, rest, refl, no_script (script_of bytes) (λ commands. next commands rest) (λ commands. never commands rest) is)
script_stops next name (FetchFailed ∷ rest) never is = absurd (cc)
script_stops next name (Kept ∷ rest) never is = absurd (cc)
script_stops next name (KeepFailed ∷ rest) never is = absurd (cc)

-- what follows the specification stops so
spec_stops : (next : Spec → List Reply → Output) (name : List ℕ) (v : Verdict) (replies : List Reply) (P : List Reply → Type 0) → ((spec : Spec) (rest : List Reply) → (next spec rest).status ≡ Some ScriptFault → P rest)
    → (with_spec next name v replies).status ≡ Some ScriptFault → (first : Reply) × (rest : List Reply) × (replies ≡ first ∷ rest) × P rest
spec_stops next name v [] P stops is = absurd (cc)
spec_stops next name (Refused f) (Fetched bytes ∷ rest) P stops is = absurd (cc)
spec_stops next name (Accepted spec) (Fetched bytes ∷ rest) P stops is = (Fetched bytes, rest, refl, stops spec rest is)
spec_stops next name v (FetchFailed ∷ rest) P stops is = absurd (cc)
spec_stops next name v (Kept ∷ rest) P stops is = absurd (cc)
spec_stops next name v (KeepFailed ∷ rest) P stops is = absurd (cc)

second : (replies : List Reply) (first : Reply) (rest : List Reply) (P : List ℕ → Type 0) → replies ≡ first ∷ rest → FirstFetched rest P → SecondFetched replies P
second replies first rest P e f = (first, f.0, f.1, e ∙ ap (λ (rs : List Reply). first ∷ rs) f.2, f.3)

no_scripts : (P : List Reply → Type 0) (f : List Reply → Output) → Never ScriptFault f → (rest : List Reply) → (f rest).status ≡ Some ScriptFault → P rest
no_scripts P f never rest is = absurd (never rest is)

-- only where a script is performed
pub script_cause : (j : Option Job) (r : Reading) (replies : List Reply) → (job_told j r replies).status ≡ Some ScriptFault → SecondFetched replies IsNoScript × (AreScripts j replies → ⊥)
script_cause None r replies is = absurd (cc)
script_cause (Some (Show name)) r replies is =
    absurd ((spec_stops (shown r.readers) name r.verdict replies (λ rest. ⊥) (λ spec. session_never ScriptFault (λ e. cc) (desk spec 80 24 r.readers) first_command start) is).3)
script_cause (Some (Check name)) r replies is = absurd ((spec_stops checked name r.verdict replies (λ rest. ⊥) (checked_never ScriptFault (λ e. cc)) is).3)
script_cause (Some (Load n)) r replies is = absurd (work_never ScriptFault (λ e. cc) (λ e. cc) n r is)
script_cause (Some (Report name file word)) r replies is =
    absurd ((spec_stops (reported file word r.readers) name r.verdict replies (λ rest. ⊥) (report_never ScriptFault (λ e. cc) (λ e. cc) (λ e. cc) file word r.readers) is).3)
script_cause (Some (Run name script w h)) r replies is =
    let s = spec_stops (performed script w h r.readers) name r.verdict replies (λ rest. FirstFetched rest IsNoScript)
    (λ spec rest. script_stops (session (desk spec w h r.readers) start) script rest (λ commands. session_never ScriptFault (λ e. cc) (desk spec w h r.readers) commands start)) is in
    let t : SecondFetched replies IsNoScript = second replies s.0 s.1 IsNoScript s.2 s.3 in
    (t, λ are. let good : IsScript t.1 = are t.0 t.1 t.2 t.3 in let bad = t.4.1 in let fine = good.1 in cc)

-- only where a report is refused
no_report : (x : Result IsReport NoReport) → (report_end x).status ≡ Some ReportFault → (f : NoReport) × (x ≡ Err f)
no_report (Ok r) is = absurd (cc)
no_report (Err f) is = (f, refl)

file_stops : (r : Reading) (spec : Spec) (a : Named) (file : List ℕ) (replies : List Reply) → (asked (report_file file) (filed r.readers spec a) replies).status ≡ Some ReportFault → FirstFetched replies (IsNoReport r spec a)
file_stops r spec a file [] is = absurd (cc)
file_stops r spec a file (Fetched bytes ∷ rest) is = (bytes, rest, refl, no_report (report_of spec r.readers.text r.readers.file a bytes) is)
file_stops r spec a file (FetchFailed ∷ rest) is = absurd (cc)
file_stops r spec a file (Kept ∷ rest) is = absurd (cc)
file_stops r spec a file (KeepFailed ∷ rest) is = absurd (cc)

report_stops : (file word name : List ℕ) (r : Reading) (v : Verdict) (replies : List Reply) → r.verdict ≡ v → (with_spec (reported file word r.readers) name v replies).status ≡ Some ReportFault
    → IsReportRefused (Some (Report name file word)) r replies
report_stops file word name r v [] same is = absurd (cc)
report_stops file word name r (Refused f) (Fetched bytes ∷ rest) same is = absurd (cc)
report_stops file word name r (Accepted spec) (Fetched bytes ∷ rest) same is = (spec, same, by (attr_of spec word) refl is)
  where
    by : (o : Option Named) → attr_of spec word ≡ o → (option_map_or (λ a. asked (report_file file) (filed r.readers spec a) rest) o (refusal NoAttribute)).status ≡ Some ReportFault
        → (attr_of spec word ≡ None) ⊎ ((a : Named) × (attr_of spec word ≡ Some a) × SecondFetched (Fetched bytes ∷ rest) (IsNoReport r spec a))
    by None e is = inl e
    by (Some a) e is = inr (a, e, second (Fetched bytes ∷ rest) (Fetched bytes) rest (IsNoReport r spec a) refl (file_stops r spec a file rest is))
report_stops file word name r v (FetchFailed ∷ rest) same is = absurd (cc)
report_stops file word name r v (Kept ∷ rest) same is = absurd (cc)
report_stops file word name r v (KeepFailed ∷ rest) same is = absurd (cc)

pub report_cause : (j : Option Job) (r : Reading) (replies : List Reply) → (job_told j r replies).status ≡ Some ReportFault → IsReportRefused j r replies
report_cause None r replies is = absurd (cc)
report_cause (Some (Show name)) r replies is =
    absurd (spec_never ReportFault (λ e. cc) (λ e. cc) (shown r.readers) name r.verdict (λ spec. session_never ReportFault (λ e. cc) (desk spec 80 24 r.readers) first_command start) replies is)
report_cause (Some (Check name)) r replies is = absurd (spec_never ReportFault (λ e. cc) (λ e. cc) checked name r.verdict (checked_never ReportFault (λ e. cc)) replies is)
report_cause (Some (Load n)) r replies is = absurd (work_never ReportFault (λ e. cc) (λ e. cc) n r is)
report_cause (Some (Run name script w h)) r replies is =
    absurd (spec_never ReportFault (λ e. cc) (λ e. cc) (performed script w h r.readers) name r.verdict
    (λ spec. script_never ReportFault (λ e. cc) (λ e. cc) (session (desk spec w h r.readers) start) script (λ commands. session_never ReportFault (λ e. cc) (desk spec w h r.readers) commands start)) replies is)
report_cause (Some (Report name file word)) r replies is = report_stops file word name r r.verdict replies refl is

failures_last : (front : List Reply) → failures (front ++ FetchFailed ∷ []) ≡ suc (failures front)
failures_last [] = omega arith
failures_last (r ∷ front) = let e = failures_last front in omega (arith, e)

-- a failed fetch was counted
pub failed_rose : (replies : List Reply) (old new : ℕ) → LastFailed replies → raised_by (failures replies) old ≤ new → Rose old new
failed_rose replies old new last counted =
    let some : failures replies ≡ suc (failures last.0) = ap failures last.1 ∙ failures_last last.0 in
    let more : raised_by (failures last.0) (raised old) ≤ new = subst (λ n. raised_by n old ≤ new) some counted in
    let grown : raised old ≤ raised_by (failures last.0) (raised old) = ≤-raised_by (failures last.0) (raised old) (omega arith) in
    omega (arith, more, grown)

-- the only reading for a job is right
pub the_reading_is_right_for : (j : Option Job) (replies : List Reply) (r : Reading) → IsTheReadingFor j replies r → IsRightFor j replies r
the_reading_is_right_for (Some (Load n)) replies r the = record { verdict = the.verdict.is; readers = the.readers }
the_reading_is_right_for None replies r the = the_reading_is_right replies r the
the_reading_is_right_for (Some (Show name)) replies r the = the_reading_is_right replies r the
the_reading_is_right_for (Some (Check name)) replies r the = the_reading_is_right replies r the
the_reading_is_right_for (Some (Run name script w h)) replies r the = the_reading_is_right replies r the
the_reading_is_right_for (Some (Report name file word)) replies r the = the_reading_is_right replies r the

-- nothing failed but what the shelf counted
unjudged_failures : (job : Job) (replies : List Reply) (status : Status) (old new : World) → IsUnjudged job old replies status new → raised_by (failures replies) old.shelf.faults ≤ new.shelf.faults
unjudged_failures (Load n) replies status old new u =
    let some : failures replies ≡ 0 = ap failures u.none in
    let same = ap (λ (s : ShelfState). s.faults) u.shelf in
    subst (λ k. raised_by k old.shelf.faults ≤ new.shelf.faults) (sym some) (omega (arith, same))
unjudged_failures (Show name) replies status old new u = u.served.faults
unjudged_failures (Check name) replies status old new u = u.served.faults
unjudged_failures (Run name script w h) replies status old new u = u.served.faults
unjudged_failures (Report name file word) replies status old new u = u.served.faults

-- each failure was counted
pub failures_counted : (j : Option Job) (replies : List Reply) (status : Status) (old new : World) → IsRead j old replies status new
    → ((r : Reading) → IsRightFor j replies r → Ends old (job_told j r replies) replies status new) → raised_by (failures replies) old.shelf.faults ≤ new.shelf.faults
failures_counted j replies status old new (inl k) ends = (ends k.0 (the_reading_is_right_for j replies k.0 k.1)).served.faults
failures_counted j replies status old new (inr q) ends = unjudged_failures q.0 replies status old new q.2

-- a specification with a fault is not accepted
fetched_apart : (r : Reading) (replies : List Reply) → IsTheReading replies r → FirstFetched replies HasFault
    → ((bytes : List ℕ) (rest : List Reply) → replies ≡ Fetched bytes ∷ rest → HasNoFault bytes) → ⊥
fetched_apart r replies the f fit =
    let good : HasNoFault f.0 = fit f.0 f.1 f.2 in
    let verdict = the.verdict f.0 f.1 f.2 in
    let bad = verdict.only (Refused f.3.0) f.3.1 in
    let fine = verdict.only (Accepted good.0) good.1 in
    cc

not_accepted : (j : Option Job) (r : Reading) (replies : List Reply) → IsTheReadingFor j replies r → IsSpecRefused j replies → IsSpecAccepted j replies → ⊥
not_accepted (Some (Load n)) r replies the f good =
    let bad = the.verdict.only (Refused f.0) f.1 in
    let fine = the.verdict.only (Accepted good.0) good.1 in
    cc
not_accepted None r replies the f fit = fetched_apart r replies the f fit
not_accepted (Some (Show name)) r replies the f fit = fetched_apart r replies the f fit
not_accepted (Some (Check name)) r replies the f fit = fetched_apart r replies the f fit
not_accepted (Some (Run name script w h)) r replies the f fit = fetched_apart r replies the f fit
not_accepted (Some (Report name file word)) r replies the f fit = fetched_apart r replies the f fit

-- neither is a file of which there is no report
not_reported : (j : Option Job) (r : Reading) (replies : List Reply) → IsRightFor j replies r → IsReportRefused j r replies → AreReports j replies → ⊥
not_reported None r replies right f fit = f
not_reported (Some (Show name)) r replies right f fit = f
not_reported (Some (Check name)) r replies right f fit = f
not_reported (Some (Run name script w h)) r replies right f fit = f
not_reported (Some (Load n)) r replies right f fit = f
not_reported (Some (Report name file word)) r replies right f fit = fit r right f

-- the job is done, or there was not enough memory
pub done_or_memory : (j : Option Job) (replies : List Reply) (status : Status) (old new : World)
    → (Rose old.shelf.faults new.shelf.faults → ⊥) → (Rose old.sink.faults new.sink.faults → ⊥) → IsSome j → IsAccepted j replies → IsRead j old replies status new
    → ((r : Reading) → IsRightFor j replies r → Ends old (job_told j r replies) replies status new) → (status ≡ Done) ⊎ (status ≡ Memory)
done_or_memory j replies status old new shelf sink some fit read ends = decide status read ends
  where
    reading : (s : Status) → s ≢ Memory → IsRead j old replies s new → (r : Reading) × IsTheReadingFor j replies r
    reading s other k = reading_of j old new replies s k other

    decide : (s : Status) → IsRead j old replies s new → ((r : Reading) → IsRightFor j replies r → Ends old (job_told j r replies) replies s new) → (s ≡ Done) ⊎ (s ≡ Memory)
    decide Done k e = inl refl
    decide Memory k e = inr refl
    decide SinkFault k e = let r = reading SinkFault (λ m. cc) k in absurd (sink ((e r.0 (the_reading_is_right_for j replies r.0 r.1)).sink_fault refl))
    decide Usage k e =
        let r = reading Usage (λ m. cc) k in
        let none = usage_cause j r.0 replies ((e r.0 (the_reading_is_right_for j replies r.0 r.1)).finished tt) in absurd (cc)
    decide ReadFault k e =
        let r = reading ReadFault (λ m. cc) k in
        let end = e r.0 (the_reading_is_right_for j replies r.0 r.1) in
        absurd (shelf (failed_rose replies old.shelf.faults new.shelf.faults (read_cause j r.0 replies (end.finished tt) end.taken) end.served.faults))
    decide SpecFault k e =
        let r = reading SpecFault (λ m. cc) k in
        let right = the_reading_is_right_for j replies r.0 r.1 in
        absurd (not_accepted j r.0 replies r.1 (spec_cause j r.0 replies right ((e r.0 right).finished tt)) fit.spec)
    decide ScriptFault k e =
        let r = reading ScriptFault (λ m. cc) k in
        absurd ((script_cause j r.0 replies ((e r.0 (the_reading_is_right_for j replies r.0 r.1)).finished tt)).1 fit.script)
    decide ReportFault k e =
        let r = reading ReportFault (λ m. cc) k in
        let right = the_reading_is_right_for j replies r.0 r.1 in
        absurd (not_reported j r.0 replies right (report_cause j r.0 replies ((e r.0 right).finished tt)) fit.report)

-- where memory was not wanting, there is a right reading
pub right_of : (asked : Option Job) (old new : World) (replies : List Reply) (status : Status) → IsRead asked old replies status new → status ≢ Memory → (r : Reading) × IsRightFor asked replies r
right_of asked old new replies status k other = let r = reading_of asked old new replies status k other in (r.0, the_reading_is_right_for asked replies r.0 r.1)
