-- The causes of a status, by the replies
use Rattle.std.specs.Prelude.{◌≡◌, ◌⊎◌, ℕ, List, [], ◌∷◌, ◌++◌, Option, Some, None, Ok, Err, ⊤}
use Rattle.sg_kinds.specs.declared.spec.Spec.{Spec}
use Rattle.sg_kinds.specs.declared.fault.SpecFault.{SpecFault}
use Rattle.sg_replies.specs.declared.reply.Reply.{Reply}
use Rattle.sg_replies.specs.declared.reply.Reply.TheVariants.{Fetched, FetchFailed}
use Rattle.sg_replies.specs.Calls.{Served}
use Rattle.sg_script.specs.declared.command.Command.{Command}
use Rattle.sg_script.specs.declared.fault.ScriptFault.{ScriptFault}
use Rattle.sg_script.specs.Script.{script_of}
use Rattle.sg_load.specs.Verdict.{IsVerdict}
use Rattle.sg_load.specs.Verdict.Verdict.{Refused, Accepted}
use Rattle.sg_output.specs.declared.status.Status.{Status}
use Rattle.sg_output.specs.declared.status.Status.TheVariants.{Memory}
use Rattle.sg_workload.specs.Lines.{lines_text}
use Rattle.sg_report.specs.Attrs.{attr_of}
use Rattle.sg_report.specs.Reports.{report_of}
use Rattle.sg_report.specs.declared.attrs.Named.{Named}
use Rattle.sg_report.specs.declared.answers.ReportFault.{ReportFault as NoReport}
use Rattle.sg_output.specs.Job.{Job, spec_name}
use Rattle.sg_output.specs.Job.Job.{Run, Load, Report}
use Rattle.sg_output.specs.OutputOf.{whole_file}
use Rattle.sg_output.specs.Reading.{Reading, IsRight, IsTheReading, IsTheReadingFor}
use Rattle.sg_output.specs.World.{World}

-- memory was wanting before there was a verdict: the specification of that name was fetched, and nothing was written or
-- evaluated
pub record Unjudged (name : List ℕ) (old : World) (replies : List Reply) (status : Status) (new : World) : Type 0 where
  pub memory : status ≡ Memory
  pub bytes : List ℕ
  pub fetched : replies ≡ Fetched bytes ∷ []
  pub served : Served old.shelf (whole_file name ∷ []) replies new.shelf
  pub sink : new.sink ≡ old.sink
  pub counted : new.counted ≡ old.counted

-- there is a reading, whose verdict is the only one, or memory was wanting before there was one
abbrev pub IsReadOf : List ℕ → World → List Reply → Status → World → Type 0
IsReadOf name old replies status new =
    ((r : Reading) × IsTheReading replies r) ⊎ Unjudged name old replies status new

-- the same of the built-in specification, which is not fetched
pub record IsUnopened (old : World) (replies : List Reply) (status : Status) (new : World) : Type 0 where
  pub memory : status ≡ Memory
  pub none : replies ≡ []
  pub shelf : new.shelf ≡ old.shelf
  pub sink : new.sink ≡ old.sink
  pub counted : new.counted ≡ old.counted

-- the same of the specification of this job
abbrev pub IsUnjudged : Job → World → List Reply → Status → World → Type 0
IsUnjudged (Load n) old replies status new = IsUnopened old replies status new
IsUnjudged job old replies status new = Unjudged (spec_name job) old replies status new

abbrev pub IsRead : Option Job → World → List Reply → Status → World → Type 0
IsRead asked old replies status new = ((r : Reading) × IsTheReadingFor asked replies r)
    ⊎ ((job : Job) × (asked ≡ Some job) × IsUnjudged job old replies status new)

-- the last reply is a failed fetch
abbrev pub LastFailed : List Reply → Type 0
LastFailed replies = (front : List Reply) × (replies ≡ front ++ FetchFailed ∷ [])

-- the first reply brought bytes of which P holds; the second did
abbrev pub FirstFetched : List Reply → (List ℕ → Type 0) → Type 0
FirstFetched replies P = (bytes : List ℕ) × (rest : List Reply) × (replies ≡ Fetched bytes ∷ rest) × P bytes

abbrev pub SecondFetched : List Reply → (List ℕ → Type 0) → Type 0
SecondFetched replies P =
    (first : Reply) × (bytes : List ℕ) × (rest : List Reply) × (replies ≡ first ∷ Fetched bytes ∷ rest) × P bytes

-- a specification with a fault; one without
abbrev pub HasFault : List ℕ → Type 0
HasFault bytes = (f : SpecFault) × IsVerdict bytes (Refused f)

abbrev pub HasNoFault : List ℕ → Type 0
HasNoFault bytes = (spec : Spec) × IsVerdict bytes (Accepted spec)

-- the specification of a job has a fault
abbrev pub IsSpecRefused : Option Job → List Reply → Type 0
IsSpecRefused (Some (Load n)) replies = HasFault lines_text
IsSpecRefused job replies = FirstFetched replies HasFault

-- a text that is no script; one that is
abbrev pub IsNoScript : List ℕ → Type 0
IsNoScript bytes = (f : ScriptFault) × (script_of bytes ≡ Err f)

abbrev pub IsScript : List ℕ → Type 0
IsScript bytes = (commands : List Command) × (script_of bytes ≡ Ok commands)

-- what was fetched second is a script, where one is to be performed
abbrev pub AreScripts : Option Job → List Reply → Type 0
AreScripts (Some (Run name script width height)) replies =
    (first : Reply) (bytes : List ℕ) (rest : List Reply) → replies ≡ first ∷ Fetched bytes ∷ rest → IsScript bytes
AreScripts job replies = ⊤

-- what was fetched first, or the built-in text of a workload, is a specification without a fault
abbrev pub IsSpecAccepted : Option Job → List Reply → Type 0
IsSpecAccepted (Some (Load n)) replies = HasNoFault lines_text
IsSpecAccepted job replies = (bytes : List ℕ) (rest : List Reply) → replies ≡ Fetched bytes ∷ rest → HasNoFault bytes

-- a file of which there is no report by a reading
abbrev pub IsNoReport : Reading → Spec → Named → List ℕ → Type 0
IsNoReport r spec a bytes = (f : NoReport) × (report_of spec r.readers.text r.readers.file a bytes ≡ Err f)

-- by a reading there is no such attribute, or no report of the file that was fetched second
abbrev pub IsReportRefused : Option Job → Reading → List Reply → Type 0
IsReportRefused (Some (Report name file word)) r replies = (spec : Spec) × (r.verdict ≡ Accepted spec)
    × ((attr_of spec word ≡ None)
    ⊎ ((a : Named) × (attr_of spec word ≡ Some a) × SecondFetched replies (IsNoReport r spec a)))
IsReportRefused job r replies = ⊥

-- what is reported is refused by no right reading
abbrev pub AreReports : Option Job → List Reply → Type 0
AreReports (Some (Report name file word)) replies =
    (r : Reading) → IsRight replies r → IsReportRefused (Some (Report name file word)) r replies → ⊥
AreReports job replies = ⊤

-- all three
pub record IsAccepted (job : Option Job) (replies : List Reply) : Type 0 where
  pub spec : IsSpecAccepted job replies
  pub script : AreScripts job replies
  pub report : AreReports job replies
