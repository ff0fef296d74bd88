-- A run of a script as the session that it performs, and a run that is refused as the line that says why
use Rattle.std.specs.Prelude.{◌≡◌, ◌⊎◌, ◌+◌, ℕ, List, [], ◌∷◌, ◌++◌, flat_map, length, map, sum, Some, Ok, ⊤}
use Rattle.sg_kinds.specs.declared.fault.SpecFault.{SpecFault as AFault}
use Rattle.sg_kinds.specs.declared.spec.Spec.{Spec}
use Rattle.sg_faults.specs.FaultLine.{fault_line}
use Rattle.sg_load.specs.Verdict.{IsVerdict}
use Rattle.sg_load.specs.Verdict.Verdict.{Accepted, Refused}
use Rattle.sg_outside.specs.Count.{tallied}
use Rattle.sg_outside.specs.Sink.{appended}
use Rattle.sg_replies.specs.Calls.{Served}
use Rattle.sg_replies.specs.Requests.{Request}
use Rattle.sg_replies.specs.declared.reply.Reply.{Reply}
use Rattle.sg_replies.specs.declared.reply.Reply.TheVariants.{Fetched}
use Rattle.sg_report.specs.Attrs.{attr_of}
use Rattle.sg_report.specs.Reports.{report_of}
use Rattle.sg_report.specs.declared.answers.Report.{Report}
use Rattle.sg_report.specs.declared.answers.ReportFault.{ReportFault as NoReport}
use Rattle.sg_report.specs.declared.attrs.Named.{Named}
use Rattle.sg_script.specs.Script.{script_of}
use Rattle.sg_script.specs.declared.command.Command.{Command}
use Rattle.sg_script.specs.declared.fault.ScriptFault.{ScriptFault as NoScript}
use Rattle.sg_editor.specs.Ask.{Step}
use Rattle.sg_editor.specs.Screen.{screen}
use Rattle.sg_editor.specs.Session.{Session, start}
use Rattle.sg_editor.specs.Steps.{Comes, requests_of}
use Rattle.sg_workload.specs.Lines.{lines_text}
use Rattle.sg_workload.specs.Loads.{work, work_line}
use Rattle.sg_output.specs.Filed.{file_missing_text, report_fault_text, report_file}
use Rattle.sg_output.specs.OutputOf.{first_command, ok_text, read_fault_text, script_fault_text, script_missing_text, usage_text, whole_file}
use Rattle.sg_output.specs.Reading.{Reading}
use Rattle.sg_output.specs.Session.{Desk, asks, desk}
use Rattle.sg_output.specs.World.{World}
use Rattle.sg_output.specs.declared.status.Status.{Status}
use Rattle.sg_output.specs.declared.status.Status.TheVariants.{Done, Memory, Usage, ReadFault, SpecFault, ScriptFault, SinkFault, ReportFault}

-- a command of a session, the replies of the shelf to what it asked, and the step that it came to
pub record Act : Type 0 where
  pub command : Command
  pub got : List Reply
  pub step : Step

-- how many equations it evaluated
abbrev pub evaluations : Act → ℕ
evaluations a = length a.step.set

-- the replies to all of them
abbrev pub replies_in : List Act → List Reply
replies_in acts = flat_map (λ a. a.got) acts

module _ (d : Desk) where
  -- each comes to its step in the session that the one before it left
  abbrev pub AreActs : Session → List Act → Type 0
  AreActs s [] = ⊤
  AreActs s (a ∷ acts) = Comes (asks d s a.command) a.got a.step × AreActs a.step.session acts

  -- what they ask of the shelf, in turn
  abbrev pub requests_in : Session → List Act → List Request
  requests_in s [] = []
  requests_in s (a ∷ acts) = requests_of (asks d s a.command) ++ requests_in a.step.session acts

  -- the screen after one of them
  abbrev pub screen_after : Act → List ℕ
  screen_after a = screen d.spec d.width d.height a.step.session a.step.message (evaluations a)

-- these commands were performed in turn, in a session of their own
pub record ArePerformed (d : Desk) (commands : List Command) (acts : List Act) : Type 0 where
  pub named : map (λ (a : Act). a.command) acts ≡ commands
  pub follow : AreActs d start acts

-- a run that did no more than acts behind requests of its own, whose replies come first: their screens were written,
-- each by one put, the shelf served these requests and theirs in turn, and so many equations were evaluated
pub record Did (d : Desk) (acts : List Act) (requests : List Request) (replies : List Reply)
    (old : World) (got : List Reply) (new : World) : Type 0 where
  pub written : new.sink.written ≡ appended old.sink.written (flat_map (screen_after d) acts)
  pub puts : new.sink.puts ≡ tallied (length acts) old.sink.puts
  pub replied : got ≡ replies ++ replies_in acts
  pub served : Served old.shelf (requests ++ requests_in d start acts) got new.shelf
  pub evaluated : new.counted ≡ old.counted + sum (map evaluations acts)

-- the specification that was fetched first is accepted
pub record IsFetchedSpec (bytes : List ℕ) (r : Reading) : Type 0 where
  pub spec : Spec
  pub verdict : r.verdict ≡ Accepted spec
  pub right : IsVerdict bytes (Accepted spec)

-- a script of a right form, on an accepted specification, was performed
pub record IsSession (name script : List ℕ) (width height : ℕ) (r : Reading)
    (old : World) (got : List Reply) (new : World) : Type 0 where
  pub bytes : List ℕ
  pub fetched : IsFetchedSpec bytes r
  pub text : List ℕ
  pub commands : List Command
  pub in_form : script_of text ≡ Ok commands
  pub acts : List Act
  pub performed : ArePerformed (desk fetched.spec width height r.readers) commands acts
  pub did : Did (desk fetched.spec width height r.readers) acts (whole_file name ∷ whole_file script ∷ [])
      (Fetched bytes ∷ Fetched text ∷ []) old got new

-- the one command of the first screen was, in a window of 80 by 24
pub record IsFirstScreen (name : List ℕ) (r : Reading) (old : World) (got : List Reply) (new : World) : Type 0 where
  pub bytes : List ℕ
  pub fetched : IsFetchedSpec bytes r
  pub acts : List Act
  pub performed : ArePerformed (desk fetched.spec 80 24 r.readers) first_command acts
  pub did : Did (desk fetched.spec 80 24 r.readers) acts (whole_file name ∷ []) (Fetched bytes ∷ []) old got new

-- a run that put one block, for which so many equations were evaluated, behind these requests and replies alone
pub record PutOnce (block : List ℕ) (evaluations : ℕ) (requests : List Request) (replies : List Reply)
    (old : World) (got : List Reply) (new : World) : Type 0 where
  pub written : new.sink.written ≡ appended old.sink.written block
  pub puts : new.sink.puts ≡ tallied 1 old.sink.puts
  pub replied : got ≡ replies
  pub served : Served old.shelf requests got new.shelf
  pub evaluated : new.counted ≡ old.counted + evaluations

-- that the specification has no fault was told
pub record IsChecked (name : List ℕ) (r : Reading) (old : World) (got : List Reply) (new : World) : Type 0 where
  pub bytes : List ℕ
  pub fetched : IsFetchedSpec bytes r
  pub put : PutOnce ok_text 0 (whole_file name ∷ []) (Fetched bytes ∷ []) old got new

-- the line of a workload was told, as the built-in language is accepted
pub record IsWorked (count : ℕ) (r : Reading) (old : World) (got : List Reply) (new : World) : Type 0 where
  pub spec : Spec
  pub verdict : r.verdict ≡ Accepted spec
  pub right : IsVerdict lines_text (Accepted spec)
  pub put : PutOnce (work_line spec r.readers count) (work spec r.readers count) [] [] old got new

-- the report of the attribute of a word was told, of the file that was fetched behind an accepted specification
pub record IsReported (name file word : List ℕ) (r : Reading) (old : World) (got : List Reply) (new : World) : Type 0 where
  pub bytes : List ℕ
  pub fetched : IsFetchedSpec bytes r
  pub asked : Named
  pub named : attr_of fetched.spec word ≡ Some asked
  pub text : List ℕ
  pub report : Report
  pub right : report_of fetched.spec r.readers.text r.readers.file asked text ≡ Ok report
  pub put : PutOnce report.lines report.evaluated (whole_file name ∷ report_file file ∷ [])
      (Fetched bytes ∷ Fetched text ∷ []) old got new

-- a line says why a run of such a status did not do its job
abbrev pub SaysWhy : Reading → Status → List ℕ → Type 0
SaysWhy r Done line = ⊥
SaysWhy r Memory line = ⊥
SaysWhy r SinkFault line = ⊥
SaysWhy r Usage line = line ≡ usage_text
SaysWhy r ReadFault line = (line ≡ read_fault_text) ⊎ ((line ≡ script_missing_text) ⊎ (line ≡ file_missing_text))
SaysWhy r SpecFault line = (f : AFault) × (r.verdict ≡ Refused f) × (line ≡ fault_line f)
SaysWhy r ScriptFault line = (f : NoScript) × (line ≡ script_fault_text f)
SaysWhy r ReportFault line = (f : NoReport) × (line ≡ report_fault_text f)

-- a run that wrote such a line by one put, and nothing else; no file was kept, and nothing evaluated
pub record IsRefusal (r : Reading) (old : World) (status : Status) (new : World) : Type 0 where
  pub line : List ℕ
  pub why : SaysWhy r status line
  pub written : new.sink.written ≡ appended old.sink.written line
  pub puts : new.sink.puts ≡ tallied 1 old.sink.puts
  pub files : new.shelf.files ≡ old.shelf.files
  pub evaluated : new.counted ≡ old.counted
