-- The output of a run as a function of its words and of the shelf's replies
use Rattle.std.specs.Prelude.{ℕ, List, [], ◌∷◌, ◌++◌, Option, Some, None, Result, Ok, Err, codes}
use Rattle.std.specs.Fmt.{decimal}
use Rattle.sg_kinds.specs.declared.spec.Spec.{Spec}
use Rattle.sg_load.specs.Verdict.{Verdict}
use Rattle.sg_replies.specs.declared.reply.Reply.{Reply}
use Rattle.sg_replies.specs.declared.reply.Reply.TheVariants.{Fetched, FetchFailed, Kept, KeepFailed}
use Rattle.sg_replies.specs.Requests.{Request}
use Rattle.sg_replies.specs.Requests.Request.{Fetch}
use Rattle.sg_script.specs.declared.command.Command.{Command}
use Rattle.sg_script.specs.declared.command.Command.TheVariants.{New}
use Rattle.sg_script.specs.declared.fault.ScriptFault.{ScriptFault as NoScript}
use Rattle.sg_script.specs.declared.fault.ScriptFault.TheVariants.{Long, Line, Many, NoMemory}
use Rattle.sg_script.specs.Script.{script_of}
use Rattle.sg_editor.specs.Ask.{Readers}
use Rattle.sg_editor.specs.Session.{start}
use Rattle.sg_output.specs.declared.status.Status.TheVariants.{Done, Usage, ReadFault, ScriptFault}
use Rattle.sg_output.specs.Job.{Job, job}
use Rattle.sg_output.specs.Job.Job.{Show, Check, Run, Load, Report}
use Rattle.sg_output.specs.Reading.{Reading}
pub use Rattle.sg_output.specs.Judged.{fault_told, judged}
use Rattle.sg_output.specs.Output.{Output, text, asked}
use Rattle.sg_output.specs.Work.{work_told}
use Rattle.sg_output.specs.Filed.{reported}
use Rattle.sg_output.specs.Session.{desk, session}

-- where the words are no job
abbrev pub usage_text : List ℕ
usage_text = codes "usage: ssled show SPEC | run SPEC SCRIPT [W H] | check SPEC | load N | report SPEC FILE ATTR"
    ++ 10 ∷ []

-- where the specification cannot be fetched; where the script cannot be
abbrev pub read_fault_text : List ℕ
read_fault_text = codes "read fault specification" ++ 10 ∷ []

abbrev pub script_missing_text : List ℕ
script_missing_text = codes "read fault script" ++ 10 ∷ []

-- where the specification has no fault
abbrev pub ok_text : List ℕ
ok_text = codes "ok" ++ 10 ∷ []

-- why a text is no script
abbrev pub script_fault_text : NoScript → List ℕ
script_fault_text Long = codes "script long" ++ 10 ∷ []
script_fault_text (Line n) = codes "script line " ++ decimal n ++ 10 ∷ []
script_fault_text (Many n) = codes "script many " ++ decimal n ++ 10 ∷ []
script_fault_text NoMemory = []

-- what follows with the commands, unless the script is not in its form
abbrev pub scanned : Result (List Command) NoScript → (List Command → Output) → Output
scanned (Ok commands) next = next commands
scanned (Err fault) next = text ScriptFault (script_fault_text fault)

-- after the reply to the fetch of the specification, whose verdict this is
abbrev pub opened : (Spec → List Reply → Output) → Verdict → Reply → List Reply → Output
opened next v (Fetched bytes) replies = judged v (λ spec. next spec replies)
opened next v FetchFailed replies = text ReadFault read_fault_text
opened next v Kept replies = text ReadFault read_fault_text
opened next v KeepFailed replies = text ReadFault read_fault_text

-- after the reply to the fetch of the script
abbrev pub scripted : (List Command → List Reply → Output) → Reply → List Reply → Output
scripted next (Fetched bytes) replies = scanned (script_of bytes) (λ commands. next commands replies)
scripted next FetchFailed replies = text ReadFault script_missing_text
scripted next Kept replies = text ReadFault script_missing_text
scripted next KeepFailed replies = text ReadFault script_missing_text

-- the fetch of a specification or of a script, to one byte over its limit
abbrev pub whole_file : List ℕ → Request
whole_file name = Fetch name 1048577

-- the fetch of the specification, and what follows
abbrev pub with_spec : (Spec → List Reply → Output) → List ℕ → Verdict → List Reply → Output
with_spec next name v = asked (whole_file name) (opened next v)

-- the fetch of the script, and what follows
abbrev pub with_script : (List Command → List Reply → Output) → List ℕ → List Reply → Output
with_script next script = asked (whole_file script) (scripted next)

-- what follows once the specification is accepted: the one command `new main` in a window of 80 by 24; that it has no
-- fault; the commands of the script
abbrev pub first_command : List Command
first_command = New (codes "main") ∷ []

abbrev pub shown : Readers → Spec → List Reply → Output
shown readers spec = session (desk spec 80 24 readers) start first_command

abbrev pub checked : Spec → List Reply → Output
checked spec replies = text Done ok_text

abbrev pub performed : List ℕ → ℕ → ℕ → Readers → Spec → List Reply → Output
performed script width height readers spec =
    with_script (session (desk spec width height readers) start) script

-- to do a job, or to refuse the words
abbrev pub job_told : Option Job → Reading → List Reply → Output
job_told None r replies = text Usage usage_text
job_told (Some (Show name)) r replies = with_spec (shown r.readers) name r.verdict replies
job_told (Some (Check name)) r replies = with_spec checked name r.verdict replies
job_told (Some (Run name script width height)) r replies =
    with_spec (performed script width height r.readers) name r.verdict replies
job_told (Some (Load n)) r replies = work_told n r
job_told (Some (Report name file word)) r replies = with_spec (reported file word r.readers) name r.verdict replies

-- what a run of these words tells where the shelf gives these replies, and the texts among them are read so
abbrev pub output_of : List (List ℕ) → Reading → List Reply → Output
output_of words = job_told (job words)
