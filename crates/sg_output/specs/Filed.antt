-- What the job of a report tells
use Rattle.std.specs.Prelude.{ℕ, List, [], ◌∷◌, ◌++◌, Result, Ok, Err, codes}
use Rattle.std.specs.Option.{option_map_or}
use Rattle.std.specs.Fmt.{decimal}
use Rattle.sg_kinds.specs.declared.spec.Spec.{Spec}
use Rattle.sg_replies.specs.declared.reply.Reply.{Reply}
use Rattle.sg_replies.specs.declared.reply.Reply.TheVariants.{Fetched, FetchFailed, Kept, KeepFailed}
use Rattle.sg_replies.specs.Requests.{Request}
use Rattle.sg_replies.specs.Requests.Request.{Fetch}
use Rattle.sg_script.specs.Message.{kind_text}
use Rattle.sg_editor.specs.Ask.{Readers}
use Rattle.sg_report.specs.Attrs.{attr_of}
use Rattle.sg_report.specs.Reports.{report_of}
use Rattle.sg_report.specs.declared.attrs.Named.{Named}
use Rattle.sg_report.specs.declared.answers.Report.{Report}
use Rattle.sg_report.specs.declared.answers.ReportFault.{ReportFault as NoReport}
use Rattle.sg_report.specs.declared.answers.ReportFault.TheVariants.{NoAttribute, Long, Form, Phylum, Size, NoEntry, Byte, Lexical, Parse, Outcome, NoMemory}
use Rattle.sg_output.specs.declared.status.Status.TheVariants.{ReadFault, ReportFault}
use Rattle.sg_output.specs.Output.{Output, text, asked}
use Rattle.sg_output.specs.Work.{told_once}

-- the fetch of the file, to one byte over the limit
abbrev pub report_file : List ℕ → Request
report_file name = Fetch name 4194305

-- where the file cannot be fetched
abbrev pub file_missing_text : List ℕ
file_missing_text = codes "read fault file" ++ 10 ∷ []

-- why there is no report
abbrev pub report_fault_text : NoReport → List ℕ
report_fault_text NoAttribute = codes "report no attribute" ++ 10 ∷ []
report_fault_text Long = codes "report long file" ++ 10 ∷ []
report_fault_text (Form k) = codes "report form at " ++ decimal k ++ 10 ∷ []
report_fault_text (Phylum k) = codes "report phylum at " ++ decimal k ++ 10 ∷ []
report_fault_text Size = codes "report size" ++ 10 ∷ []
report_fault_text NoEntry = codes "report no entry" ++ 10 ∷ []
report_fault_text (Byte k) = codes "report byte at " ++ decimal k ++ 10 ∷ []
report_fault_text (Lexical k) = codes "report lexical at " ++ decimal k ++ 10 ∷ []
report_fault_text (Parse k) = codes "report parse at " ++ decimal k ++ 10 ∷ []
report_fault_text (Outcome kind) = codes "report result " ++ kind_text kind ++ 10 ∷ []
report_fault_text NoMemory = []

-- a refusal ends the run; so does a report, whose lines are one block
abbrev pub refusal : NoReport → Output
refusal f = text ReportFault (report_fault_text f)

abbrev pub report_end : Result Report NoReport → Output
report_end (Ok r) = told_once r.lines r.evaluated
report_end (Err f) = refusal f

-- after the reply to the fetch of the file
abbrev pub filed : Readers → Spec → Named → Reply → List Reply → Output
filed readers spec a (Fetched bytes) replies = report_end (report_of spec readers.text readers.file a bytes)
filed readers spec a FetchFailed replies = text ReadFault file_missing_text
filed readers spec a Kept replies = text ReadFault file_missing_text
filed readers spec a KeepFailed replies = text ReadFault file_missing_text

-- the fetch of the file, and what follows, unless the word names no attribute
abbrev pub reported : List ℕ → List ℕ → Readers → Spec → List Reply → Output
reported file word readers spec replies =
    option_map_or (λ a. asked (report_file file) (filed readers spec a) replies) (attr_of spec word) (refusal NoAttribute)
