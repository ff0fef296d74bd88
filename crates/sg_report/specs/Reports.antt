-- The report of a file, or the first refusal.
use Rattle.std.specs.Prelude.{Result, Ok, Err}
use Rattle.std.specs.Option.{option_map_or}
use Rattle.sg_kinds.specs.Values.{Bytes}
use Rattle.sg_kinds.specs.declared.spec.Spec.{Spec}
use Rattle.sg_commands.specs.Turn.{Reads}
use Rattle.sg_report.specs.Attrs.{attr_in}
use Rattle.sg_report.specs.Found.{Opens, and_then, term_read}
use Rattle.sg_report.specs.Lines.{report_on}
use Rattle.sg_report.specs.declared.answers.Report.{Report}
use Rattle.sg_report.specs.declared.answers.ReportFault.{ReportFault}
use Rattle.sg_report.specs.declared.answers.ReportFault.TheVariants as fault
use Rattle.sg_report.specs.declared.attrs.Named.{Named}

-- of an attribute
unfoldable pub report_of : Spec → Reads → Opens → Named → Bytes → Result Report ReportFault
report_of spec reads opens a bytes = and_then (λ t. Ok (report_on spec t a)) (term_read spec reads opens bytes)

-- of that of two names
abbrev pub report_by : Spec → Reads → Opens → Bytes → Bytes → Bytes → Result Report ReportFault
report_by spec reads opens phylum name bytes =
    option_map_or (λ a. report_of spec reads opens a bytes) (attr_in spec phylum name) (Err fault.NoAttribute)
