use Rattle.std.proofs.Common.{map, string_bytes, sym}
use Rattle.sg_output.specs.declared.status.Status.TheVariants.{Usage, ReadFault, SpecFault, ScriptFault, ReportFault}
use Rattle.sg_output.specs.Job.{job}
use Rattle.sg_output.specs.OutputOf.{output_of}
use Rattle.sg_output.proofs.Endings.{ends_with}
use Rattle.sg_output.proofs.Requests.{ran_whole}
use Rattle.sg_output.proofs.Opened.{read_with}
use Rattle.sg_output.proofs.CauseLaws.{right_of, usage_cause, read_cause, spec_cause, script_cause, report_cause, failed_rose, done_or_memory}
use Rattle.sg_run.proofs.running.run.Goals as goal

pub returns-clause-known : goal.returns-clause-known
returns-clause-known g c = read_with (job (map string_bytes c.args.words.now)) _ _ _ _ _ c.run_job.ensures.known c.status_of-status.ensures

pub returns-clause-ran : goal.returns-clause-ran
returns-clause-ran g c = λ r right. ran_whole (output_of (map string_bytes c.args.words.now) r) _ _ _ _ _ (c.run_job.ensures.played r right) c.status_of-status.ensures

pub returns-clause-usage : goal.returns-clause-usage
returns-clause-usage g c = λ is.
    let k = right_of _ _ _ _ _ (returns-clause-known g c) (λ m. cc) in
    usage_cause (job (map string_bytes c.args.words.now)) k.0 c.run_job.new.replies.items ((ends_with _ _ _ _ _ Usage (returns-clause-ran g c k.0 k.1).ends (sym is)).finished tt)

pub returns-clause-read_fault : goal.returns-clause-read_fault
returns-clause-read_fault g c = λ is.
    let k = right_of _ _ _ _ _ (returns-clause-known g c) (λ m. cc) in
    let e = ends_with _ _ _ _ _ ReadFault (returns-clause-ran g c k.0 k.1).ends (sym is) in
    let last = read_cause (job (map string_bytes c.args.words.now)) k.0 c.run_job.new.replies.items (e.finished tt) e.taken in
    (last, failed_rose c.run_job.new.replies.items _ _ last e.served.faults)

pub returns-clause-spec_fault : goal.returns-clause-spec_fault
returns-clause-spec_fault g c = λ is.
    let k = right_of _ _ _ _ _ (returns-clause-known g c) (λ m. cc) in
    spec_cause (job (map string_bytes c.args.words.now)) k.0 c.run_job.new.replies.items k.1 ((ends_with _ _ _ _ _ SpecFault (returns-clause-ran g c k.0 k.1).ends (sym is)).finished tt)

pub returns-clause-script_fault : goal.returns-clause-script_fault
returns-clause-script_fault g c = λ is.
    let k = right_of _ _ _ _ _ (returns-clause-known g c) (λ m. cc) in
    (script_cause (job (map string_bytes c.args.words.now)) k.0 c.run_job.new.replies.items ((ends_with _ _ _ _ _ ScriptFault (returns-clause-ran g c k.0 k.1).ends (sym is)).finished tt)).0

pub returns-clause-report_fault : goal.returns-clause-report_fault
returns-clause-report_fault g c = λ r right is.
    report_cause (job (map string_bytes c.args.words.now)) r c.run_job.new.replies.items ((ends_with _ _ _ _ _ ReportFault (returns-clause-ran g c r right).ends (sym is)).finished tt)

pub returns-clause-sink_fault : goal.returns-clause-sink_fault
returns-clause-sink_fault g c = λ is.
    let k = right_of _ _ _ _ _ (returns-clause-known g c) (λ m. cc) in
    (returns-clause-ran g c k.0 k.1).ends.sink_fault is

pub returns-clause-complete : goal.returns-clause-complete
returns-clause-complete g c = λ shelf sink some fit.
    done_or_memory (job (map string_bytes c.args.words.now)) c.run_job.new.replies.items c.status_of-status.result _ _ shelf sink some fit (returns-clause-known g c)
    (λ r right. (returns-clause-ran g c r right).ends)
