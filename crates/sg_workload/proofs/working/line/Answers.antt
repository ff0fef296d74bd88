use Rattle.std.proofs.Common.{◌≡◌, ◌≢◌, ◌∙◌, sym, ap, subst, refl, inl, inr, ◌+◌}
use Rattle.sg_kinds.specs.Values.{Bytes}
use Rattle.sg_kinds.specs.declared.spec.Spec.{Spec}
use Rattle.sg_kinds.specs.declared.fault.SpecFault.TheVariants.{NoMemory}
use Rattle.sg_eval.specs.Journal.{counted}
use Rattle.sg_load.specs.Only.{IsTheVerdict}
use Rattle.sg_load.specs.Verdict.Verdict.{Refused, Accepted}
use Rattle.sg_workload.specs.Lines.{lines_text}
use Rattle.sg_editor.specs.Ask.{Readers, AreReaders}
use Rattle.sg_workload.specs.Loads.{worked, work, work_line}
use Rattle.sg_workload.specs.Performed.{AreCut, IsLinesAccepted}
use Rattle.sg_workload.proofs.Ending.{on_err, no_line, fault_is, memory_alone, cut_before, one_spec, the_lines}
use Rattle.sg_workload.proofs.working.line.Goals as goal

pub returns-in_err-loaded-clause-line : goal.returns-in_err-loaded-clause-line
returns-in_err-loaded-clause-line c = λ spec r is right.
    no_line (λ s. s.items ≡ work_line spec r c.args.count) c.in_err-loaded.field-0.0 c.from_residual.result c.from_residual.ensures.1

pub returns-in_err-loaded-clause-evaluated : goal.returns-in_err-loaded-clause-evaluated
returns-in_err-loaded-clause-evaluated c = λ spec r is right.
    no_line (λ s. counted c.args.journal.now ≡ counted c.args.journal.now + work spec r c.args.count) c.in_err-loaded.field-0.0 c.from_residual.result c.from_residual.ensures.1

pub returns-in_err-loaded-clause-cut : goal.returns-in_err-loaded-clause-cut
returns-in_err-loaded-clause-cut c = λ spec r is right.
    on_err c.from_residual.result (cut_before (worked spec r c.args.count) (counted c.args.journal.now) (counted c.args.journal.now) refl)

pub returns-in_err-loaded-clause-accepted : goal.returns-in_err-loaded-clause-accepted
returns-in_err-loaded-clause-accepted c = no_line (λ s. IsLinesAccepted) c.in_err-loaded.field-0.0 c.from_residual.result c.from_residual.ensures.1

pub returns-in_err-loaded-clause-fault : goal.returns-in_err-loaded-clause-fault
returns-in_err-loaded-clause-fault c =
    fault_is (λ f. f ≢ NoMemory → IsTheVerdict lines_text (Refused f)) c.in_err-loaded.field-0.0 c.from_residual.result c.from_residual.ensures.1
    (λ some. the_lines c.lines.result.now lines_text (Refused c.in_err-loaded.field-0.0) c.lines.ensures (c.in_err-loaded.ensures.refused some))

pub returns-in_err-loaded-clause-quiet : goal.returns-in_err-loaded-clause-quiet
returns-in_err-loaded-clause-quiet c =
    fault_is (λ f. f ≢ NoMemory → counted c.args.journal.now ≡ counted c.args.journal.now) c.in_err-loaded.field-0.0 c.from_residual.result c.from_residual.ensures.1 (λ some. refl)

pub returns-in_err-loaded-clause-known : goal.returns-in_err-loaded-clause-known
returns-in_err-loaded-clause-known c = on_err c.from_residual.result (inr refl)

accepted_in : (bytes : Bytes) (spec : Spec) → bytes ≡ lines_text → IsTheVerdict bytes (Accepted spec) → (r : Readers) × AreReaders spec r → IsLinesAccepted
accepted_in bytes spec same the read = record {
  spec = spec;
  verdict = the_lines bytes lines_text (Accepted spec) same the;
  readers = read.0;
  read = read.1;
}

pub returns-in_err-work_alone-clause-line : goal.returns-in_err-work_alone-clause-line
returns-in_err-work_alone-clause-line c = λ spec r is right.
    no_line (λ s. s.items ≡ work_line spec r c.args.count) NoMemory c.from_residual-in_err-work_alone.result c.from_residual-in_err-work_alone.ensures.1

pub returns-in_err-work_alone-clause-evaluated : goal.returns-in_err-work_alone-clause-evaluated
returns-in_err-work_alone-clause-evaluated c = λ spec r is right.
    no_line (λ s. counted c.work_alone.new.journal ≡ counted c.args.journal.now + work spec r c.args.count) NoMemory c.from_residual-in_err-work_alone.result c.from_residual-in_err-work_alone.ensures.1

pub returns-in_err-work_alone-clause-cut : goal.returns-in_err-work_alone-clause-cut
returns-in_err-work_alone-clause-cut c = λ spec r is right.
    let e : spec ≡ c.in_ok-loaded.loaded.spec = one_spec c.lines.result.now lines_text c.in_ok-loaded.loaded.spec spec c.lines.ensures c.in_ok-loaded.ensures.accepted is in
    on_err c.from_residual-in_err-work_alone.result
    (subst (λ (s : Spec). AreCut (worked s r c.args.count) (counted c.args.journal.now) (counted c.work_alone.new.journal)) (sym e)
    (c.in_err-work_alone.ensures.cut r (subst (λ (s : Spec). AreReaders s r) e right)))

pub returns-in_err-work_alone-clause-fault : goal.returns-in_err-work_alone-clause-fault
returns-in_err-work_alone-clause-fault c =
    memory_alone (λ f. IsTheVerdict lines_text (Refused f)) c.from_residual-in_err-work_alone.result c.from_residual-in_err-work_alone.ensures.1

pub returns-in_err-work_alone-clause-quiet : goal.returns-in_err-work_alone-clause-quiet
returns-in_err-work_alone-clause-quiet c =
    memory_alone (λ f. counted c.work_alone.new.journal ≡ counted c.args.journal.now) c.from_residual-in_err-work_alone.result c.from_residual-in_err-work_alone.ensures.1

pub returns-in_err-work_alone-clause-accepted : goal.returns-in_err-work_alone-clause-accepted
returns-in_err-work_alone-clause-accepted c =
    no_line (λ s. IsLinesAccepted) NoMemory c.from_residual-in_err-work_alone.result c.from_residual-in_err-work_alone.ensures.1

pub returns-in_err-work_alone-clause-known : goal.returns-in_err-work_alone-clause-known
returns-in_err-work_alone-clause-known c = on_err c.from_residual-in_err-work_alone.result
    (inl (accepted_in c.lines.result.now c.in_ok-loaded.loaded.spec c.lines.ensures c.in_ok-loaded.ensures.accepted c.tell_readers.ensures))

pub returns : goal.returns
returns c =
    let loaded = c.in_ok-loaded.loaded in
    let the = c.in_ok-loaded.ensures.accepted in
    let told = c.in_ok-work_alone.ensures in
    record {
      line = λ spec r is right. let e : spec ≡ loaded.spec = one_spec c.lines.result.now lines_text loaded.spec spec c.lines.ensures the is in
          told.line r (subst (λ (s : Spec). AreReaders s r) e right) ∙ ap (λ (s : Spec). work_line s r c.args.count) (sym e);
      evaluated = λ spec r is right. let e : spec ≡ loaded.spec = one_spec c.lines.result.now lines_text loaded.spec spec c.lines.ensures the is in
          told.evaluated r (subst (λ (s : Spec). AreReaders s r) e right) ∙ ap (λ (s : Spec). counted c.args.journal.now + work s r c.args.count) (sym e);
      cut = λ spec r is right. tt;
      accepted = accepted_in c.lines.result.now loaded.spec c.lines.ensures the c.tell_readers.ensures;
      fault = tt;
      quiet = tt;
      known = tt;
    }
