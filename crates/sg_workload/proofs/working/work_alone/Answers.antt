use Rattle.std.proofs.Common.{◌≡◌, sym, subst, refl, IfOk, OnOk, OnErr, Vec, Global, ℕ, ◌+◌}
use Rattle.sg_kinds.specs.declared.spec.Spec.{Spec}
use Rattle.sg_eval.specs.Journal.{counted}
use Rattle.sg_editor.specs.Ask.{AreReaders}
use Rattle.sg_workload.specs.Loads.{worked, work, work_line}
use Rattle.sg_workload.specs.Performed.{AreCut}
use Rattle.sg_workload.proofs.Ending.{on_err, cut_before}
use Rattle.sg_workload.proofs.working.work_alone.Goals as goal

pub returns-in_err-editor-clause-cut : goal.returns-in_err-editor-clause-cut
returns-in_err-editor-clause-cut c = λ r right.
    on_err _ (cut_before (worked c.args.loaded.spec r c.args.count) (counted c.args.journal.now) (counted c.args.journal.now) refl)

pub returns : goal.returns
returns c =
    let is = c.in_ok-editor.ensures.spec in
    let told = c.work.ensures in
    record {
      line = λ r right. subst (λ (spec : Spec). IfOk c.work.result (λ (s : Vec ℕ Global). s.items ≡ work_line spec r c.args.count)) is
          (told.line r (subst (λ (spec : Spec). AreReaders spec r) (sym is) right));
      evaluated = λ r right. subst (λ (spec : Spec). OnOk c.work.result (counted c.work.new.journal ≡ counted c.args.journal.now + work spec r c.args.count)) is
          (told.evaluated r (subst (λ (spec : Spec). AreReaders spec r) (sym is) right));
      cut = λ r right. subst (λ (spec : Spec). OnErr c.work.result (AreCut (worked spec r c.args.count) (counted c.args.journal.now) (counted c.work.new.journal))) is
          (told.cut r (subst (λ (spec : Spec). AreReaders spec r) (sym is) right));
    }
