use Rattle.std.proofs.Common.{◌≡◌, ◌∙◌, sym, ap, subst, arith, refl, ℕ, List, length, IfOk, Vec, Global}
use Rattle.std.specs.Prelude.{All, IsTrue}
use Rattle.sg_eval.specs.Journal.{counted}
use Rattle.sg_script.specs.declared.command.Command.{Command}
use Rattle.sg_kinds.specs.Values.{Bytes}
use Rattle.sg_editor.specs.Ask.{Readers, AreReaders, asks_nothing}
use Rattle.sg_editor.specs.Editing.{spec_in, height_in, session_of}
use Rattle.sg_workload.specs.Workload.{workload}
use Rattle.sg_workload.specs.Loads.{worked}
use Rattle.sg_workload.proofs.Ending.{cut_before, cut_behind, all_performed, all_cut, work_counted, line_told, reads_at, on_ok, on_err}
use Rattle.sg_workload.proofs.working.work.Goals as goal

pub returns-in_err-commands-clause-cut : goal.returns-in_err-commands-clause-cut
returns-in_err-commands-clause-cut c = λ r right.
    on_err _ (cut_before (worked (spec_in c.args.editor.now) r c.args.count) (counted c.args.journal.now) (counted c.args.journal.now) refl)

pub returns-in_err-shelf-clause-cut : goal.returns-in_err-shelf-clause-cut
returns-in_err-shelf-clause-cut c = λ r right.
    on_err _ (cut_before (worked (spec_in c.args.editor.now) r c.args.count) (counted c.args.journal.now) (counted c.args.journal.now) refl)

pub perform-requires : goal.perform-requires
perform-requires c =
    let few = c.sizes.ensures.few c.args.count c.requires.few in
    let same : c.deref.result.now ≡ workload c.args.count = c.deref.ensures.value ∙ c.in_ok-commands.ensures in
    record {
      quiet = subst (λ (cs : List Command). All (λ x. IsTrue (asks_nothing x)) cs) (sym same) (c.asks_nothing.ensures c.args.count);
      room = omega (arith, few, ap length same);
    }

pub returns-in_err-perform-clause-cut : goal.returns-in_err-perform-clause-cut
returns-in_err-perform-clause-cut c = λ r right.
    let e = c.args.editor.now in
    on_err _ (all_cut (spec_in e) (height_in e) r (session_of e) c.deref.result.now c.args.count c.requires.window c.requires.first (c.deref.ensures.value ∙ c.in_ok-commands.ensures)
    (counted c.args.journal.now) (counted c.perform.new.journal) (c.in_err-perform.ensures.cut r right))

pub returns-in_err-errors-clause-cut : goal.returns-in_err-errors-clause-cut
returns-in_err-errors-clause-cut c = λ r right.
    let e = c.args.editor.now in
    let done = all_performed (spec_in e) (height_in e) r (session_of e) c.deref.result.now c.args.count c.requires.window c.requires.first (c.deref.ensures.value ∙ c.in_ok-commands.ensures)
    (session_of c.perform.new.editor) (counted c.args.journal.now) (counted c.perform.new.journal) (c.in_ok-perform.ensures.done r right) in
    on_err _ (cut_behind (worked (spec_in e) r c.args.count) (session_of c.perform.new.editor) (counted c.args.journal.now) (counted c.perform.new.journal) done)

pub returns : goal.returns
returns c =
    let e = c.args.editor.now in
    let after = c.perform.new.editor in
    let same : c.deref.result.now ≡ workload c.args.count = c.deref.ensures.value ∙ c.in_ok-commands.ensures in
    let begun : ℕ = counted c.args.journal.now in
    let ended : ℕ = counted c.perform.new.journal in
    let done = λ (r : Readers) (right : AreReaders (spec_in e) r).
    all_performed (spec_in e) (height_in e) r (session_of e) c.deref.result.now c.args.count c.requires.window c.requires.first same
    (session_of after) begun ended (c.in_ok-perform.ensures.done r right) in
    record {
      line = λ r right. subst (λ (b : Bytes). IfOk c.line_of.result (λ (s : Vec ℕ Global). s.items ≡ b))
          (line_told (spec_in e) r c.args.count (session_of after) begun ended c.nodes.result c.as_slice.result.now _ (done r right) c.nodes.ensures
          (reads_at e.setting after.setting (session_of after) c.as_slice.result.now c.perform.ensures.kept (c.as_slice.ensures.value ∙ c.in_ok-errors.ensures)) (omega arith))
          c.line_of.ensures;
      evaluated = λ r right. on_ok c.line_of.result (work_counted (spec_in e) r c.args.count (session_of after) begun ended (done r right));
      cut = λ r right. on_err c.line_of.result (cut_behind (worked (spec_in e) r c.args.count) (session_of after) begun ended (done r right));
    }
