use Rattle.std.proofs.Common.{◌≡◌, ◌+◌, ◌∷◌, drop, arith, refl, sym, ◌∙◌, subst}
use Rattle.std.specs.Prelude.{IsTrue}
use Rattle.sg_eval.specs.Journal.{counted}
use Rattle.sg_script.specs.declared.command.Command.{Command}
use Rattle.sg_editor.specs.Ask.{AreReaders, asks_nothing}
use Rattle.sg_editor.specs.Editing.{Setting, spec_in, height_in, session_of}
use Rattle.sg_workload.proofs.Performing.{at_first, next_left, cut_left, item_first}
use Rattle.sg_workload.proofs.Ending.{on_err}
use Rattle.sg_workload.proofs.working.perform.Goals as goal

pub loop-command-init : goal.loop-command-init
loop-command-init c = record {
  left = λ r right. at_first (spec_in c.args.editor.now) (height_in c.args.editor.now) r (session_of c.args.editor.now) c.args.commands.now (counted c.args.journal.now);
  setting = refl;
  later = omega arith;
  room = omega arith;
}

pub loop-command-preserved : goal.loop-command-preserved
loop-command-preserved c =
    let i = c.loop-command.command-index in
    let x = c.command-item.result in
    let inv = c.loop-command.invariant in
    let at : drop i c.args.commands.now ≡ x ∷ drop (i + 1) c.args.commands.now = item_first c.args.commands.now i x c.loop-command-test.true c.command-item.is in
    let quiet : IsTrue (asks_nothing x) = subst (λ (z : Command). IsTrue (asks_nothing z)) (sym c.command-item.is) (c.requires.quiet i x c.loop-command-test.true) in
    let total = c.step.ensures.total in
    record {
      left = λ r right. next_left c.args.editor.now c.args.commands.now (counted c.args.journal.now) r c.others_ask_nothing.ensures c.loop-command.editor inv.setting
          c.step.new.self x (drop i c.args.commands.now) (drop (i + 1) c.args.commands.now) c.loop-command.journal c.step.new.journal _ _ _ _ _ quiet at
          (c.in_ok-step.ensures.ok r (subst (λ (z : Setting). AreReaders z.contents.spec r) (sym inv.setting) right)) total (inv.left r right);
      setting = c.step.ensures.setting ∙ inv.setting;
      later = let l = inv.later in omega (arith, l, total);
      room = let r = inv.room in let m = c.in_ok-step.ensures.most in omega (arith, r, m, total);
    }

pub returns-in_err-step-clause-cut : goal.returns-in_err-step-clause-cut
returns-in_err-step-clause-cut c = λ r right.
    let i = c.loop-command.command-index in
    let x = c.command-item.result in
    let inv = c.loop-command.invariant in
    let at : drop i c.args.commands.now ≡ x ∷ drop (i + 1) c.args.commands.now = item_first c.args.commands.now i x c.loop-command-test.true c.command-item.is in
    let quiet : IsTrue (asks_nothing x) = subst (λ (z : Command). IsTrue (asks_nothing z)) (sym c.command-item.is) (c.requires.quiet i x c.loop-command-test.true) in
    on_err _ (cut_left c.args.editor.now c.args.commands.now (counted c.args.journal.now) r c.others_ask_nothing.ensures c.loop-command.editor inv.setting
    x (drop i c.args.commands.now) (drop (i + 1) c.args.commands.now) c.loop-command.journal c.step.new.journal _ _ _ _ quiet at
    (c.in_err-step.ensures.err r (subst (λ (z : Setting). AreReaders z.contents.spec r) (sym inv.setting) right)) c.step.ensures.total inv.later (inv.left r right))
