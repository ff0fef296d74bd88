use Rattle.std.proofs.Common.{◌≡◌, ◌+◌, ◌∷◌, drop, arith, refl, ◌∙◌}
use Rattle.sg_editor.specs.Editing.{session_of}
use Rattle.sg_run.specs.DeskView.{desk_in}
use Rattle.sg_output.proofs.Exits.{ended_is}
use Rattle.sg_output.proofs.Requests.{passed_start, passed_after, played_after, played_as}
use Rattle.sg_output.proofs.Turns.{session_next, session_over, item_first}
use Rattle.sg_run.proofs.Screens.{passed_at, played_at_desk, readers_at}
use Rattle.sg_run.proofs.playing.perform.Goals as goal

pub loop-command-init : goal.loop-command-init
loop-command-init g c = record {
  kept = λ r. refl;
  passed = λ r right. passed_start _ _ _;
  room = omega arith;
}

pub loop-command-preserved : goal.loop-command-preserved
loop-command-preserved g c =
    let i = c.loop-command.command-index in
    let x = c.command-item.result in
    let at : drop i c.args.commands.now ≡ x ∷ drop (i + 1) c.args.commands.now = item_first c.args.commands.now i x c.loop-command-test.true c.command-item.is in
    let inv = c.loop-command.invariant in
    record {
      kept = λ r. c.play.ensures.kept r ∙ inv.kept r;
      passed = λ r right. passed_after _ _ _ _ _ _ _ _ _
          (session_next (desk_in c.args.editor.now r) (session_of c.loop-command.editor) x (drop (i + 1) c.args.commands.now) (drop i c.args.commands.now) _ _ _ _ _ at (inv.passed r right))
          (passed_at (desk_in c.loop-command.editor r) (desk_in c.args.editor.now r) (session_of c.loop-command.editor) (session_of c.play.new.editor) x (drop (i + 1) c.args.commands.now) _ _ _ _ (inv.kept r)
          (c.in_ok-play.ensures.passed r (readers_at (desk_in c.loop-command.editor r) (desk_in c.args.editor.now r) r (inv.kept r) right) (drop (i + 1) c.args.commands.now)));
      room = let r = inv.room in let m = c.in_ok-play.ensures.most in omega (arith, r, m);
    }

pub returns-in_err-play : goal.returns-in_err-play
returns-in_err-play g c = λ r right.
    let i = c.loop-command.command-index in
    let x = c.command-item.result in
    let at : drop i c.args.commands.now ≡ x ∷ drop (i + 1) c.args.commands.now = item_first c.args.commands.now i x c.loop-command-test.true c.command-item.is in
    let inv = c.loop-command.invariant in
    played_as _ _ _ _ _ _ _ (ended_is c.in_err-play.field-0.0 _ c.from_residual.ensures.1)
    (played_after _ _ _ _ _ _ _ _ _
    (session_next (desk_in c.args.editor.now r) (session_of c.loop-command.editor) x (drop (i + 1) c.args.commands.now) (drop i c.args.commands.now) _ _ _ _ _ at (inv.passed r right))
    (played_at_desk (desk_in c.loop-command.editor r) (desk_in c.args.editor.now r) (session_of c.loop-command.editor) (x ∷ drop (i + 1) c.args.commands.now) _ _ _ _ _ (inv.kept r)
    (c.in_err-play.ensures.played r (readers_at (desk_in c.loop-command.editor r) (desk_in c.args.editor.now r) r (inv.kept r) right) (drop (i + 1) c.args.commands.now))))

pub returns : goal.returns
returns g c = λ r right.
    session_over _ (desk_in c.args.editor.now r) (session_of c.loop-command.editor) c.args.commands.now c.loop-command.command-index _ _ _ _ c.loop-command-test.false (c.loop-command.invariant.passed r right)
