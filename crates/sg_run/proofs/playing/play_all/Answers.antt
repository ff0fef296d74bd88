use Rattle.std.proofs.Common.{◌≡◌, refl}
use Rattle.sg_eval.specs.Journal.{counted}
use Rattle.sg_editor.specs.Session.{start}
use Rattle.sg_editor.specs.Editing.{session_of}
use Rattle.sg_output.specs.Session.{desk}
use Rattle.sg_output.proofs.Endings.{ends_early}
use Rattle.sg_output.proofs.Exits.{ended_is}
use Rattle.sg_output.proofs.Requests.{played_as, played_at}
use Rattle.sg_output.proofs.Turns.{session_quiet, session_from}
use Rattle.sg_output.specs.declared.status.Status.TheVariants.{Memory}
use Rattle.sg_run.specs.DeskView.{desk_in}
use Rattle.sg_run.proofs.Screens.{readers_at}
use Rattle.sg_run.proofs.playing.play_all.Goals as goal

pub returns-in_err-editor : goal.returns-in_err-editor
returns-in_err-editor g c = λ r right.
    played_as _ _ _ Memory _ _ _ (ended_is Memory _ c.from_residual.ensures.1)
    (played_at _ _ Memory _ _ (ends_early _ _ (counted c.args.journal.now) _ (session_quiet (desk c.args.loaded.spec c.args.width c.args.height r) c.args.commands.now start)) refl)

pub returns : goal.returns
returns g c = λ r right.
    let e = c.in_ok-editor.editor in
    let same : desk_in e r ≡ desk c.args.loaded.spec c.args.width c.args.height r = λ i. desk (c.in_ok-editor.ensures.spec i) (c.in_ok-editor.ensures.width i) (c.in_ok-editor.ensures.height i) r in
    let h = c.in_ok-editor.ensures in
    session_from (desk_in e r) (desk c.args.loaded.spec c.args.width c.args.height r) (session_of e) start c.args.commands.now c.args.commands.now _ _ _ _ _ same h.session refl
    (c.perform.ensures r (readers_at (desk_in e r) (desk c.args.loaded.spec c.args.width c.args.height r) r same right))
