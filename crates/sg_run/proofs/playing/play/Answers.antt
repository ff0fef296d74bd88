use Rattle.std.proofs.Common.{◌≡◌, ◌+◌, ℕ, List, length, arith, refl, ap, ◌∙◌, subst, inl, inr}
use Rattle.sg_eval.specs.Journal.{counted, now_of}
use Rattle.sg_eval.specs.declared.journal.Instance.{Instance}
use Rattle.sg_editor.specs.Editing.{session_of}
use Rattle.sg_outside.specs.Sink.{appended, CutShort}
use Rattle.sg_output.specs.declared.status.Status.TheVariants.{Memory}
use Rattle.sg_output.specs.Statuses.{sink_status}
use Rattle.sg_output.proofs.Exits.{exits, is_cut, memory_of, fault_of}
use Rattle.sg_output.proofs.Turns.{command_passed, command_cut, command_unput}
use Rattle.sg_run.specs.DeskView.{desk_in}
use Rattle.sg_run.proofs.Screens.{shown_at}
use Rattle.sg_run.proofs.playing.play.Goals as goal

pub returns-in_err-message-clause-played : goal.returns-in_err-message-clause-played
returns-in_err-message-clause-played g c = λ r right.
    let counts : counted c.step.new.journal ≡ counted c.args.journal.now + length (now_of c.step.new.journal) = omega (arith, c.step.ensures.total) in
    exits _ Memory _ c.from_residual.ensures.1
    (λ commands. command_cut (desk_in c.args.editor.now r) (session_of c.args.editor.now) c.args.command.now (now_of c.step.new.journal) _ _ _ _ _ _ _ (c.in_err-message.ensures.err r right) counts commands)

pub returns-in_err-block-clause-played : goal.returns-in_err-block-clause-played
returns-in_err-block-clause-played g c = λ r right.
    let counts : counted c.step.new.journal ≡ counted c.args.journal.now + length (now_of c.step.new.journal) = omega (arith, c.step.ensures.total) in
    exits _ Memory _ c.from_residual-in_err-block.ensures.1
    (λ commands. command_unput (desk_in c.args.editor.now r) (session_of c.args.editor.now) c.args.command.now c.step.new.self c.in_ok-message.message (now_of c.step.new.journal)
    _ _ _ _ _ _ _ _ Memory (c.in_ok-message.ensures.ok r right) tt (λ is. (refl, inl refl)) (λ is. cc) (omega arith) counts commands)

pub returns-in_err-put-clause-played : goal.returns-in_err-put-clause-played
returns-in_err-put-clause-played g c = λ r right.
    let counts : counted c.step.new.journal ≡ counted c.args.journal.now + length (now_of c.step.new.journal) = omega (arith, c.step.ensures.total) in
    let e = c.in_err-put.field-0.0 in
    let block = shown_at c.args.editor.now c.step.new.self _ _ _ _ (c.as_slice.ensures.value ∙ c.in_ok-block.ensures.printed) c.step.ensures.setting (ap (λ (es : List Instance). length es) c.now.ensures) in
    let P : List ℕ → Type 0 = λ b. CutShort (g.K.Sink.state c.args.sink.now).written (g.K.Sink.state c.put.new.self).written b in
    exits _ (sink_status e) _ c.from_residual-in_err-put.ensures.1
    (λ commands. command_unput (desk_in c.args.editor.now r) (session_of c.args.editor.now) c.args.command.now c.step.new.self c.in_ok-message.message (now_of c.step.new.journal)
    _ _ _ _ _ _ _ _ (sink_status e) (c.in_ok-message.ensures.ok r right) (is_cut e)
    (λ is. (memory_of e _ c.in_err-put.ensures.memory is, inr c.in_err-put.ensures.counted))
    (λ is. (subst P block (fault_of e _ c.in_err-put.ensures.failed is), c.in_err-put.ensures.counted, fault_of e _ c.in_err-put.ensures.cause is)) c.in_err-put.ensures.later counts commands)

pub returns-clause-passed : goal.returns-clause-passed
returns-clause-passed g c = λ r right.
    let counts : counted c.step.new.journal ≡ counted c.args.journal.now + length (now_of c.step.new.journal) = omega (arith, c.step.ensures.total) in
    let block = shown_at c.args.editor.now c.step.new.self _ _ _ _ (c.as_slice.ensures.value ∙ c.in_ok-block.ensures.printed) c.step.ensures.setting (ap (λ (es : List Instance). length es) c.now.ensures) in
    rw c.in_ok-block.ensures.same
    (λ commands. command_passed (desk_in c.args.editor.now r) (session_of c.args.editor.now) c.args.command.now c.step.new.self c.in_ok-message.message (now_of c.step.new.journal)
    _ _ _ _ _ _ _ _ (c.in_ok-message.ensures.ok r right)
    (c.in_ok-put.ensures.ok ∙ ap (λ (b : List ℕ). appended (g.K.Sink.state c.args.sink.now).written b) block) c.in_ok-put.ensures.counted c.in_ok-put.ensures.later counts commands)
