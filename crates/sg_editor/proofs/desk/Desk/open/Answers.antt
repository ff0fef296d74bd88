use Rattle.std.specs.Prelude.{◌≡◌, [], ◌∷◌, ◌++◌, length, Some}
use Rattle.std.proofs.Common.{sym, ap, ◌∙◌, subst, arith}
use Rattle.sg_eval.specs.Journal.{now_of}
use Rattle.sg_script.specs.declared.message.Message.TheVariants as message
use Rattle.sg_editor.specs.Ask.{opens}
use Rattle.sg_editor.specs.Editing.{IsKept, Kept, session_in}
use Rattle.sg_editor.specs.Steps.{Took}
use Rattle.sg_editor.proofs.Stays.{opened_kept}
use Rattle.sg_editor.proofs.Taken.{on_err, opened, opens_some, opens_took}
use Rattle.sg_editor.proofs.desk.Desk.open.Goals as goal

pub returns-in_err-buffer-clause-some : goal.returns-in_err-buffer-clause-some
returns-in_err-buffer-clause-some c =
    on_err c.from_residual-in_err-buffer.result _
    (opens_some c.args.base.now.contents.spec c.args.self.now c.args.name.now c.args.t.now (now_of c.args.journal.now) (now_of c.begun.new.journal) c.requires.begun c.in_err-buffer.ensures.noted)

pub returns-clause-took : goal.returns-clause-took
returns-clause-took c =
    let k = c.args.self.now in
    let h = c.in_ok-buffer.buffer in
    let items : c.push.new.self.items ≡ k.buffers ++ record { name = c.args.name.now; buffer = h } ∷ [] = grind arith in
    let place : c.len-place.result ≡ length k.buffers = grind arith in
    let clip : c.self.inside.clip ≡ k.clip = ap (λ (x : Kept). x.clip) (c.self.view_is ∙ c.leave.ensures) in
    let loads : c.self.inside.loads ≡ k.loads = ap (λ (x : Kept). x.loads) (c.self.view_is ∙ c.leave.ensures) in
    let same : record { buffers = c.push.new.self.items; current = Some c.len-place.result; clip = c.self.inside.clip; loads = c.self.inside.loads } ≡ opened k c.args.name.now h =
    λ i. record { buffers = items i; current = Some (place i); clip = clip i; loads = loads i } in
    subst (λ (x : Kept). Took (opens c.args.base.now.contents.spec c.args.name.now c.args.t.now (session_in k)) x message.Fine (now_of c.begun.new.journal)) (sym same)
    (opens_took c.args.base.now.contents.spec k c.args.name.now c.args.t.now h (now_of c.args.journal.now) (now_of c.begun.new.journal) c.requires.begun c.in_ok-buffer.ensures.state c.in_ok-buffer.ensures.evaluated)

pub returns-clause-kept : goal.returns-clause-kept
returns-clause-kept c =
    let k = c.args.self.now in
    let h = c.in_ok-buffer.buffer in
    let items : c.push.new.self.items ≡ k.buffers ++ record { name = c.args.name.now; buffer = h } ∷ [] = grind arith in
    let place : c.len-place.result ≡ length k.buffers = grind arith in
    let clip : c.self.inside.clip ≡ k.clip = ap (λ (x : Kept). x.clip) (c.self.view_is ∙ c.leave.ensures) in
    let loads : c.self.inside.loads ≡ k.loads = ap (λ (x : Kept). x.loads) (c.self.view_is ∙ c.leave.ensures) in
    let same : record { buffers = c.push.new.self.items; current = Some c.len-place.result; clip = c.self.inside.clip; loads = c.self.inside.loads } ≡ opened k c.args.name.now h =
    λ i. record { buffers = items i; current = Some (place i); clip = clip i; loads = loads i } in
    subst (IsKept c.args.base.now.contents.spec c.args.base.now.height) (sym same)
    (opened_kept c.args.base.now.contents.spec c.args.base.now.height k c.requires.kept c.args.name.now h c.in_ok-buffer.ensures.over)
